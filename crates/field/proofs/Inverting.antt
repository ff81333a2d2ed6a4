-- Inverting a run of numbers, one after another.
-- Assumes nothing.
use Rattle.std.proofs.Common.{◌≡◌, List, ℕ, ◌+◌, ◌<◌, ◌≤◌, length, get_or, set, sym, ap, ◌∙◌, arith, get_or-set_same, get_or-set_other, length-set, below_more}
use Rattle.algebra.specs.Field.{Ops}
use Rattle.algebra.specs.Shape.{Field}
use Rattle.field.specs.Numbers.{Inverted}

pub inverted_more : {A : Type 0} (f : Field A) (was is : List ℕ) (to j v : ℕ) → Inverted f was is to j → to + j < length is →
    f.coding.elem v ≡ f.ops.inv (f.coding.elem (get_or is (to + j) 0)) → Inverted f was (set is (to + j) v) to (j + 1)
inverted_more f was is to j v r h e = record {
  long = length-set is (to + j) v ∙ r.long;
  done = below_more _ _
      (λ i l. ap f.coding.elem (get_or-set_other is (to + j) (to + i) v 0 (λ q. omega arith)) ∙ r.done i l)
      (ap f.coding.elem (get_or-set_same is (to + j) v 0 h) ∙ e ∙ ap (λ y. f.ops.inv (f.coding.elem y)) (r.high (to + j) (omega arith)));
  low = λ i l. get_or-set_other is (to + j) i v 0 (λ q. omega arith) ∙ r.low i l;
  high = λ i l. get_or-set_other is (to + j) i v 0 (λ q. omega arith) ∙ r.high i (omega arith);
}
