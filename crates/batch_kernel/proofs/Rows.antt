-- The steps of the sums, over any field.
-- Assumes nothing.
use mathlib.Core.Path.{◌≡◌, refl, sym, ap, ap₂, ◌∙◌, subst}
use mathlib.Core.List.{List}
use Prim.Native.Nat.{ℕ, ◌+◌, ◌*◌, ◌<◌, ◌≤◌}
use native.Mathlib.Nat.{zero-add, mul_assoc}
use native.Mathlib.Decide.{ℕ_discrete}
use native.Mathlib.Omega.{arith}
use mir.Val.{Fits}
use mir.Syntax.{w64}
use lib.ListN.{length, get_or}
use Rattle.algebra.specs.Sum.{sum}
use Rattle.algebra.specs.Shape.{Field}
use Rattle.algebra.specs.Plain.{plus, Working}
use Rattle.algebra.proofs.Plain.{elem_times}
use Rattle.algebra.proofs.Sum.{sum_zero, sum_add_one}
use Rattle.kernel.specs.Inner.{Run, filled, copied, added_multiple}
use Rattle.kernel.proofs.Rows.{row_before}
use Rattle.symbol257.specs.Elem.{gf257}
use Rattle.symbol257.proofs.Working.{working}
use Rattle.batch_kernel.specs.Inner.{term_at, row_of, Summed, Weighs, Adding}
use Rattle.batch_kernel.specs.Wide.{weight_at}

module _ {A : Type 0} {f : Field A} (W : Working f) (weight : ℕ → ℕ → A) (src at : List ℕ) (o to w : ℕ) (was : List ℕ) where
  open f use {ops}
  open f.coding use {elem, val}

  pub row_none : (is : List ℕ) → Run (filled 0) was is to w → Run (row_of f weight src at o 0) is is to w
  unfolding filled row_of
  row_none is r = record {
    long = refl;
    done = λ j h. r.done j h ∙ sym (ap val (sum_zero ops _ ∙ sym W.zero_is) ∙ W.field.coded.val_elem 0 (let s = W.size_is in omega arith));
    low = λ i h. refl;
    high = λ i h. refl;
  }

  pub row_more : (t v : ℕ) (is next : List ℕ) → elem v ≡ weight t o → Run (row_of f weight src at o t) was is to w → Run (added_multiple f is to src (get_or at t 0) v) is next to w →
      Run (row_of f weight src at o (t + 1)) was next to w
  unfolding row_of added_multiple term_at plus
  row_more t v is next e r s = record {
    long = s.long ∙ r.long;
    done = λ j h.
        s.done j h ∙ ap val (ap₂ ops.add (ap elem (r.done j h) ∙ W.field.coded.elem_val _) (elem_times W (get_or src (get_or at t 0 + j) 0) v ∙ ap (ops.mul (elem (get_or src (get_or at t 0 + j) 0))) e)
        ∙ sym (sum_add_one ops t _));
    low = λ i h. s.low i h ∙ r.low i h;
    high = λ i h. s.high i h ∙ r.high i h;
  }

module _ {A : Type 0} {f : Field A} (weight : ℕ → ℕ → A) (src at : List ℕ) (first w n : ℕ) (was : List ℕ) where
  pub sums_more : (o : ℕ) (is next : List ℕ) → w ≤ 128 → Summed f weight src at first w o n was is → Run (row_of f weight src at (first + o) (n * 8)) is next (o * 128) w →
      Summed f weight src at first w (o + 1) n was next
  unfolding row_of
  sums_more o is next narrow s r = record { long = r.long ∙ s.long; done = λ i j hi hj. go i j hi hj (ℕ_discrete i o) }
    where
      go : (i j : ℕ) → i < o + 1 → j < w → Dec (i ≡ o) → get_or next (i * 128 + j) 0 ≡ f.coding.val (sum f.ops (n * 8) (term_at f weight src at (first + i) j))
      go i j hi hj (yes z) =
          subst (λ (y : ℕ). get_or next (y * 128 + j) 0 ≡ f.coding.val (sum f.ops (n * 8) (term_at f weight src at (first + y) j))) (sym z) (r.done j hj)
      go i j hi hj (no z) = r.low (i * 128 + j) (omega arith) ∙ s.done i j (omega arith) hj

module _ (n to w : ℕ) (src at picks : List ℕ) (wide o : ℕ) (acc : List ℕ) (s : Adding n to w src at picks wide o acc) (t : ℕ) (h : t < n * 8) where
  factor_in : t * wide + wide ≤ length picks
  factor_in = let a = row_before t (n * 8) wide h in let b = mul_assoc n 8 wide in let d = s.factors in omega arith

  pub factor_read : t * wide + o < length picks
  factor_read = let a = factor_in in let b = s.inside in omega arith

  pub factor_fits : Fits w64 (length picks) → Fits w64 (t * wide)
  factor_fits b = let a = factor_in in omega arith

  pub factor_at_fits : Fits w64 (length picks) → Fits w64 (t * wide + o)
  factor_at_fits b = let a = factor_read in omega arith

pub weight_is : (picks : List ℕ) (wide t o v : ℕ) → v ≡ get_or picks (t * wide + o) 0 → gf257.coding.elem v ≡ weight_at gf257 picks wide t o
unfolding weight_at
weight_is picks wide t o v e = ap gf257.coding.elem e

pub row_next : (picks : List ℕ) (wide : ℕ) (src at : List ℕ) (o to w : ℕ) (was : List ℕ) (t v : ℕ) (is next : List ℕ) → v ≡ get_or picks (t * wide + o) 0 →
    Run (row_of gf257 (weight_at gf257 picks wide) src at o t) was is to w → Run (added_multiple gf257 is to src (get_or at t 0) v) is next to w → Run (row_of gf257 (weight_at gf257 picks wide) src at o (t + 1)) was next to w
row_next picks wide src at o to w was t v is next e r s = row_more working (weight_at gf257 picks wide) src at o to w was t v is next (weight_is picks wide t o v e) r s

-- ---- the factors
module _ (n wide : ℕ) (was is g : List ℕ) (h : n * (16 * wide) ≤ length was) (r : Run (copied g 0) was is 0 (n * 8 * wide)) where
  pub weighs : Weighs gf257 (weight_at gf257 is wide) g wide n
  unfolding weight_at copied
  weighs = record {
    at = λ t o ht ho.
        let a = row_before t (n * 8) wide ht in
        ap (λ (y : ℕ). gf257.coding.elem (get_or is y 0)) (sym (zero-add (t * wide + o)))
        ∙ ap gf257.coding.elem (r.done (t * wide + o) (omega arith) ∙ ap (λ (y : ℕ). get_or g y 0) (zero-add (t * wide + o)));
  }
