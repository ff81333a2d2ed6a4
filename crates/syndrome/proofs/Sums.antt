-- The sums of the checks over the trays that are not listed.
-- Assumes nothing.
use mathlib.Core.Path.{◌≡◌, sym, ap, ap₂, ◌∙◌}
use mathlib.Core.Bool.{true, false, false≢true}
use mathlib.Core.List.{List}
use Prim.Native.Nat.{ℕ, ◌+◌, ◌*◌, ◌<◌, ◌≤◌}
use native.Mathlib.Nat.{zero-add, add_assoc}
use native.Mathlib.Omega.{arith}
use lib.ListN.{length, get_or}
use Rattle.lists.specs.Lists.{absent}
use Rattle.lists.proofs.Numbered.{absent_all, absent_true}
use Rattle.algebra.specs.Sum.{pow}
use Rattle.algebra.proofs.Ring.{add_zero, mul_zero}
use Rattle.algebra.proofs.Pow.{pow_zero}
use Rattle.algebra.proofs.Sum.{sum_zero, sum_add_one}
use Rattle.algebra.proofs.Erasure.{fill_at, fill_outside, place_cases}
use Rattle.algebra.specs.Shape.{Field}
use Rattle.algebra.specs.Plain.{Working}
use Rattle.algebra.proofs.Plain.{elem_zero}
use Rattle.kernel.specs.Inner.{cell, Run, filled, copied}
use Rattle.kernel.proofs.Rows.{row_before, cell_is}
use Rattle.layout.specs.declared.Layout.{Layout}
use Rattle.layout.specs.Layout.{trays, layers}
use Rattle.blocks.specs.Inner.{Block}
use Rattle.codeword.specs.Codeword.{symbol_at, point_at}
use Rattle.syndrome.specs.Inner.{entry_of, Listed, survivor_at, TrayPoints, Terms, TrayTerms, KeptTerms, Sums}

module _ {A : Type 0} {f : Field A} (W : Working f) where
  open f use {ops}
  open f.coding use {elem}
  open W.field use {laws}

  -- a tray's symbols, points and terms
  module _ (l : Layout) (w first r : ℕ) (c : List ℕ) (x total : ℕ) (row before cur was is : List ℕ) (e : total ≡ layers l) (k : Run (copied c (x * total + first)) before cur 0 w) where
    powers_of : ((t j : ℕ) → t < r → j < w → pow ops (elem (get_or row j 0)) t ≡ pow ops (point_at f l (first + j) x) t) → Terms f w r row cur was is → TrayTerms f l w first r c x was is
    unfolding symbol_at copied
    powers_of p g = record {
      at = λ t j h b.
          g.at t j h b
          ∙ ap₂ (λ y v. ops.add (cell f w was t j) (ops.mul y v)) (p t j h b)
          (ap (λ i. elem (get_or cur i 0)) (sym (zero-add j)) ∙ ap elem (k.done j b)
          ∙ ap (λ i. elem (get_or c i 0)) (ap (λ n. x * n + first + j) e ∙ add_assoc (x * layers l) first j));
    }

    pub tray_of : (TrayPoints f) l w first x row → Terms f w r row cur was is → TrayTerms f l w first r c x was is
    tray_of p = powers_of (λ t j h b. ap (λ y. pow ops y t) (p.at j b))

    -- check 0 has the powers 0 of the points, whatever these are
    pub tray_first : r < 2 → Terms f w r row cur was is → TrayTerms f l w first r c x was is
    tray_first few = powers_of (λ t j h b. let z : t ≡ 0 = omega arith in rw z (pow_zero ops (elem (get_or row j 0)) ∙ sym (pow_zero ops (point_at f l (first + j) x))))

  module _ (l : Layout) (es c : List ℕ) (j : ℕ) where
    -- a tray listed counts as zero
    pub survivor_listed : (x : ℕ) → Listed l es → absent es x ≡ false → survivor_at f l es c j x ≡ ops.zero
    unfolding survivor_at
    survivor_listed x listed h =
        place_cases (survivor_at f l es c j x ≡ ops.zero) (entry_of es) (length es) x
        (λ k b e. ap (survivor_at f l es c j) e ∙ fill_at (entry_of es) (λ k. ops.zero) (λ y. symbol_at f l c y j) (length es) (trays l) listed.places k b)
        (λ kept. absurd (false≢true (sym h ∙ sym (absent_true es x (λ k b e. kept k b (sym e))))))

    -- another is looked up
    pub survivor_kept : (x : ℕ) → absent es x ≡ true → survivor_at f l es c j x ≡ symbol_at f l c x j
    unfolding survivor_at
    survivor_kept x h = fill_outside (entry_of es) (λ k. ops.zero) (λ y. symbol_at f l c y j) (length es) x (λ k b q. absent_all es x h k b (sym q))

  pub kept_listed : (l : Layout) (w first r : ℕ) (c es : List ℕ) (x : ℕ) (was : List ℕ) → Listed l es → absent es x ≡ false → KeptTerms f l w first r c es x was was
  kept_listed l w first r c es x was listed h = record {
    at = λ t j ht hj.
        sym (ap (λ v. ops.add (cell f w was t j) (ops.mul (pow ops (point_at f l (first + j) x) t) v)) (survivor_listed l es c (first + j) x listed h)
        ∙ ap (ops.add (cell f w was t j)) (mul_zero ops laws _) ∙ add_zero ops laws (cell f w was t j));
  }

  pub kept_of : (l : Layout) (w first r : ℕ) (c es : List ℕ) (x : ℕ) (was is : List ℕ) → absent es x ≡ true → TrayTerms f l w first r c x was is → KeptTerms f l w first r c es x was is
  kept_of l w first r c es x was is h g = record {
    at = λ t j ht hj. g.at t j ht hj ∙ ap (λ v. ops.add (cell f w was t j) (ops.mul (pow ops (point_at f l (first + j) x) t) v)) (sym (survivor_kept l es c (first + j) x h));
  }

  -- tray after tray
  pub sums_none : (l : Layout) (w first r v : ℕ) (c es was is : List ℕ) → v ≡ 0 → Run (filled v) was is 0 (r * w) → Sums f l w first r c es 0 is
  unfolding filled
  sums_none l w first r v c es was is e z = record {
    at = λ t j ht hj.
        sym (cell_is f w is t j) ∙ ap (λ i. elem (get_or is i 0)) (sym (zero-add (t * w + j)))
        ∙ ap elem (z.done (t * w + j) (let b = row_before t r w ht in omega arith) ∙ e) ∙ elem_zero W ∙ sym (sum_zero ops _);
  }

  pub sums_more : (l : Layout) (w first r : ℕ) (c es : List ℕ) (x : ℕ) (was is : List ℕ) → Sums f l w first r c es x was → KeptTerms f l w first r c es x was is → Sums f l w first r c es (x + 1) is
  sums_more l w first r c es x was is s g = record {
    at = λ t j ht hj.
        g.at t j ht hj ∙ ap (λ y. ops.add y (ops.mul (pow ops (point_at f l (first + j) x) t) (survivor_at f l es c (first + j) x))) (s.at t j ht hj)
        ∙ sym (sum_add_one ops x (λ y. ops.mul (pow ops (point_at f l (first + j) y) t) (survivor_at f l es c (first + j) y)));
  }

-- ---- places
pub tray_in : {X : Type 0} (l : Layout) (w first x total : ℕ) (c : List X) → Block l w first → length c ≡ trays l * layers l → x < trays l → total ≡ layers l → x * total + first + w ≤ length c
tray_in l w first x total c b e h t =
    let r : x * layers l + layers l ≤ trays l * layers l = row_before x (trays l) (layers l) h in
    let q : x * total ≡ x * layers l = ap (λ n. x * n) t in
    let i = b.inside in
    omega arith
