-- The rows of a block: the products of differences, and the test of a run of residues.
-- Assumes nothing.
use mathlib.Core.Path.{◌≡◌, sym, ap, ap₂, ◌∙◌, subst}
use mathlib.Core.List.{List}
use Prim.Native.Nat.{ℕ, ◌+◌, ◌*◌, ◌<◌, ◌≤◌}
use native.Mathlib.Nat.{zero-add}
use native.Mathlib.Numerals.{add-one}
use native.Mathlib.Decide.{ℕ_discrete}
use native.Mathlib.Omega.{arith}
use mir.Val.{Fits}
use mir.Syntax.{w64}
use lib.ListN.{length, get_or}
use Rattle.algebra.specs.Shape.{Field}
use Rattle.algebra.specs.Locate.{gaps}
use Rattle.algebra.specs.Plain.{minus, times, Working}
use Rattle.algebra.proofs.Ring.{eq_of_sub, add_neg}
use Rattle.algebra.proofs.Plain.{laws, elem_zero, elem_one, elem_nil, elem_minus, elem_times, minus_below}
use Rattle.kernel.specs.Inner.{cell, Run, filled, parted}
use Rattle.kernel.proofs.Rows.{row_before, cell_is}
use Rattle.locating.specs.Inner.{GapsTo, RowAgrees}

module _ {A : Type 0} {f : Field A} (W : Working f) where
  open f use {ops}
  open f.coding use {elem}

  -- ---- the product of differences
  pub gaps_none : (w n : ℕ) (points was is : List ℕ) → Run (filled 1) was is 0 w → GapsTo f w n points 0 is
  unfolding filled gaps
  gaps_none w n points was is r = record { at = λ j h. ap (λ i. elem (get_or is i 0)) (sym (zero-add j)) ∙ ap elem (r.done j h) ∙ elem_one W }

  gaps_next : (q : ℕ → A) (i : ℕ) (x : A) → gaps ops q (i + 1) x ≡ ops.mul (gaps ops q i x) (ops.add x (ops.neg (q i)))
  unfolding gaps
  gaps_next q i x = ap (λ n. gaps ops q n x) (add-one i)

  pub gaps_more : (w n i : ℕ) (points was is : List ℕ) → GapsTo f w n points i was → Run (parted f was 0 points (n * w) (i * w)) was is 0 w → GapsTo f w n points (i + 1) is
  unfolding parted
  gaps_more w n i points was is g r = record {
    at = λ j h.
        ap (λ i. elem (get_or is i 0)) (sym (zero-add j))
        ∙ ap elem (r.done j h)
        ∙ elem_times W (get_or was (0 + j) 0) (minus f (get_or points (n * w + j) 0) (get_or points (i * w + j) 0))
        ∙ ap₂ ops.mul (ap (λ i. elem (get_or was i 0)) (zero-add j) ∙ g.at j h)
        (elem_minus W (get_or points (n * w + j) 0) (get_or points (i * w + j) 0) ∙ ap₂ (λ a b. ops.add a (ops.neg b)) (cell_is f w points n j) (cell_is f w points i j))
        ∙ sym (gaps_next (λ q. cell f w points q j) i (cell f w points n j));
  }

  pub gaps_end : (w n i : ℕ) (points cur : List ℕ) → GapsTo f w n points i cur → i ≤ n → n ≤ i → GapsTo f w n points n cur
  gaps_end w n i points cur g a b = let e : i ≡ n = omega arith in subst (λ y. GapsTo f w n points y cur) e g

  -- ---- the test of a run of residues
  -- a difference is zero exactly where the two stand for the same symbol
  same_from : (a b : ℕ) → minus f a b ≡ 0 → elem a ≡ elem b
  same_from a b e = eq_of_sub ops (laws W) _ _ (sym (elem_minus W a b) ∙ ap elem e ∙ elem_zero W)

  same_to : (a b : ℕ) → elem a ≡ elem b → minus f a b ≡ 0
  same_to a b e = elem_nil W _ (minus_below W a b) (elem_minus W a b ∙ ap (λ x. ops.add x (ops.neg (elem b))) e ∙ add_neg ops (laws W) (elem b))

  -- the numbers of a turn of the loop: x of the row, y and z of the residues, their product and the difference
  module _ (zeroth first : List ℕ) (at : ℕ) (row : List ℕ) (j x y v z d : ℕ) (ex : x ≡ get_or row j 0) (ey : y ≡ get_or zeroth (at + j) 0) (ev : v ≡ times f x y)
      (ez : z ≡ get_or first (at + j) 0) (ed : d ≡ minus f z v) where
    right : elem v ≡ ops.mul (elem (get_or row j 0)) (elem (get_or zeroth (at + j) 0))
    right = ap elem ev ∙ elem_times W x y ∙ ap₂ (λ a b. ops.mul (elem a) (elem b)) ex ey

    pub agrees_more : d ≡ 0 → RowAgrees f zeroth first at j row → RowAgrees f zeroth first at (j + 1) row
    agrees_more e g i h = go (ℕ_discrete i j)
      where
        go : Dec (i ≡ j) → elem (get_or first (at + i) 0) ≡ ops.mul (elem (get_or row i 0)) (elem (get_or zeroth (at + i) 0))
        go (yes q) = subst (λ n. elem (get_or first (at + n) 0) ≡ ops.mul (elem (get_or row n 0)) (elem (get_or zeroth (at + n) 0))) (sym q)
            (ap elem (sym ez) ∙ same_from z v (sym ed ∙ e) ∙ right)
        go (no q) = g i (omega arith)

    pub agrees_not : (w : ℕ) → j < w → ¬ (d ≡ 0) → ¬ (RowAgrees f zeroth first at w row)
    agrees_not w h n g = n (ed ∙ same_to z v (ap elem ez ∙ g j h ∙ sym right))
