-- Whether what was found meets the checks that were not needed to solve.
-- Assumes nothing.
use mathlib.Core.Path.{◌≡◌, sym, ap, ap₂, ◌∙◌, subst}
use mathlib.Core.Bool.{Bool, true, false, false≢true}
use mathlib.Core.List.{List}
use Prim.Native.Nat.{ℕ, ◌+◌, ◌-◌, ◌*◌, ◌/◌, ◌%◌, ◌<◌, ◌≤◌}
use native.Mathlib.Nat.{zero-add, mod-lt, div-add-mod', div-lt_iff_lt-mul}
use native.Mathlib.Decide.{dec_lt}
use native.Mathlib.Omega.{arith}
use lib.ListN.{length, get_or}
use Rattle.algebra.specs.Sum.{pow}
use Rattle.algebra.specs.Lagrange.{check}
use Rattle.algebra.specs.Erasure.{recover}
use Rattle.algebra.specs.Repair.{restored}
use Rattle.algebra.proofs.Ring.{add_zero, add_assoc}
use Rattle.algebra.proofs.Sum.{sum_zero, sum_add_one, sum_congr}
use Rattle.algebra.proofs.Erasure.{check_fill}
use Rattle.algebra.proofs.Restore.{restored_codeword}
use Rattle.algebra.specs.Shape.{Field}
use Rattle.algebra.specs.Plain.{Working}
use Rattle.kernel.specs.Inner.{cell, Run, copied, all_zero}
use Rattle.kernel.proofs.Runs.{zero_all, zero_from}
use Rattle.kernel.proofs.Rows.{row_end, row_before, cell_is}
use Rattle.layout.specs.declared.Layout.{Layout}
use Rattle.layout.specs.Layout.{trays, checks, layers, Admissible}
use Rattle.codeword.specs.Codeword.{shape_of, symbol_at, point_at}
use Rattle.codeword.proofs.Usable.{usable}
use Rattle.syndrome.specs.Inner.{entry_of, survivor_at, TrayPoints, Terms, Sums}
use Rattle.restore.specs.Inner.{restored_at, LayerFits, Says, Erasing, erased_at, FoundTerms, BlockFits}
use Rattle.solving.specs.Inner.{FoundBlock}
use Rattle.restore.proofs.Solve.{sums_check, found_erased}

module _ {A : Type 0} {f : Field A} (W : Working f) where
  open f use {ops}
  open f.coding use {elem}
  open W.field use {laws}

  -- ---- the terms of what was found
  check_none : (p y : ℕ → A) (t : ℕ) → check ops p 0 y t ≡ ops.zero
  unfolding check
  check_none p y t = sum_zero ops _

  check_more : (p y : ℕ → A) (n t : ℕ) → check ops p (n + 1) y t ≡ ops.add (check ops p n y t) (ops.mul (pow ops (p n) t) (y n))
  unfolding check
  check_more p y n t = sum_add_one ops n (λ i. ops.mul (pow ops (p i) t) (y i))

  pub terms_none : (l : Layout) (w first r : ℕ) (es found was : List ℕ) → FoundTerms f l w first r es found was was 0
  terms_none l w first r es found was = record {
    at = λ t j ht hj. sym (ap (ops.add (cell f w was t j)) (check_none _ _ t) ∙ add_zero ops laws (cell f w was t j));
  }

  pub terms_more : (l : Layout) (w first r : ℕ) (es found : List ℕ) (k : ℕ) (old cur row was is new : List ℕ) → FoundTerms f l w first r es found was is k → Run (copied found (k * w)) old cur 0 w →
      TrayPoints f l w first (get_or es k 0) row → Terms f w r row cur is new → FoundTerms f l w first r es found was new (k + 1)
  unfolding copied
  terms_more l w first r es found k old cur row was is new g c p z = record {
    at = λ t j ht hj.
        z.at t j ht hj
        ∙ ap₂ (λ x y. ops.add x y) (g.at t j ht hj)
        (ap₂ (λ x y. ops.mul (pow ops x t) y) (p.at j hj) (ap (λ i. elem (get_or cur i 0)) (sym (zero-add j)) ∙ ap elem (c.done j hj) ∙ cell_is f w found k j))
        ∙ add_assoc ops laws (cell f w was t j) _ _
        ∙ ap (ops.add (cell f w was t j)) (sym (check_more (λ i. point_at f l (first + j) (get_or es i 0)) (λ i. cell f w found i j) k t));
  }

  -- ---- a block
  module _ (l : Layout) (w first total r : ℕ) (es c sums found new : List ℕ) (p : Erasing l total es c) (er : r ≡ checks l)
      (s : (Sums f) l w first r c es (trays l) sums) (z : (FoundBlock f) l w first es sums found)
      (g : (FoundTerms f) l w first r es found sums new (length es)) where
    -- the sums are then the checks of the layer restored
    block_check : (t j : ℕ) → t < r → j < w → cell f w new t j ≡ check ops (point_at f l (first + j)) (trays l) (λ x. restored_at f l es c x (first + j)) t
    unfolding restored recover point_at erased_at survivor_at check
    block_check t j ht hj =
        g.at t j ht hj
        ∙ ap₂ ops.add (sums_check W l w first es c sums r few s j hj t ht)
        (sum_congr ops (length es) _ _ (λ k h. ap (ops.mul (pow ops (point_at f l (first + j) (get_or es k 0)) t)) (found_erased W l w first es c sums r few s j hj found z k h)))
        ∙ sym (check_fill ops laws (point_at f l (first + j)) (trays l) (entry_of es) (erased_at f l es c (first + j)) (λ y. symbol_at f l c y (first + j)) (length es) t p.listed.places)
      where
        few : length es ≤ r
        few = let e = p.listed.few in omega arith

    fits_true : (all_zero f) new (r * w) ≡ true → BlockFits f l w first es c
    fits_true e j hj t ht =
        sym (block_check t j (omega arith) hj) ∙ sym (cell_is f w new t j)
        ∙ zero_all f new (r * w) W e (t * w + j) (let q = row_before t r w (omega arith) in omega arith)

    fits_false : (BlockFits f) l w first es c → all_zero f new (r * w) ≡ true
    fits_false all = sym (zero_from f new (r * w) W zero_at)
      where
        zero_at : (i : ℕ) → i < r * w → elem (get_or new i 0) ≡ ops.zero
        zero_at i h = go (dec_lt 0 w)
          where
            go : Dec (0 < w) → elem (get_or new i 0) ≡ ops.zero
            go (no n) = absurd (let e : w ≡ 0 = omega arith in let q : r * w ≡ r * 0 = ap (λ y. r * y) e in omega arith)
            go (yes pos) =
                subst (λ k. elem (get_or new k 0) ≡ ops.zero) (div-add-mod' i w)
                (cell_is f w new (i / w) (i % w) ∙ block_check (i / w) (i % w) row (mod-lt i pos) ∙ all (i % w) (mod-lt i pos) (i / w) (let q = row in omega arith))
              where
                row : i / w < r
                row = (div-lt_iff_lt-mul pos).1 h

    pub block_says : (b : Bool) → b ≡ all_zero f new (r * w) → Says b (BlockFits f l w first es c)
    block_says true e = fits_true (sym e)
    block_says false e = λ all. false≢true (e ∙ fits_false all)

  -- ---- all blocks
  pub fit_more : (l : Layout) (w q : ℕ) (es c : List ℕ) → ((j : ℕ) → j < q * w → LayerFits f l es c j) → BlockFits f l w (q * w) es c → (j : ℕ) → j < (q + 1) * w → LayerFits f l es c j
  fit_more l w q es c g b j h = go (dec_lt j (q * w))
    where
      go : Dec (j < q * w) → LayerFits f l es c j
      go (yes k) = g j k
      go (no k) =
          let t = row_end q w in
          let e : q * w + (j - q * w) ≡ j = omega arith in
          subst (LayerFits f l es c) e (b (j - q * w) (omega arith))

  pub fit_end : (l : Layout) (w q count : ℕ) (es c : List ℕ) → ((j : ℕ) → j < q * w → LayerFits f l es c j) → q ≤ count → count ≤ q → count * w ≡ layers l →
      (j : ℕ) → j < layers l → LayerFits f l es c j
  fit_end l w q count es c g h k e j b = let u : q ≡ count = omega arith in g j (rw (u, e) b)

  pub fit_block : (l : Layout) (w q : ℕ) (es c : List ℕ) → q * w + w ≤ layers l → ((j : ℕ) → j < layers l → LayerFits f l es c j) → BlockFits f l w (q * w) es c
  fit_block l w q es c h all j b = all (q * w + j) (omega arith)

  -- with as many trays listed as there are checks every layer fits
  pub fit_all : (l : Layout) (total : ℕ) (es c : List ℕ) → Erasing l total es c → Admissible f.order l → length es ≡ checks l → (j : ℕ) → j < layers l → LayerFits f l es c j
  unfolding point_at
  fit_all l total es c p a e j h t b =
      (restored_codeword (shape_of f l) (usable W l a).fits (entry_of es) (length es) p.listed.places (symbol_at f l c)).at j t h (omega arith)
