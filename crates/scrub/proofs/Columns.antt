-- The columns of a block's sums: one for each layer, bad where some check is broken.
-- Assumes nothing.
use mathlib.Core.Path.{◌≡◌, sym, ap, ap₂, ◌∙◌}
use mathlib.Core.Bool.{Bool, true, false, not}
use mathlib.Core.List.{List}
use Prim.Native.Nat.{ℕ, suc, ◌+◌, ◌-◌, ◌*◌, ◌<◌, ◌≤◌}
use native.Mathlib.Nat.{add-zero}
use native.Mathlib.Omega.{arith}
use borrow.Author.Tests.{eq-eqb, eqb-true}
use lib.Dec.{eqb}
use lib.ListN.{length, get_or}
use Rattle.lists.specs.Lists.{all}
use Rattle.lists.proofs.Bools.{all_true, all_false, all_same}
use Rattle.algebra.specs.Shape.{Field}
use Rattle.algebra.specs.Plain.{reduced, Working}
use Rattle.algebra.proofs.Plain.{reduced_own, zero_below}
use Rattle.kernel.proofs.Rows.{cell_is}
use Rattle.layout.specs.declared.Layout.{Layout}
use Rattle.layout.specs.Layout.{trays, checks}
use Rattle.codeword.specs.Codeword.{check_at}
use Rattle.syndrome.specs.Inner.{Sums}
use Rattle.syndrome.proofs.Whole.{sums_are}
use Rattle.scrub.specs.declared.Walk.{Walk}
use Rattle.scrub.specs.Scrub.{bad_layer, after}
use Rattle.scrub.specs.Inner.{column_bad, look}
use Rattle.scrub.proofs.Layers.{look_next, look_high, after_look, after_end}

-- a number that was read, x, and the place of its symbol, p
module _ {A : Type 0} (f : Field A) (sums : List ℕ) (x p : ℕ) where
  pub zero_at : (i : ℕ) → x ≡ get_or sums i 0 → p ≡ reduced f x → p ≡ 0 → reduced f (get_or sums i 0) ≡ 0
  zero_at i ex ep z = ap (reduced f) (sym ex) ∙ sym ep ∙ z

  -- a broken check
  pub column_bad_lem : (w r j t : ℕ) → t < r → x ≡ get_or sums (t * w + j) 0 → p ≡ reduced f x → ¬ (p ≡ 0) → true ≡ column_bad f w r sums j
  unfolding column_bad
  column_bad_lem w r j t h ex ep d = ap not (all_false _ _ t h (λ e. d (ep ∙ ap (reduced f) ex ∙ eqb-true _ _ e)))

module _ {A : Type 0} (f : Field A) (sums : List ℕ) (w r j t : ℕ) where
  -- none
  pub column_good : ((v : ℕ) → v < t → reduced f (get_or sums (v * w + j) 0) ≡ 0) → r ≤ t → false ≡ column_bad f w r sums j
  unfolding column_bad
  column_good g h = ap not (sym (all_true _ _ (λ v k. eq-eqb _ _ (g v (omega arith)))))

-- a column is bad where its layer is
module _ {A : Type 0} {f : Field A} (W : Working f) where
  open f.coding use {val}

  val_zero : 0 ≡ val f.ops.zero
  unfolding reduced
  val_zero = sym (reduced_own W 0 (zero_below W)) ∙ ap val W.zero_is

  pub column_is : (l : Layout) (w first r : ℕ) (c es sums : List ℕ) → length es ≡ 0 → r ≡ checks l → Sums f l w first r c es (trays l) sums → (j : ℕ) → j < w →
      column_bad f w r sums j ≡ bad_layer f l c (first + j)
  unfolding column_bad bad_layer reduced
  column_is l w first r c es sums e er s j hj =
      ap not (all_same _ _ r (λ t ht. ap₂ eqb (ap val (cell_is f w sums t j ∙ sums_are f l w first r c es sums e s t j ht hj)) val_zero)
      ∙ ap (all (λ t. eqb (val (check_at f l c (first + j) t)) (val f.ops.zero))) er)

-- ---- looking along the columns
module _ {A : Type 0} (f : Field A) (w r : ℕ) (sums : List ℕ) (walk : Walk) where
  -- p holds of exactly the bad layers
  abbrev pub Marks : (ℕ → Bool) → Type 0
  Marks p = (i : ℕ) → i < w → column_bad f w r sums i ≡ p (walk.next + i)

  -- the record with j columns looked at: the columns to go lead to the record after all of them
  pub record Looked (seen : Walk) (j : ℕ) : Type 0 where
    pub within : j ≤ w
    pub here : seen.next ≡ walk.next + j
    pub high : seen.bad ≤ seen.next
    pub to_go : (p : ℕ → Bool) → Marks p → after p seen (w - j) ≡ after p walk w

  pub looked_none : walk.bad ≤ walk.next → Looked walk 0
  looked_none h = record { within = omega arith; here = sym (add-zero walk.next); high = h; to_go = λ p k. let e : w - 0 ≡ w = omega arith in ap (after p walk) e }

  pub looked_more : (seen s : Walk) (j : ℕ) (b : Bool) → Looked seen j → j < w → b ≡ column_bad f w r sums j → s ≡ look b seen → Looked s (j + 1)
  looked_more seen s j b q h eb es = rw es (record {
    within = omega arith;
    here = look_next b seen ∙ ap (λ n. n + 1) q.here ∙ omega arith;
    high = look_high b seen q.high;
    to_go = λ p k. step p k ∙ q.to_go p k;
  })
    where
      step : (p : ℕ → Bool) → Marks p → after p (look b seen) (w - (j + 1)) ≡ after p seen (w - j)
      step p k =
          let e : b ≡ p seen.next = eb ∙ k j h ∙ ap p (sym q.here) in
          let n : suc (w - (j + 1)) ≡ w - j = omega arith in
          ap (λ t. after p (look t seen) (w - (j + 1))) e ∙ after_look p seen (w - (j + 1)) ∙ ap (after p seen) n

  pub looked_end : (seen : Walk) (j : ℕ) → Looked seen j → w ≤ j → (p : ℕ → Bool) → Marks p → seen ≡ after p walk w
  looked_end seen j q h p k = after_end p seen (w - j) (omega arith) (q.to_go p k)
