-- The test of a layout and that of all numbers of a buffer, as the definition of a test's refusal has them.
-- Assumes nothing.
use mathlib.Core.Path.{◌≡◌, sym, ap, ◌∙◌}
use mathlib.Core.Bool.{Bool, true, false}
use mathlib.Core.List.{List}
use Prim.Native.Nat.{ℕ}
use native.Mathlib.Nat.{zero-add}
use lib.Dec.{ltb}
use lib.ListN.{length, get_or}
use Rattle.lists.specs.Lists.{all_below}
use Rattle.lists.proofs.Bools.{all_same}
use Rattle.lists.proofs.Numbered.{below_all}
use Rattle.algebra.specs.Coding.{InRange}
use Rattle.algebra.specs.Shape.{Field}
use Rattle.layout.specs.declared.Layout.{Layout}
use Rattle.layout.specs.Layout.{admissible, Cabinet}
use Rattle.layout.proofs.Facts.{admissible_facts}
use Rattle.range.specs.Range.{symbols_from}

module _ {A : Type 0} (f : Field A) (l : Layout) where
  pub admitted_is : {k r : ℕ} {b d : Bool} → f.order ≡ k → r ≡ k → b ≡ admissible r l → b ≡ d → admissible f.order l ≡ d
  admitted_is e q p h = ap (λ n. admissible n l) (e ∙ sym q) ∙ sym p ∙ h

  pub cabinet_of : admissible f.order l ≡ true → Cabinet l
  cabinet_of t = (admissible_facts f.order l t).cabinet

module _ {A : Type 0} (f : Field A) (c : List ℕ) where
  whole : symbols_from f c 0 (length c) ≡ all_below c f.coding.size
  unfolding symbols_from all_below
  whole = all_same _ _ (length c) (λ k h. ap (λ (i : ℕ). ltb (get_or c i 0) f.coding.size) (zero-add k))

  pub whole_false : (b : Bool) (n : ℕ) → length c ≡ n → b ≡ symbols_from f c 0 n → b ≡ false → all_below c f.coding.size ≡ false
  whole_false b n long e t = sym whole ∙ ap (symbols_from f c 0) long ∙ sym e ∙ t

  pub whole_true : (b : Bool) (n : ℕ) → length c ≡ n → b ≡ symbols_from f c 0 n → b ≡ true → all_below c f.coding.size ≡ true
  whole_true b n long e t = sym whole ∙ ap (symbols_from f c 0) long ∙ sym e ∙ t

  pub whole_range : all_below c f.coding.size ≡ true → InRange f.coding c
  whole_range t = record { at = below_all c f.coding.size t }
