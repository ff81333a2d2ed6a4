-- The answers of a test, by its grounds.
-- Assumes nothing.
use mathlib.Core.Path.{◌≡◌}
use mathlib.Core.Bool.{true, false}
use mathlib.Core.List.{List}
use Prim.Native.Nat.{ℕ, ◌*◌}
use borrow.Author.Tests.{eq-eqb, ne_eqb}
use lib.ListN.{length}
use Rattle.lists.specs.Lists.{all_below}
use Rattle.algebra.specs.Coding.{InRange}
use Rattle.algebra.specs.Shape.{Field}
use Rattle.layout.specs.declared.Layout.{Layout}
use Rattle.layout.specs.Layout.{layers, trays, admissible}
use Rattle.codeword.specs.declared.Tested.{Tested}
use Rattle.codeword.specs.declared.Tested.TheVariants.{Sound, Bad, Refused}
use Rattle.codeword.specs.Test.{test_refusal, TestAnswer}
use Rattle.codeword.specs.Inner.{Scanned}

module _ {A : Type 0} (f : Field A) (l : Layout) (c : List ℕ) where
  pub refused_1 : admissible f.order l ≡ false → 1 ≡ test_refusal f l c
  unfolding test_refusal
  refused_1 h = simp h

  pub refused_2 : admissible f.order l ≡ true → (length c ≡ trays l * layers l → ⊥) → 2 ≡ test_refusal f l c
  unfolding test_refusal
  refused_2 h k = simp (h, ne_eqb _ _ k)

  pub refused_3 : admissible f.order l ≡ true → length c ≡ trays l * layers l → all_below c f.coding.size ≡ false → 3 ≡ test_refusal f l c
  unfolding test_refusal
  refused_3 h k b = simp (h, eq-eqb _ _ k, b)

  pub not_refused : admissible f.order l ≡ true → length c ≡ trays l * layers l → all_below c f.coding.size ≡ true → test_refusal f l c ≡ 0
  unfolding test_refusal
  not_refused h k b = simp (h, eq-eqb _ _ k, b)

pub tested : {A : Type 0} (f : Field A) (l : Layout) (c : List ℕ) (r : Tested) → test_refusal f l c ≡ 0 → length c ≡ trays l * layers l →
    InRange f.coding c → Scanned f l c r → TestAnswer f l c r
tested f l c Sound h e s w = (h, record { long = e; symbols = s; holds = w })
tested f l c (Bad j t) h e s w = (h, w)
tested f l c (Refused n) h e s w = absurd w
