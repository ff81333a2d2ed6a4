-- The answer of the layout call decides: by the test of admissibility.
-- Assumes nothing.
use mathlib.Core.Path.{◌≡◌}
use mathlib.Core.Bool.{true, false}
use Prim.Native.Nat.{ℕ, ◌*◌}
use Rattle.layout.specs.declared.Layout.{Layout}
use Rattle.layout.specs.declared.Measured.TheVariants.{Known, Refused}
use Rattle.layout.specs.Layout.{layers, checks, groups, admissible, measured}

module _ (N : ℕ) (l : Layout) where
  pub measured_refused : admissible N l ≡ false → Refused 1 ≡ measured N l
  unfolding measured
  measured_refused h = simp h

  pub measured_known : (total r g : ℕ) → admissible N l ≡ true → total ≡ layers l → r ≡ checks l → g ≡ groups l → Known total r (l.helpers * g) ≡ measured N l
  unfolding measured
  measured_known total r g h e f k = rw (e, f, k, h)
