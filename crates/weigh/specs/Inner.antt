-- Sums of symbols times factors: what the loops leave. Nothing here has to be believed.
-- Assumes nothing.
use Rattle.std.specs.Prelude.{◌≡◌, List, ℕ, ◌+◌, ◌*◌, ◌/◌, ◌<◌, get_or}
use Rattle.algebra.specs.Field.{Ops}
use Rattle.algebra.specs.Sum.{sum, pow}
use Rattle.algebra.specs.Shape.{Field}
use Rattle.symbol.specs.Arithmetic.{◌⊕◌, ◌⊗◌}

-- four symbols times their factors
unfoldable pub mix : ℕ → ℕ → ℕ → ℕ → ℕ → ℕ → ℕ → ℕ → ℕ
mix a b c d p q r s = a ⊗ p ⊕ b ⊗ q ⊕ (c ⊗ r ⊕ d ⊗ s)

-- runs so many places apart, the first plus two others times their factors
unfoldable pub three : List ℕ → ℕ → ℕ → ℕ → ℕ → ℕ → ℕ
three src from gap p q j = get_or src (from + j) 0 ⊕ mix (get_or src (from + gap + j) 0) (get_or src (from + gap + gap + j) 0) 0 0 p q 0 0

-- the first plus four others times their factors
unfoldable pub five : List ℕ → ℕ → ℕ → ℕ → ℕ → ℕ → ℕ → ℕ → ℕ
five src from gap p q r s j =
    get_or src (from + j) 0
    ⊕ mix (get_or src (from + gap + j) 0) (get_or src (from + gap + gap + j) 0) (get_or src (from + gap + gap + gap + j) 0) (get_or src (from + gap + gap + gap + gap + j) 0) p q r s

module _ {A : Type 0} (f : Field A) where
  open f use {ops, root, order}
  open f.coding use {elem}

  -- the factor of place g in racks of u, to the power m
  unfoldable pub weight : ℕ → ℕ → ℕ → A
  weight u m g = pow ops (pow ops (pow ops root (order / u)) g) m

  -- u runs so many places apart, each times that
  unfoldable pub weighted_term : ℕ → ℕ → List ℕ → ℕ → ℕ → ℕ → ℕ → A
  weighted_term u m src from gap j g = ops.mul (weight u m g) (elem (get_or src (from + g * gap + j) 0))

  -- the first len numbers stand for their sums
  pub record Weighed (u m : ℕ) (src : List ℕ) (from gap len : ℕ) (out : List ℕ) : Type 0 where
    pub at : (j : ℕ) → j < len → elem (get_or out j 0) ≡ sum ops u (weighted_term u m src from gap j)
