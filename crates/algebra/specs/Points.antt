-- The points of racks, digits and places: powers of the root.
-- Assumes nothing.
use Rattle.std.specs.Prelude.{ℕ, zero, suc, ◌+◌, ◌-◌, ◌*◌, ◌/◌, ◌%◌}
use Rattle.algebra.specs.Sum.{sum, pow}
use Rattle.algebra.specs.Lagrange.{check}
use Rattle.algebra.specs.Shape.{Shape}

module _ {A : Type 0} (sh : Shape A) where
  open sh use {ops as o, root as z, order as N, racks as B, size as u, digits as s}

  -- the point of rack i, digit a and place g
  unfoldable pub point : ℕ → ℕ → ℕ → A
  point i a g = pow o z (i * s + a + g * (N / u))

  -- the point of tray x, where a gives the digit of each rack
  unfoldable pub tray_point : (ℕ → ℕ) → ℕ → A
  tray_point a x = point (x / u) (a (x / u)) (x % u)

  -- the u-th power of the points of rack i, where a gives the digit of each rack
  unfoldable pub rack_point : (ℕ → ℕ) → ℕ → A
  rack_point a i = pow o (point i (a i) 0) u

  -- the factor of place g: what a point at place g is of that at place 0
  unfoldable pub place : ℕ → A
  place g = pow o (pow o z (N / u)) g

  -- the check t = u·w + m of a layer, in terms of the rack sums ρ of weight m
  unfoldable pub rack_check : (ℕ → ℕ) → ℕ → (ℕ → A) → ℕ → A
  rack_check a m ρ w = check o (rack_point a) B (λ i. o.mul (pow o (point i (a i) 0) m) (ρ i)) w

  -- ---- what only code and proofs need
  -- the sum over the trays of rack i, each times the m-th power of its place's factor; with m = 0 document 01's rack sum
  unfoldable pub rack_sum : (ℕ → A) → ℕ → ℕ → A
  rack_sum c m i = sum o u (λ g. o.mul (pow o (place g) m) (c (i * u + g)))

-- the place that is so many from the last as m is from the first: u - m, and 0 for 0
unfoldable pub opposite : ℕ → ℕ → ℕ
opposite u zero = 0
opposite u (suc m) = u - suc m
