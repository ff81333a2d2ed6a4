-- The factors of a layer, over any field: what the functions are told and give. Nothing here has to be believed.
-- Assumes nothing.
use Rattle.std.specs.Prelude.{◌≡◌, List, ℕ, zero, suc, ◌+◌, ◌*◌, ◌<◌, ◌≤◌, eqb, length, get_or}
use Rattle.algebra.specs.Shape.{Field}
use Rattle.algebra.specs.Plain.{minus, times}
use Rattle.algebra.specs.Poly.{eval}
use Rattle.algebra.specs.Lagrange.{basis}
use Rattle.algebra.specs.Erasure.{choose}

-- room for the factors of n known symbols, a row of wide factors for each
pub record Solving (wide n s : ℕ) (g known points : List ℕ) : Type 0 where
  pub g_long : n * wide ≤ length g
  pub known_long : n ≤ length known
  pub points_long : wide ≤ length points
  pub few : s ≤ wide

module _ {A : Type 0} (f : Field A) where
  open f use {ops}
  open f.coding use {elem}

  unfoldable pub step_at : List ℕ → ℕ → List ℕ → ℕ → ℕ → ℕ
  step_at g to xs v j = times f (get_or g (to + j) 0) (minus f (get_or xs j 0) v)

  -- the product of the differences of x and the first q points, but for point o
  unfoldable pub others_at : A → List ℕ → ℕ → ℕ → A
  others_at x points o zero = ops.one
  others_at x points o (suc q) = choose (eqb q o) (others_at x points o q) (ops.mul (others_at x points o q) (ops.add x (ops.neg (elem (get_or points q 0)))))

  -- a run times such products
  unfoldable pub product_at : List ℕ → ℕ → List ℕ → List ℕ → ℕ → ℕ → A
  product_at g to xs points q o = ops.mul (elem (get_or g (to + o) 0)) (others_at (elem (get_or xs o 0)) points o q)

  -- less one, over the product of the differences of point o and the others
  unfoldable pub divisor_at : List ℕ → ℕ → ℕ → A
  divisor_at points s o = ops.inv (ops.mul (ops.neg ops.one) (others_at (elem (get_or points o 0)) points o s))

  unfoldable pub row_at : List ℕ → ℕ → List ℕ → ℕ → ℕ → A
  row_at den x points s o = ops.mul (elem (get_or den o 0)) (others_at (elem x) points o s)

  -- what known symbol t counts for in symbol o
  unfoldable pub factor_at : List ℕ → List ℕ → ℕ → ℕ → ℕ → A
  factor_at known points s o t = ops.neg (eval ops (basis ops (λ i. elem (get_or points i 0)) o s) (elem (get_or known t 0)))

  -- a run times differences, but for place q
  pub record Timed (xs : List ℕ) (v q to len : ℕ) (was is : List ℕ) : Type 0 where
    pub long : length is ≡ length was
    pub here : (o : ℕ) → o < len → ¬ (o ≡ q) → get_or is (to + o) 0 ≡ step_at was to xs v o
    pub kept : get_or is (to + q) 0 ≡ get_or was (to + q) 0
    pub low : (i : ℕ) → i < to → get_or is i 0 ≡ get_or was i 0
    pub high : (i : ℕ) → to + len ≤ i → get_or is i 0 ≡ get_or was i 0

  -- the inverses of the first n symbols
  pub record Inverted (was is : List ℕ) (n : ℕ) : Type 0 where
    pub long : length is ≡ length was
    pub done : (o : ℕ) → o < n → elem (get_or is o 0) ≡ ops.inv (elem (get_or was o 0))
    pub rest : (o : ℕ) → n ≤ o → get_or is o 0 ≡ get_or was o 0

  pub record Divided (points : List ℕ) (s : ℕ) (den : List ℕ) : Type 0 where
    pub at : (o : ℕ) → o < s → elem (get_or den o 0) ≡ divisor_at points s o

  -- the factors of the first n known symbols, and everything after them as it was
  pub record Factored (known points : List ℕ) (s wide n : ℕ) (was is : List ℕ) : Type 0 where
    pub long : length is ≡ length was
    pub at : (t o : ℕ) → t < n → o < s → elem (get_or is (t * wide + o) 0) ≡ factor_at known points s o t
    pub rest : (i : ℕ) → n * wide ≤ i → get_or is i 0 ≡ get_or was i 0
