-- The checks summed over a group of layers as one system: its points and its word. For code and proofs; document 01's words are in Cabinet.antt.
-- Assumes nothing.
use Rattle.std.specs.Prelude.{ℕ, zero, suc, pred, ◌-◌, eqb, ltb}
use Rattle.algebra.specs.Sum.{sum, pow}
use Rattle.algebra.specs.Shape.{Shape}
use Rattle.algebra.specs.Points.{point}
use Rattle.algebra.specs.Erasure.{choose}

-- the numbers other than h, in order
unfoldable pub skip : ℕ → ℕ → ℕ
skip h i = choose (ltb i h) i (suc i)

-- which of the numbers other than h this is
unfoldable pub unskip : ℕ → ℕ → ℕ
unskip h x = choose (ltb x h) x (pred x)

-- the numbers other than h 0 .. h (d - 1), in order, where those are rising
unfoldable pub free : (ℕ → ℕ) → ℕ → ℕ → ℕ
free h zero i = i
free h (suc d) i = skip (h d) (free h d i)

-- f at the places below s, and then g
unfoldable pub join : {A : Type 0} → ℕ → (ℕ → A) → (ℕ → A) → ℕ → A
join s f g x = choose (ltb x s) (f x) (g (x - s))

-- the digits of a layer of the group: b at the host rack h, a elsewhere
unfoldable pub digits_at : ℕ → (ℕ → ℕ) → ℕ → ℕ → ℕ
digits_at h a b i = choose (eqb i h) b (a i)

module _ {A : Type 0} (sh : Shape A) (h : ℕ) (a : ℕ → ℕ) where
  open sh use {ops as o, size as u, digits as s}

  -- the points of a group: the host rack's s, one for each digit, and then those of the other racks
  unfoldable pub group_point : ℕ → A
  group_point = join s (λ b. pow o (point sh h b 0) u) (λ j. pow o (point sh (skip h j) (a (skip h j)) 0) u)

  -- the unknowns of a group, where ρ b i is rack i's sum in the layer of digit b: the host's sums, and the others' summed over the group,
  -- each times the m-th power of its point at place 0
  unfoldable pub group_word : ℕ → (ℕ → ℕ → A) → ℕ → A
  group_word m ρ =
      join s (λ b. o.mul (pow o (point sh h b 0) m) (ρ b h))
      (λ j. o.mul (pow o (point sh (skip h j) (a (skip h j)) 0) m) (sum o s (λ b. ρ b (skip h j))))
