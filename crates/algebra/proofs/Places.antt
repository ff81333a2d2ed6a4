-- W3's formula at the places of a rack, whose factors are the powers ζ^0 .. ζ^(u - 1) of a u-th root of one: the factors of the products of differences are known there.
-- Assumes nothing.
use mathlib.Core.Path.{◌≡◌, sym, ◌∙◌, ap}
use Prim.Native.Nat.{ℕ, ◌<◌}
use lib.Dec.{eqb}
use borrow.Author.Tests.{eq-eqb, ne_eqb}
use Rattle.algebra.specs.Field.{Ops, Laws}
use Rattle.algebra.specs.Sum.{sum, pow}
use Rattle.algebra.specs.Poly.{coeff}
use Rattle.algebra.specs.Lagrange.{Distinct, check, basis, solve}
use Rattle.algebra.specs.Erasure.{choose}
use Rattle.algebra.specs.Points.{opposite}
use Rattle.algebra.proofs.Ring.{mul_comm, mul_zero, mul_one}
use Rattle.algebra.proofs.Sum.{sum_congr, sum_single}
use Rattle.algebra.proofs.Lagrange.{meets}
use Rattle.algebra.proofs.Inverse.{inverse_sum}

module _ {A : Type 0} (o : Ops A) (L : Laws o) where
  open o use {mul as ◌⊗◌, zero as 𝟘, one as 𝟙}

  infixl 70 ◌⊗◌
  -- the right sides of which the t-th alone is one
  side : ℕ → ℕ → A
  side t m = choose (eqb m t) 𝟙 𝟘

  side_same : (t : ℕ) → side t t ≡ 𝟙
  unfolding side choose
  side_same t = ap (λ b. choose b 𝟙 𝟘) (eq-eqb t t (λ i. t))

  side_other : (t m : ℕ) → ¬ (m ≡ t) → side t m ≡ 𝟘
  unfolding side choose
  side_other t m d = ap (λ b. choose b 𝟙 𝟘) (ne_eqb m t d)

  -- they pick one term of a sum
  picked : (n t : ℕ) → t < n → (f : ℕ → A) → sum o n (λ m. f m ⊗ side t m) ≡ f t
  picked n t h f =
      sum_single o L n t (λ m. f m ⊗ side t m) h (λ m k d. ap (λ y. f m ⊗ y) (side_other t m d) ∙ mul_zero o L (f m))
      ∙ ap (λ y. f t ⊗ y) (side_same t) ∙ mul_one o L (f t)

  module _ (ζ : A) (u : ℕ) (full : pow o ζ u ≡ 𝟙) (different : Distinct (pow o ζ) u) (ones : sum o u (λ m. 𝟙) ≡ 𝟙) where
    -- the factor of X^t in the product, over the other places h, of (X - ζ^h) / (ζ^g - ζ^h)
    pub place_factor : (g t : ℕ) → g < u → t < u → coeff o (basis o (pow o ζ) g u) t ≡ pow o (pow o ζ t) (opposite u g)
    unfolding solve check
    place_factor g t hg ht =
        sym (picked u t ht (coeff o (basis o (pow o ζ) g u)))
        ∙ sum_congr o u _ _ (λ m k. mul_comm o L (coeff o (basis o (pow o ζ) g u) m) (side t m))
        ∙ sym (inverse_sum o L ζ u full different ones (solve o (pow o ζ) u (side t)) g hg)
        ∙ sum_congr o u _ _ (λ m k. ap (λ y. pow o (pow o ζ m) (opposite u g) ⊗ y) (meets o L (pow o ζ) u different (side t) m k))
        ∙ picked u t ht (λ m. pow o (pow o ζ m) (opposite u g))

    -- so the sums by opposite powers are the formula
    pub places_solved : (y : ℕ → A) (g : ℕ) → g < u → sum o u (λ m. pow o (pow o ζ m) (opposite u g) ⊗ y m) ≡ solve o (pow o ζ) u y g
    unfolding solve
    places_solved y g hg =
        sum_congr o u _ _ (λ m k. ap (λ a. a ⊗ y m) (sym (place_factor g m hg k)) ∙ mul_comm o L (coeff o (basis o (pow o ζ) g u) m) (y m))
