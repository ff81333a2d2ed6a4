-- A system of checks over whole racks: u systems of as many unknowns as there are racks, for the sums over the places of each weight, and the symbols by these: each by the
-- products of differences, over the racks and then over the places of a rack, where their factors are the opposite powers (`place_factor`).
-- Assumes nothing.
use mathlib.Core.Path.{◌≡◌, sym, ◌∙◌, ap}
use Prim.Native.Nat.{ℕ, ◌+◌, ◌*◌, ◌<◌}
use native.Mathlib.Nat.{mul_comm as times_comm}
use native.Mathlib.Omega.{arith}
use lib.Arith.{digits_lt}
use Rattle.algebra.specs.Field.{Ops, Laws}
use Rattle.algebra.specs.Sum.{sum, pow}
use Rattle.algebra.specs.Lagrange.{Distinct, check, solve}
use Rattle.algebra.proofs.Ring.{ring, one_mul}
use Rattle.algebra.proofs.Lagrange.{unique, meets}
use Rattle.algebra.proofs.Weighted.{weighted_unique, place_sum, racks_check}
use Rattle.algebra.specs.Points.{opposite}
use Rattle.algebra.proofs.Places.{places_solved}

module _ {A : Type 0} (o : Ops A) (L : Laws o) (ζ : A) (u : ℕ) (full : pow o ζ u ≡ o.one) (p z : ℕ → A) (n : ℕ)
    (split : (i g : ℕ) → i < n → g < u → p (i * u + g) ≡ o.mul (z i) (pow o ζ g)) where
  open o use {add as ◌⊕◌, mul as ◌⊗◌, one as 𝟙}

  infixl 60 ◌⊕◌
  infixl 70 ◌⊗◌
  module _ (different : Distinct p (n * u)) (apart : Distinct (λ i. pow o (z i) u) n) (b : ℕ → A) where
    sums_solved : (m i : ℕ) → m < u → i < n → pow o (z i) m ⊗ place_sum o L ζ u full p z n split (solve o p (n * u) b) m i ≡ solve o (λ i. pow o (z i) u) n (λ w. b (u * w + m)) i
    sums_solved m i hm hi =
        weighted_unique o L z n u m apart (place_sum o L ζ u full p z n split (solve o p (n * u) b) m) (λ w. b (u * w + m))
        (λ w hw. sym (racks_check o L ζ u full p z n split (solve o p (n * u) b) w m) ∙ meets o L p (n * u) different b (u * w + m) (inside w hw)) i hi
      where
        inside : (w : ℕ) → w < n → u * w + m < n * u
        inside w hw = let q = times_comm u w in let d = digits_lt hw hm in omega arith

    turn : (a y q : A) → a ⊗ y ⊗ q ≡ q ⊗ a ⊗ y
    turn a y q = simp (ring, L)

    pub symbols_solved : Distinct (pow o ζ) u → sum o u (λ m. 𝟙) ≡ 𝟙 → (i : ℕ) → i < n → (q y : ℕ → A) → ((m : ℕ) → m < u → q m ⊗ pow o (z i) m ≡ 𝟙) →
        ((m : ℕ) → m < u → y m ≡ solve o (λ i. pow o (z i) u) n (λ w. b (u * w + m)) i ⊗ q m) →
        (g : ℕ) → g < u → sum o u (λ m. pow o (pow o ζ m) (opposite u g) ⊗ y m) ≡ solve o p (n * u) b (i * u + g)
    unfolding place_sum check
    symbols_solved roots ones i hi q y one e g hg =
        places_solved o L ζ u full roots ones y g hg
        ∙ sym (unique o L (pow o ζ) u roots (λ h. solve o p (n * u) b (i * u + h)) y (λ m k. sym (sums m k)) g hg)
      where
        sums : (m : ℕ) → m < u → y m ≡ place_sum o L ζ u full p z n split (solve o p (n * u) b) m i
        sums m k =
            e m k ∙ ap (λ a. a ⊗ q m) (sym (sums_solved m i k hi)) ∙ turn (pow o (z i) m) (place_sum o L ζ u full p z n split (solve o p (n * u) b) m i) (q m)
            ∙ ap (λ a. a ⊗ place_sum o L ζ u full p z n split (solve o p (n * u) b) m i) (one m k) ∙ one_mul o L (place_sum o L ζ u full p z n split (solve o p (n * u) b) m i)
