-- The product of (X - q) / (point - q), with one inverse of the product of all differences.
-- Assumes nothing.
use mathlib.Core.Path.{◌≡◌, refl, sym, ap, ap₂, ◌∙◌}
use mathlib.Core.List.{List, [], ◌∷◌}
use Prim.Native.Nat.{ℕ, zero, suc, ◌+◌, ◌≤◌}
use native.Mathlib.Numerals.{add-one}
use native.Mathlib.Decide.{ℕ_discrete}
use native.Mathlib.Omega.{arith}
use lib.Dec.{eqb}
use lib.ListN.{length}
use Rattle.algebra.specs.Field.{Laws}
use Rattle.algebra.specs.Poly.{coeff, scale, carried, linear}
use Rattle.algebra.specs.Lagrange.{basis}
use Rattle.algebra.specs.Erasure.{choose}
use Rattle.algebra.proofs.Ring.{ring, mul_zero, zero_mul, mul_one, one_mul, mul_comm}
use Rattle.algebra.proofs.Poly.{coeff_tail, coeff_nil, coeff_scale, length_linear}
use Rattle.algebra.proofs.Lagrange.{basis_zero, basis_same, basis_other}
use Rattle.algebra.proofs.Equal.{eqb_same, eqb_other}
use Rattle.algebra.specs.Shape.{Field}
use Rattle.algebra.specs.Plain.{Working}
use Rattle.columns.specs.Inner.{differences, grown}

module _ {A : Type 0} {f : Field A} (W : Working f) where
  open f use {ops}
  open W.field use {laws}

  -- the inverse of a product is the product of the inverses, zero included
  inv_zero : ops.inv ops.zero ≡ ops.zero
  inv_zero = W.inv_zero

  pub inv_one : ops.inv ops.one ≡ ops.one
  inv_one = sym (mul_one ops laws (ops.inv ops.one)) ∙ laws.inv_mul ops.one laws.one_not_zero

  turn : (x y : A) (ab : A) → ops.mul x (ops.mul y ab) ≡ ops.mul y (ops.mul x ab)
  turn x y ab = let L : Laws ops = laws in simp (ring, L)

  pair : (x y a b : A) → ops.mul (ops.mul x y) (ops.mul a b) ≡ ops.mul (ops.mul x a) (ops.mul y b)
  pair x y a b = let L : Laws ops = laws in simp (ring, L)

  pub inv_times : (a b : A) → ops.inv (ops.mul a b) ≡ ops.mul (ops.inv a) (ops.inv b)
  inv_times a b = go (laws.decide a ops.zero) (laws.decide b ops.zero)
    where
      go : Dec (a ≡ ops.zero) → Dec (b ≡ ops.zero) → ops.inv (ops.mul a b) ≡ ops.mul (ops.inv a) (ops.inv b)
      go (yes e) d =
          ap (λ x. ops.inv (ops.mul x b)) e ∙ ap ops.inv (zero_mul ops laws b) ∙ inv_zero
          ∙ sym (ap (λ x. ops.mul (ops.inv x) (ops.inv b)) e ∙ ap (λ x. ops.mul x (ops.inv b)) inv_zero ∙ zero_mul ops laws (ops.inv b))
      go (no d) (yes e) =
          ap (λ x. ops.inv (ops.mul a x)) e ∙ ap ops.inv (mul_zero ops laws a) ∙ inv_zero
          ∙ sym (ap (λ x. ops.mul (ops.inv a) (ops.inv x)) e ∙ ap (ops.mul (ops.inv a)) inv_zero ∙ mul_zero ops laws (ops.inv a))
      go (no d) (no e) =
          sym (mul_one ops laws x) ∙ ap (ops.mul x) (sym one) ∙ turn x y (ops.mul a b) ∙ ap (ops.mul y) (laws.inv_mul (ops.mul a b) some) ∙ mul_one ops laws y
        where
          x : A
          x = ops.inv (ops.mul a b)

          y : A
          y = ops.mul (ops.inv a) (ops.inv b)

          one : ops.mul y (ops.mul a b) ≡ ops.one
          one = pair (ops.inv a) (ops.inv b) a b ∙ ap₂ ops.mul (laws.inv_mul a d) (laws.inv_mul b e) ∙ one_mul ops laws ops.one

          some : ¬ (ops.mul a b ≡ ops.zero)
          some z = laws.one_not_zero (sym one ∙ ap (ops.mul y) z ∙ mul_zero ops laws y)

  -- a factor in front goes through
  head_step : (a c q x : A) → ops.mul a (ops.add c (ops.neg (ops.mul q x))) ≡ ops.add (ops.mul a c) (ops.neg (ops.mul q (ops.mul a x)))
  head_step a c q x = let L : Laws ops = laws in simp (ring, L)

  scale_carried : (a q c : A) (l : List A) → scale ops a (carried ops q c l) ≡ carried ops q (ops.mul a c) (scale ops a l)
  unfolding scale carried
  scale_carried a q c [] = refl
  scale_carried a q c (x ∷ l) = ap₂ ◌∷◌ (head_step a c q x) (scale_carried a q x l)

  scale_linear : (a q : A) (l : List A) → scale ops a (linear ops q l) ≡ linear ops q (scale ops a l)
  unfolding linear
  scale_linear a q l = scale_carried a q ops.zero l ∙ ap (λ z. carried ops q z (scale ops a l)) (mul_zero ops laws a)

  one_scaled : (b a : A) → scale ops b (a ∷ []) ≡ ops.mul b a ∷ []
  unfolding scale
  one_scaled b a = refl

  module _ (p : ℕ → A) (i : ℕ) where
    pub differences_none : (differences f) p i 0 ≡ ops.one
    unfolding differences
    differences_none = refl

    differences_suc : (m : ℕ) → differences f p i (m + 1) ≡ choose (eqb m i) (differences f p i m) (ops.mul (differences f p i m) (ops.add (p i) (ops.neg (p m))))
    unfolding differences
    differences_suc m = ap (differences f p i) (add-one m)

    pub differences_same : (m : ℕ) → m ≡ i → differences f p i (m + 1) ≡ differences f p i m
    unfolding choose
    differences_same m e = differences_suc m ∙ ap (λ b. choose b (differences f p i m) (ops.mul (differences f p i m) (ops.add (p i) (ops.neg (p m))))) (ap (λ n. eqb n i) e ∙ eqb_same i)

    pub differences_other : (m : ℕ) → ¬ (m ≡ i) → differences f p i (m + 1) ≡ ops.mul (differences f p i m) (ops.add (p i) (ops.neg (p m)))
    unfolding choose
    differences_other m d = differences_suc m ∙ ap (λ b. choose b (differences f p i m) (ops.mul (differences f p i m) (ops.add (p i) (ops.neg (p m))))) (eqb_other d)

    module _ (a : A) where
      grown_suc : (m : ℕ) → grown f a p i (m + 1) ≡ choose (eqb m i) (grown f a p i m) (linear ops (p m) (grown f a p i m))
      unfolding grown
      grown_suc m = ap (grown f a p i) (add-one m)

      pub grown_none : (grown f) a p i 0 ≡ a ∷ []
      unfolding grown
      grown_none = refl

      pub grown_same : (m : ℕ) → m ≡ i → grown f a p i (m + 1) ≡ grown f a p i m
      unfolding choose
      grown_same m e = grown_suc m ∙ ap (λ b. choose b (grown f a p i m) (linear ops (p m) (grown f a p i m))) (ap (λ n. eqb n i) e ∙ eqb_same i)

      pub grown_other : (m : ℕ) → ¬ (m ≡ i) → grown f a p i (m + 1) ≡ linear ops (p m) (grown f a p i m)
      unfolding choose
      grown_other m d = grown_suc m ∙ ap (λ b. choose b (grown f a p i m) (linear ops (p m) (grown f a p i m))) (eqb_other d)

      pub grown_length : (m : ℕ) → length (grown f a p i m) ≤ m + 1
      grown_length zero = rw grown_none (omega arith)
      grown_length (suc m) = go (ℕ_discrete m i) (grown_length m)
        where
          more : suc m ≡ m + 1
          more = omega arith

          go : Dec (m ≡ i) → length (grown f a p i m) ≤ m + 1 → length (grown f a p i (suc m)) ≤ suc m + 1
          go (yes e) ih = rw (more, grown_same m e) (omega arith)
          go (no d) ih = rw (more, grown_other m d, length_linear ops (p m) (grown f a p i m)) (omega arith)

    pub scale_grown : (b a : A) (m : ℕ) → scale ops b (grown f a p i m) ≡ grown f (ops.mul b a) p i m
    scale_grown b a zero = ap (scale ops b) (grown_none a) ∙ one_scaled b a ∙ sym (grown_none (ops.mul b a))
    scale_grown b a (suc m) = go (ℕ_discrete m i) (scale_grown b a m)
      where
        more : suc m ≡ m + 1
        more = omega arith

        go : Dec (m ≡ i) → scale ops b (grown f a p i m) ≡ grown f (ops.mul b a) p i m → scale ops b (grown f a p i (suc m)) ≡ grown f (ops.mul b a) p i (suc m)
        go (yes e) ih = rw (more, grown_same a m e, grown_same (ops.mul b a) m e) ih
        go (no d) ih = rw (more, grown_other a m d, grown_other (ops.mul b a) m d) (scale_linear b (p m) (grown f a p i m) ∙ ap (linear ops (p m)) ih)

    -- the whole product
    pub grown_basis : (m : ℕ) → grown f (ops.inv (differences f p i m)) p i m ≡ basis ops p i m
    grown_basis zero = grown_none (ops.inv (differences f p i 0)) ∙ ap (λ a. a ∷ []) (ap ops.inv differences_none ∙ inv_one) ∙ sym (basis_zero ops p i)
    grown_basis (suc m) = go (ℕ_discrete m i) (grown_basis m)
      where
        more : suc m ≡ m + 1
        more = omega arith

        go : Dec (m ≡ i) → grown f (ops.inv (differences f p i m)) p i m ≡ basis ops p i m → grown f (ops.inv (differences f p i (suc m))) p i (suc m) ≡ basis ops p i (suc m)
        go (yes e) ih =
            ap (λ n. grown f (ops.inv (differences f p i n)) p i n) more
            ∙ ap (λ a. grown f (ops.inv a) p i (m + 1)) (differences_same m e) ∙ grown_same (ops.inv (differences f p i m)) m e ∙ ih ∙ sym (basis_same ops p i m e)
        go (no d) ih =
            ap (λ n. grown f (ops.inv (differences f p i n)) p i n) more
            ∙ ap (λ a. grown f (ops.inv a) p i (m + 1)) (differences_other m d)
            ∙ ap (λ a. grown f a p i (m + 1)) (inv_times (differences f p i m) (ops.add (p i) (ops.neg (p m))) ∙ mul_comm ops laws _ _)
            ∙ grown_other (ops.mul (ops.inv (ops.add (p i) (ops.neg (p m)))) (ops.inv (differences f p i m))) m d
            ∙ ap (linear ops (p m)) (sym (scale_grown (ops.inv (ops.add (p i) (ops.neg (p m)))) (ops.inv (differences f p i m)) m)
            ∙ ap (scale ops (ops.inv (ops.add (p i) (ops.neg (p m))))) ih)
            ∙ sym (scale_linear (ops.inv (ops.add (p i) (ops.neg (p m)))) (p m) (basis ops p i m))
            ∙ sym (basis_other ops p i m d)

  -- less one is its own inverse
  minus_one : A
  minus_one = ops.neg ops.one

  minus_twice : (a : A) → ops.mul minus_one (ops.mul minus_one a) ≡ a
  minus_twice a = let L : Laws ops = laws in unfold minus_one in simp (ring, L)

  minus_is : (a : A) → ops.mul minus_one a ≡ ops.neg a
  minus_is a = let L : Laws ops = laws in unfold minus_one in simp (ring, L)

  inv_minus : ops.inv minus_one ≡ minus_one
  inv_minus =
      sym (minus_twice (ops.inv minus_one)) ∙ ap (ops.mul minus_one) (mul_comm ops laws minus_one (ops.inv minus_one) ∙ laws.inv_mul minus_one some)
      ∙ mul_one ops laws minus_one
    where
      some : ¬ (minus_one ≡ ops.zero)
      some z = laws.one_not_zero (
          sym (minus_twice ops.one) ∙ ap (λ x. ops.mul x (ops.mul minus_one ops.one)) z ∙ zero_mul ops laws _)

  inv_neg : (a : A) → ops.inv (ops.neg a) ≡ ops.mul minus_one (ops.inv a)
  inv_neg a = ap ops.inv (sym (minus_is a)) ∙ inv_times minus_one a ∙ ap (λ x. ops.mul x (ops.inv a)) inv_minus

  -- from less the product of the differences, less the coefficients
  pub grown_neg : (p : ℕ → A) (i m t : ℕ) → coeff ops (grown f (ops.inv (ops.neg (differences f p i m))) p i m) t ≡ ops.neg (coeff ops (basis ops p i m) t)
  grown_neg p i m t =
      ap (λ a. coeff ops (grown f a p i m) t) (inv_neg (differences f p i m))
      ∙ ap (λ l. coeff ops l t) (sym (scale_grown p i minus_one (ops.inv (differences f p i m)) m) ∙ ap (scale ops minus_one) (grown_basis p i m))
      ∙ coeff_scale ops laws minus_one (basis ops p i m) t ∙ minus_is (coeff ops (basis ops p i m) t)

  -- past its end a polynomial has zeros
  pub coeff_past : (l : List A) (t : ℕ) → length l ≤ t → coeff ops l t ≡ ops.zero
  coeff_past [] t h = coeff_nil ops t
  coeff_past (x ∷ l) zero h = absurd (omega arith)
  coeff_past (x ∷ l) (suc t) h = coeff_tail ops x l t ∙ coeff_past l t (omega arith)
