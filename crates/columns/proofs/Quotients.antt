-- The products over all points but one are quotients of the product over all, and the products of differences go round the points.
-- Assumes nothing.
use mathlib.Core.Path.{◌≡◌, refl, sym, ap, ap₂, ◌∙◌}
use mathlib.Core.List.{List, [], ◌∷◌}
use Prim.Native.Nat.{ℕ, zero, suc, ◌+◌, ◌-◌, ◌<◌, ◌≤◌, min}
use native.Mathlib.Nat.{add-zero as plus_zero, add-suc}
use native.Mathlib.Numerals.{add-one}
use native.Mathlib.Decide.{ℕ_discrete}
use native.Mathlib.Omega.{arith}
use lib.ListN.{length}
use Rattle.algebra.specs.Field.{Laws}
use Rattle.algebra.specs.Poly.{coeff, linear}
use Rattle.algebra.specs.Lagrange.{basis}
use Rattle.algebra.specs.Locate.{gaps}
use Rattle.algebra.proofs.Ring.{ring, mul_one, mul_comm, mul_assoc}
use Rattle.algebra.proofs.Poly.{coeff_head, coeff_linear_zero, coeff_linear_suc, coeff_scale, length_linear}
use Rattle.algebra.specs.Shape.{Field}
use Rattle.algebra.specs.Plain.{Working}
use Rattle.columns.specs.Inner.{differences, grown, locator, turned}
use Rattle.columns.proofs.Products.{coeff_past, differences_none, differences_same, differences_other, grown_none, grown_same, grown_other, grown_length, grown_neg, scale_grown}

module _ {A : Type 0} {f : Field A} (W : Working f) where
  open f use {ops}
  open W.field use {laws}

  -- ---- the coefficients of (X - q) times a polynomial
  linear_same : (q : A) (l k : List A) → ((t : ℕ) → coeff ops l t ≡ coeff ops k t) → (t : ℕ) → coeff ops (linear ops q l) t ≡ coeff ops (linear ops q k) t
  linear_same q l k h zero = coeff_linear_zero ops laws q l ∙ ap (λ x. ops.neg (ops.mul q x)) (h 0) ∙ sym (coeff_linear_zero ops laws q k)
  linear_same q l k h (suc t) =
      coeff_linear_suc ops laws q l t ∙ ap₂ (λ x y. ops.add x (ops.neg (ops.mul q y))) (h t) (h (suc t)) ∙ sym (coeff_linear_suc ops laws q k t)

  swap_zero : (a b x : A) → ops.neg (ops.mul a (ops.neg (ops.mul b x))) ≡ ops.neg (ops.mul b (ops.neg (ops.mul a x)))
  swap_zero a b x = let L : Laws ops = laws in simp (ring, L)

  swap_one : (a b x y : A) → ops.add (ops.neg (ops.mul b x)) (ops.neg (ops.mul a (ops.add x (ops.neg (ops.mul b y)))))
      ≡ ops.add (ops.neg (ops.mul a x)) (ops.neg (ops.mul b (ops.add x (ops.neg (ops.mul a y)))))
  swap_one a b x y = let L : Laws ops = laws in simp (ring, L)

  swap_two : (a b x y z : A) → ops.add (ops.add x (ops.neg (ops.mul b y))) (ops.neg (ops.mul a (ops.add y (ops.neg (ops.mul b z)))))
      ≡ ops.add (ops.add x (ops.neg (ops.mul a y))) (ops.neg (ops.mul b (ops.add y (ops.neg (ops.mul a z)))))
  swap_two a b x y z = let L : Laws ops = laws in simp (ring, L)

  linear_swap : (a b : A) (l : List A) (t : ℕ) → coeff ops (linear ops a (linear ops b l)) t ≡ coeff ops (linear ops b (linear ops a l)) t
  linear_swap a b l zero =
      once a b ∙ swap_zero a b (coeff ops l 0) ∙ sym (once b a)
    where
      once : (a b : A) → coeff ops (linear ops a (linear ops b l)) 0 ≡ ops.neg (ops.mul a (ops.neg (ops.mul b (coeff ops l 0))))
      once a b = coeff_linear_zero ops laws a (linear ops b l) ∙ ap (λ x. ops.neg (ops.mul a x)) (coeff_linear_zero ops laws b l)
  linear_swap a b l (suc zero) =
      once a b ∙ swap_one a b (coeff ops l 0) (coeff ops l 1) ∙ sym (once b a)
    where
      once : (a b : A) → coeff ops (linear ops a (linear ops b l)) 1
          ≡ ops.add (ops.neg (ops.mul b (coeff ops l 0))) (ops.neg (ops.mul a (ops.add (coeff ops l 0) (ops.neg (ops.mul b (coeff ops l 1))))))
      once a b =
          coeff_linear_suc ops laws a (linear ops b l) 0
          ∙ ap₂ (λ x y. ops.add x (ops.neg (ops.mul a y))) (coeff_linear_zero ops laws b l) (coeff_linear_suc ops laws b l 0)
  linear_swap a b l (suc (suc t)) =
      once a b ∙ swap_two a b (coeff ops l t) (coeff ops l (suc t)) (coeff ops l (suc (suc t))) ∙ sym (once b a)
    where
      once : (a b : A) → coeff ops (linear ops a (linear ops b l)) (suc (suc t))
          ≡ ops.add (ops.add (coeff ops l t) (ops.neg (ops.mul b (coeff ops l (suc t)))))
          (ops.neg (ops.mul a (ops.add (coeff ops l (suc t)) (ops.neg (ops.mul b (coeff ops l (suc (suc t))))))))
      once a b =
          coeff_linear_suc ops laws a (linear ops b l) (suc t)
          ∙ ap₂ (λ x y. ops.add x (ops.neg (ops.mul a y))) (coeff_linear_suc ops laws b l t) (coeff_linear_suc ops laws b l (suc t))

  less_nothing : (q x : A) → ops.add x (ops.neg (ops.mul q ops.zero)) ≡ x
  less_nothing q x = let L : Laws ops = laws in simp (ring, L)

  linear_top : (q : A) (l : List A) (k : ℕ) → length l ≤ suc k → coeff ops (linear ops q l) (suc k) ≡ coeff ops l k
  linear_top q l k h =
      coeff_linear_suc ops laws q l k ∙ ap (λ y. ops.add (coeff ops l k) (ops.neg (ops.mul q y))) (coeff_past W l (suc k) h) ∙ less_nothing q (coeff ops l k)

  module _ (p : ℕ → A) where
    pub locator_none : locator f p 0 ≡ ops.one ∷ []
    unfolding locator
    locator_none = refl

    pub locator_suc : (m : ℕ) → locator f p (suc m) ≡ linear ops (p m) (locator f p m)
    unfolding locator
    locator_suc m = refl

    pub locator_length : (m : ℕ) → length (locator f p m) ≤ m + 1
    locator_length zero = rw locator_none (omega arith)
    locator_length (suc m) = rw (locator_suc m, length_linear ops (p m) (locator f p m)) (let h = locator_length m in omega arith)

    module _ (i : ℕ) where
      -- the product over the points but i
      others : ℕ → List A
      others m = grown f ops.one p i m

      others_same : (m : ℕ) → m ≡ i → others (suc m) ≡ others m
      unfolding others
      others_same m e = ap (grown f ops.one p i) (sym (add-one m)) ∙ grown_same W p i ops.one m e

      others_other : (m : ℕ) → ¬ (m ≡ i) → others (suc m) ≡ linear ops (p m) (others m)
      unfolding others
      others_other m d = ap (grown f ops.one p i) (sym (add-one m)) ∙ grown_other W p i ops.one m d

      before : (m : ℕ) → m ≤ i → locator f p m ≡ others m
      unfolding others
      before zero h = locator_none ∙ sym (grown_none W p i ops.one)
      before (suc m) h = locator_suc m ∙ ap (linear ops (p m)) (before m (omega arith)) ∙ sym (others_other m (λ e. omega arith))

      whole : (m : ℕ) → i < m → (t : ℕ) → coeff ops (locator f p m) t ≡ coeff ops (linear ops (p i) (others m)) t
      whole zero h t = absurd (omega arith)
      whole (suc m) h t = ap (λ l. coeff ops l t) (locator_suc m) ∙ go (ℕ_discrete m i) (λ k. whole m k)
        where
          go : Dec (m ≡ i) → (i < m → (t : ℕ) → coeff ops (locator f p m) t ≡ coeff ops (linear ops (p i) (others m)) t) →
              coeff ops (linear ops (p m) (locator f p m)) t ≡ coeff ops (linear ops (p i) (others (suc m))) t
          go (yes e) ih = ap (λ l. coeff ops l t) (ap₂ (linear ops) (ap p e) (before m (omega arith) ∙ sym (others_same m e)))
          go (no d) ih =
              linear_same (p m) (locator f p m) (linear ops (p i) (others m)) (ih (omega arith)) t
              ∙ linear_swap (p m) (p i) (others m) t ∙ ap (λ l. coeff ops (linear ops (p i) l) t) (sym (others_other m d))

      back : (q x y : A) → ops.add (ops.add x (ops.neg (ops.mul q y))) (ops.mul y q) ≡ x
      back q x y = let L : Laws ops = laws in simp (ring, L)

      -- a coefficient of the quotient from the next
      pub quotient_step : (m t : ℕ) → i < m →
          ops.add (coeff ops (locator f p m) (suc t)) (ops.mul (coeff ops (grown f ops.one p i m) (suc t)) (p i)) ≡ coeff ops (grown f ops.one p i m) t
      unfolding others
      quotient_step m t h =
          ap (λ x. ops.add x (ops.mul (coeff ops (others m) (suc t)) (p i))) (whole m h (suc t) ∙ coeff_linear_suc ops laws (p i) (others m) t)
          ∙ back (p i) (coeff ops (others m) t) (coeff ops (others m) (suc t))

      short : (m : ℕ) → i < m → length (others m) ≤ m
      unfolding others
      short zero h = absurd (omega arith)
      short (suc m) h = go (ℕ_discrete m i) (λ k. short m k)
        where
          go : Dec (m ≡ i) → (i < m → length (others m) ≤ m) → length (others (suc m)) ≤ suc m
          go (yes e) ih = rw (others_same m e) (let k = grown_length W p i ops.one m in omega arith)
          go (no d) ih = rw (others_other m d, length_linear ops (p m) (others m)) (let k = ih (omega arith) in omega arith)

      top_before : (m : ℕ) → m ≤ i → coeff ops (others m) m ≡ ops.one
      unfolding others
      top_before zero h = ap (λ l. coeff ops l 0) (grown_none W p i ops.one) ∙ coeff_head ops ops.one []
      top_before (suc m) h =
          ap (λ l. coeff ops l (suc m)) (others_other m (λ e. omega arith))
          ∙ linear_top (p m) (others m) m (let k = grown_length W p i ops.one m in omega arith) ∙ top_before m (omega arith)

      -- the highest is one
      top : (m : ℕ) → i < m → coeff ops (others m) (m - 1) ≡ ops.one
      top zero h = absurd (omega arith)
      top (suc m) h = ap (coeff ops (others (suc m))) less ∙ go (ℕ_discrete m i) (λ k. top m k)
        where
          less : suc m - 1 ≡ m
          less = omega arith

          go : Dec (m ≡ i) → (i < m → coeff ops (others m) (m - 1) ≡ ops.one) → coeff ops (others (suc m)) m ≡ ops.one
          go (yes e) ih = ap (λ l. coeff ops l m) (others_same m e) ∙ top_before m (omega arith)
          go (no d) ih =
              ap (λ l. coeff ops l m) (others_other m d) ∙ ap (coeff ops (linear ops (p m) (others m))) next
              ∙ linear_top (p m) (others m) (m - 1) (let k = short m (omega arith) in omega arith) ∙ ih (omega arith)
            where
              next : m ≡ suc (m - 1)
              next = omega arith

      pub quotient_top : (m : ℕ) → i < m → coeff ops (grown f ops.one p i m) (m - 1) ≡ ops.one
      unfolding others
      quotient_top m h = top m h

      -- with the inverse of less the differences, less the coefficients of the solution
      pub quotient_basis : (m t : ℕ) → ops.mul (ops.inv (ops.neg (differences f p i m))) (coeff ops (grown f ops.one p i m) t) ≡ ops.neg (coeff ops (basis ops p i m) t)
      quotient_basis m t =
          sym (coeff_scale ops laws d (grown f ops.one p i m) t)
          ∙ ap (λ l. coeff ops l t) (scale_grown W p i d ops.one m ∙ ap (λ a. grown f a p i m) (mul_one ops laws d))
          ∙ grown_neg W p i m t
        where
          d : A
          d = ops.inv (ops.neg (differences f p i m))

  -- ---- the products of differences
  gaps_none : (q : ℕ → A) (x : A) → gaps ops q 0 x ≡ ops.one
  unfolding gaps
  gaps_none q x = refl

  gaps_suc : (q : ℕ → A) (m : ℕ) (x : A) → gaps ops q (suc m) x ≡ ops.mul (gaps ops q m x) (ops.add x (ops.neg (q m)))
  unfolding gaps
  gaps_suc q m x = refl

  module _ (p : ℕ → A) (i : ℕ) where
    -- those with the points before, and with those after
    low : ℕ → A
    low n = gaps ops p n (p i)

    high : ℕ → A
    high n = gaps ops (λ j. p (suc i + j)) n (p i)

    differences_low : (m : ℕ) → m ≤ i → differences f p i m ≡ low m
    unfolding low
    differences_low zero h = differences_none W p i ∙ sym (gaps_none p (p i))
    differences_low (suc m) h =
        ap (differences f p i) (sym (add-one m)) ∙ differences_other W p i m (λ e. omega arith)
        ∙ ap (λ x. ops.mul x (ops.add (p i) (ops.neg (p m)))) (differences_low m (omega arith)) ∙ sym (gaps_suc p m (p i))

    differences_high : (n : ℕ) → differences f p i (suc i + n) ≡ ops.mul (low i) (high n)
    unfolding low high
    differences_high zero =
        ap (differences f p i) (plus_zero (suc i) ∙ sym (add-one i)) ∙ differences_same W p i i refl ∙ differences_low i (omega arith)
        ∙ sym (ap (ops.mul (gaps ops p i (p i))) (gaps_none (λ j. p (suc i + j)) (p i)) ∙ mul_one ops laws _)
    differences_high (suc n) =
        ap (differences f p i) (add-suc (suc i) n ∙ sym (add-one (suc i + n))) ∙ differences_other W p i (suc i + n) (λ e. omega arith)
        ∙ ap (λ x. ops.mul x (ops.add (p i) (ops.neg (p (suc i + n))))) (differences_high n)
        ∙ mul_assoc ops laws _ _ _ ∙ ap (ops.mul (gaps ops p i (p i))) (sym (gaps_suc (λ j. p (suc i + j)) n (p i)))

    turned_is : (m k : ℕ) → turned f p m i k ≡ ops.mul (high (min (k - 1) (m - 1 - i))) (low (i + k - m))
    unfolding turned low high
    turned_is m k = refl

    pub turned_all : (m : ℕ) → i < m → turned f p m i m ≡ differences f p i m
    turned_all m h =
        turned_is m m ∙ ap₂ (λ a b. ops.mul (high a) (low b)) first second ∙ mul_comm ops laws _ _
        ∙ sym (ap (differences f p i) whole ∙ differences_high (m - 1 - i))
      where
        first : min (m - 1) (m - 1 - i) ≡ m - 1 - i
        first = omega arith

        second : i + m - m ≡ i
        second = omega arith

        whole : m ≡ suc i + (m - 1 - i)
        whole = omega arith

    pub turned_first : (m : ℕ) → i < m → turned f p m i 1 ≡ ops.one
    unfolding low high
    turned_first m h =
        turned_is m 1 ∙ ap₂ (λ a b. ops.mul (high a) (low b)) first second
        ∙ ap₂ ops.mul (gaps_none (λ j. p (suc i + j)) (p i)) (gaps_none p (p i)) ∙ mul_one ops laws ops.one
      where
        first : min (1 - 1) (m - 1 - i) ≡ 0
        first = omega arith

        second : i + 1 - m ≡ 0
        second = omega arith

    apart : (a b c : A) → ops.mul (ops.mul a c) b ≡ ops.mul (ops.mul a b) c
    apart a b c = let L : Laws ops = laws in simp (ring, L)

    -- the next point after ..
    pub turned_after : (m k : ℕ) → 0 < k → i + k < m → ops.mul (turned f p m i k) (ops.add (p i) (ops.neg (p (i + k)))) ≡ turned f p m i (k + 1)
    unfolding low high
    turned_after m k g h =
        ap (λ x. ops.mul x (ops.add (p i) (ops.neg (p (i + k))))) (turned_is m k ∙ ap₂ (λ a b. ops.mul (high a) (low b)) first second)
        ∙ sym (apart (high (k - 1)) (low 0) (ops.add (p i) (ops.neg (p (i + k)))))
        ∙ ap (λ x. ops.mul x (low 0)) (ap (λ n. ops.mul (high (k - 1)) (ops.add (p i) (ops.neg (p n)))) place ∙ sym (gaps_suc (λ j. p (suc i + j)) (k - 1) (p i)))
        ∙ sym (turned_is m (k + 1) ∙ ap₂ (λ a b. ops.mul (high a) (low b)) third fourth)
      where
        first : min (k - 1) (m - 1 - i) ≡ k - 1
        first = omega arith

        second : i + k - m ≡ 0
        second = omega arith

        place : i + k ≡ suc i + (k - 1)
        place = omega arith

        third : min (k + 1 - 1) (m - 1 - i) ≡ suc (k - 1)
        third = omega arith

        fourth : i + (k + 1) - m ≡ 0
        fourth = omega arith

    -- .. or from the first on
    pub turned_round : (m k : ℕ) → 0 < k → i < m → m ≤ i + k → ops.mul (turned f p m i k) (ops.add (p i) (ops.neg (p (i + k - m)))) ≡ turned f p m i (k + 1)
    unfolding low high
    turned_round m k g h l =
        ap (λ x. ops.mul x (ops.add (p i) (ops.neg (p (i + k - m))))) (turned_is m k ∙ ap (λ a. ops.mul (high a) (low (i + k - m))) first)
        ∙ mul_assoc ops laws _ _ _ ∙ ap (ops.mul (high (m - 1 - i))) (sym (gaps_suc p (i + k - m) (p i)))
        ∙ sym (turned_is m (k + 1) ∙ ap₂ (λ a b. ops.mul (high a) (low b)) third fourth)
      where
        first : min (k - 1) (m - 1 - i) ≡ m - 1 - i
        first = omega arith

        third : min (k + 1 - 1) (m - 1 - i) ≡ m - 1 - i
        third = omega arith

        fourth : i + (k + 1) - m ≡ suc (i + k - m)
        fourth = omega arith
