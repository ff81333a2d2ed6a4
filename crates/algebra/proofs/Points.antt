-- Within a layer all points differ, and so do the u-th powers of the points of different pairs of a rack and a digit.
-- Assumes nothing.
use mathlib.Core.Path.{◌≡◌, sym, ◌∙◌, ap, ap₂}
use Prim.Native.Nat.{ℕ, ◌+◌, ◌*◌, ◌/◌, ◌%◌, ◌<◌}
use native.Mathlib.Nat.{add_comm as plus_comm, mul_comm as times_comm, zero-mul as zero_times, add-zero as plus_zero, mul-le-mul_left, mod-lt, div-add-mod', div-lt_iff_lt-mul}
use native.Mathlib.Omega.{arith}
use lib.Arith.{digits_lt, digits_div, digits_mod}
use Rattle.algebra.specs.Sum.{pow}
use Rattle.algebra.specs.Lagrange.{Distinct, check}
use Rattle.algebra.specs.Shape.{Shape, Fits}
use Rattle.algebra.specs.Points.{point, tray_point, rack_point, place, rack_sum, rack_check}
use Rattle.algebra.proofs.Ring.{mul_one}
use Rattle.algebra.proofs.Pow.{pow_add, pow_mul, one_pow}
use Rattle.algebra.proofs.Weighted.{check_split, place_sum, racks_check}

-- a number is written in one way as a quotient and a remainder
pub digits_same : (m p q a b : ℕ) → a < m → b < m → p * m + a ≡ q * m + b → (p ≡ q) × (a ≡ b)
digits_same m p q a b h k e =
    (sym (digits_div p h) ∙ ap (λ x. x / m) e ∙ digits_div q k, sym (digits_mod p h) ∙ ap (λ x. x % m) e ∙ digits_mod q k)

module _ {A : Type 0} (sh : Shape A) (fits : Fits sh) where
  open sh use {ops as o, root as z, order as N, racks as B, size as u, digits as s}
  open fits use {laws as L, root, some_racks, some_places, some_digits, divides, room}
  open o use {add as ◌⊕◌, mul as ◌⊗◌, neg, inv, zero as 𝟘, one as 𝟙}

  infixl 60 ◌⊕◌
  infixl 70 ◌⊗◌
  pub low : (i a : ℕ) → i < B → a < s → i * s + a < N / u
  low i a h k = omega (arith, digits_lt h k, room)

  pub exponent : (i a g : ℕ) → i < B → a < s → g < u → i * s + a + g * (N / u) < N
  exponent i a g h k l = omega (arith, digits_lt l (low i a h k), divides, times_comm u (N / u))

  pub point_apart : (i a g j b f : ℕ) → i < B → a < s → g < u → j < B → b < s → f < u → point sh i a g ≡ point sh j b f →
      (i ≡ j) × (a ≡ b) × (g ≡ f)
  unfolding point
  point_apart i a g j b f hi ha hg hj hb hf e =
      let x = root.apart (i * s + a + g * (N / u)) (j * s + b + f * (N / u)) (exponent i a g hi ha hg) (exponent j b f hj hb hf) e in
      let y = digits_same (N / u) g f (i * s + a) (j * s + b) (low i a hi ha) (low j b hj hb) (plus_comm (g * (N / u)) (i * s + a) ∙ x ∙ plus_comm (j * s + b) (f * (N / u))) in
      let w = digits_same s i j a b ha hb y.1 in
      (w.0, w.1, y.0)

  rack_of_lem : (x : ℕ) → x < B * u → x / u < B
  rack_of_lem x h = (div-lt_iff_lt-mul some_places).1 h

  -- the points of the trays differ, whatever digits the racks have
  pub trays_distinct : (a : ℕ → ℕ) → ((i : ℕ) → i < B → a i < s) → Distinct (tray_point sh a) (B * u)
  unfolding tray_point
  trays_distinct a ha = record {
    apart = λ x y h k e.
        let w = point_apart (x / u) (a (x / u)) (x % u) (y / u) (a (y / u)) (y % u) (rack_of_lem x h) (ha (x / u) (rack_of_lem x h)) (mod-lt x some_places) (rack_of_lem y k)
        (ha (y / u) (rack_of_lem y k)) (mod-lt y some_places) e in
        sym (div-add-mod' x u) ∙ ap₂ (λ p q. p * u + q) w.0 w.2 ∙ div-add-mod' y u;
  }

  -- so do the u-th powers for the pairs of a rack and a digit
  pub power_is : (i a g : ℕ) → pow o (point sh i a g) u ≡ pow o z (u * (i * s + a))
  unfolding point
  power_is i a g =
      sym (pow_mul o L z (i * s + a + g * (N / u)) u)
      ∙ ap (pow o z) (omega (arith, ap (λ x. x * g) (divides)))
      ∙ pow_add o L z (u * (i * s + a)) (N * g)
      ∙ ap (λ x. pow o z (u * (i * s + a)) ⊗ x) (pow_mul o L z N g ∙ ap (λ x. pow o x g) root.full ∙ one_pow o L g)
      ∙ mul_one o L (pow o z (u * (i * s + a)))

  below : (i a : ℕ) → i < B → a < s → u * (i * s + a) < N
  below i a h k = omega (arith, mul-le-mul_left u (low i a h k), divides, some_places)

  pub powers_apart : (i a g j b f : ℕ) → i < B → a < s → j < B → b < s → pow o (point sh i a g) u ≡ pow o (point sh j b f) u →
      (i ≡ j) × (a ≡ b)
  powers_apart i a g j b f hi ha hj hb e =
      let x = root.apart (u * (i * s + a)) (u * (j * s + b)) (below i a hi ha) (below j b hj hb) (sym (power_is i a g) ∙ e ∙ power_is j b f) in
      let y = digits_same u (i * s + a) (j * s + b) 0 0 some_places some_places (omega (arith, x)) in
      digits_same s i j a b ha hb y.0

  -- the racks' points differ, whatever digits the racks have
  pub racks_distinct : (a : ℕ → ℕ) → ((i : ℕ) → i < B → a i < s) → Distinct (rack_point sh a) B
  unfolding rack_point
  racks_distinct a ha = record { apart = λ i j h k e. (powers_apart i (a i) 0 j (a j) 0 h (ha i h) k (ha j k) e).0 }

  -- the point of a place is that of place 0, times a power of a root of one
  pub point_split : (i a g : ℕ) → point sh i a g ≡ point sh i a 0 ⊗ pow o (pow o z (N / u)) g
  unfolding point
  point_split i a g = pow_add o L z (i * s + a) (g * (N / u))
      ∙ ap₂ ◌⊗◌ (ap (pow o z) (sym (plus_zero (i * s + a)) ∙ ap (λ x. i * s + a + x) (sym (zero_times (N / u))))) (ap (pow o z) (times_comm g (N / u))
      ∙ pow_mul o L z (N / u) g)

  root_one : pow o (pow o z (N / u)) u ≡ 𝟙
  root_one = sym (pow_mul o L z (N / u) u) ∙ ap (pow o z) (times_comm (N / u) u ∙ divides) ∙ root.full

  tray_at : (a : ℕ → ℕ) (i g : ℕ) → g < u → tray_point sh a (i * u + g) ≡ point sh i (a i) 0 ⊗ place sh g
  unfolding tray_point place
  tray_at a i g h = ap₂ (λ r p. point sh r (a r) p) (digits_div i h) (digits_mod i h) ∙ point_split i (a i) g

  -- a check of the number u·w + m speaks only of rack sums
  pub rack_check_lem : (a : ℕ → ℕ) (c : ℕ → A) (w m : ℕ) →
      check o (tray_point sh a) (B * u) c (u * w + m) ≡ rack_check sh a m (rack_sum sh c m) w
  unfolding rack_point rack_sum rack_check place place_sum
  rack_check_lem a c w m =
      racks_check o L (pow o z (N / u)) u root_one (tray_point sh a) (λ i. point sh i (a i) 0) B (λ i g h k. tray_at a i g k) c w m
      ∙ check_split o L (λ i. point sh i (a i) 0) B u m (rack_sum sh c m) w

  -- the factors of the places differ
  pub places_distinct : Distinct (place sh) u
  unfolding place
  places_distinct = record {
    apart = λ g f k l e.
        let x = root.apart (g * (N / u)) (f * (N / u)) (omega (arith, exponent 0 0 g some_racks some_digits k))
        (omega (arith, exponent 0 0 f some_racks some_digits l)) (as_power g ∙ e ∙ sym (as_power f)) in
        (digits_same (N / u) g f 0 0 some some (omega (arith, x))).0;
  }
    where
      as_power : (g : ℕ) → pow o z (g * (N / u)) ≡ pow o (pow o z (N / u)) g
      as_power g = ap (pow o z) (times_comm g (N / u)) ∙ pow_mul o L z (N / u) g

      some : 0 < N / u
      some = omega (arith, low 0 0 some_racks some_digits)
