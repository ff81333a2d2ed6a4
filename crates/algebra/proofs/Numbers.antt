-- What the theorems ask of a layout's numbers, from the conditions of document 01: B racks of u trays, k trays of data, d helpers,
-- K = k / u, v = k % u, r = B u − k, R = B − K, s = d − K + 1.
-- Assumes nothing.
use mathlib.Core.Path.{◌≡◌, ap}
use Prim.Native.Nat.{ℕ, zero, suc, ◌+◌, ◌-◌, ◌*◌, ◌/◌, ◌%◌, ◌^◌, ◌≤◌, ◌<◌}
use native.Mathlib.Nat.{le_trans, pow-le-pow_left, pow-le-pow_right, mul-le-mul, mul-le-mul_left, div-add-mod', mul_comm}
use native.Mathlib.Decide.{dec_le, ℕ_discrete}
use native.Mathlib.Omega.{arith}
use Rattle.algebra.specs.Cabinet.{Rising}

-- n·s ≤ N leaves room for the points
pub room_from : (N B u s : ℕ) → 0 < u → u * (N / u) ≡ N → B * u * s ≤ N → B * s ≤ N / u
room_from N B u s pos e h = go (dec_le (B * s) (N / u))
  where
    go : Dec (B * s ≤ N / u) → B * s ≤ N / u
    go (yes l) = l
    go (no l) = absurd (omega (arith, mul-le-mul_left u (more (N / u) (B * s) l), e, h))
      where
        more : (a b : ℕ) → ¬ (b ≤ a) → a + 1 ≤ b
        more a b l = omega arith

-- the unknowns of a group and the helpers are all of its places
pub total_from : (B K d R s : ℕ) → 0 < B → K ≤ B → K ≤ d → R ≡ B - K → s ≡ d - K + 1 → R + d ≡ s + (B - 1)
total_from B K d R s hB hK hd eR es = omega arith

-- the checks u·w + m with w below R and m below u − v are among the r checks
pub enough_from : (B u k r R : ℕ) → 0 < u → k / u ≤ B → r + k ≡ B * u → R ≡ B - k / u → (w m : ℕ) → w < R → m + k % u < u → u * w + m < r
enough_from B u k r R hu hK er eR w m hw hm =
    omega (arith, mul-le-mul_left u (step w R hw), ap (λ x. u * x) (back B (k / u) R hK eR), div-add-mod' k u, mul_comm u (k / u), mul_comm u B)
  where
    step : (w R : ℕ) → w < R → w + 1 ≤ R
    step w R h = omega arith

    back : (B K R : ℕ) → K ≤ B → R ≡ B - K → R + K ≡ B
    back B K R h e = omega arith

-- each above the one before: rising
pub rising_from : (h : ℕ → ℕ) (d n : ℕ) → ((k : ℕ) → suc k < d → h k < h (suc k)) → ((k : ℕ) → k < d → h k < n) → Rising h d n
rising_from h d n step inside = record { up = λ j k l m. up j k l m; inside = inside }
  where
    up : (j k : ℕ) → j < k → k < d → h j < h k
    up j zero l m = absurd (omega arith)
    up j (suc k) l m = go (ℕ_discrete j k) (λ p. up j k p (omega arith))
      where
        go : Dec (j ≡ k) → (j < k → h j < h k) → h j < h (suc k)
        go (yes e) ih = rw e (step k m)
        go (no e) ih = omega (arith, ih (omega arith), step k m)

-- the limits on n and L leave n·s ≤ 255 (for those of document 01 and of W4)
pub base_small : (s B : ℕ) → s < B → s ^ B ≤ 4096 → s ≤ 4
base_small s B h l = go (dec_le s 4)
  where
    large : 5 ≤ s → 15625 ≤ s ^ B
    large p = le_trans (pow-le-pow_left p 6) (pow-le-pow_right (omega arith) (omega arith))

    go : Dec (s ≤ 4) → s ≤ 4
    go (yes p) = p
    go (no p) = absurd (omega (arith, large (omega arith)))

pub product_small : (n s B : ℕ) → n ≤ 60 → s < B → s ^ B ≤ 4096 → n * s ≤ 255
product_small n s B h k l = omega (arith, mul-le-mul h (base_small s B k l))
