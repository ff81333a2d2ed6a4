-- What follows for the numbers of an admissible layout: K ≥ 1, R ≥ 1, s ≤ 4, n·s ≤ 240, u·(R − 1) ≤ r − 1, and what the algebra asks of them.
-- Assumes nothing.
use mathlib.Core.Path.{◌≡◌, refl, ap, ◌∙◌}
use Prim.Native.Nat.{ℕ, suc, ◌+◌, ◌-◌, ◌*◌, ◌/◌, ◌%◌, ◌^◌, ◌≤◌, ◌<◌}
use native.Mathlib.Nat.{mul-le-mul, mul_comm, mul-sub, le-div_iff_mul-le, pow-suc, mul-div_cancel, div-mul-le_self, mod-lt}
use native.Mathlib.Omega.{arith}
use Rattle.algebra.specs.Layers.{group_of, layer_of}
use Rattle.algebra.proofs.Layers.{layer_in, group_in}
use Rattle.algebra.proofs.Numbers.{room_from, base_small, total_from, enough_from}
use Rattle.layout.specs.declared.Layout.{Layout}
use Rattle.layout.specs.Layout.{trays, whole_racks, parity_racks, groups, checks, digits, layers, Cabinet}
use Rattle.layout.proofs.Facts.{bounds}

-- R racks have room for the r trays that the checks determine
pub checks_fit : (l : Layout) → checks l ≤ parity_racks l * l.size
checks_fit l = fit l.racks l.size (whole_racks l) l.dimension (div-mul-le_self l.dimension l.size)
  where
    fit : (B u K k : ℕ) → K * u ≤ k → B * u - k ≤ (B - K) * u
    fit B u K k h = rw (mul_comm (B - K) u, mul-sub u B K) (omega (arith, mul_comm u B, mul_comm u K))

module _ (l : Layout) (a : Cabinet l) where
  -- K ≥ 1
  pub whole_low : 1 ≤ whole_racks l
  whole_low = (le-div_iff_mul-le (bounds l a).size_low).1 (omega arith)

  -- R ≥ 1
  pub parity_low : 1 ≤ parity_racks l
  parity_low = omega arith

  -- s is below B
  digits_below : digits l < l.racks
  digits_below = omega (arith, whole_low)

  -- s ≤ 4
  pub digits_small : digits l ≤ 4
  digits_small = base_small (digits l) l.racks digits_below (omega arith)

  -- n·s ≤ 240
  pub product_high : trays l * digits l ≤ 240
  product_high = let m : trays l * digits l ≤ 60 * 4 = mul-le-mul a.trays_high digits_small in omega arith

  -- B·s ≤ N/u
  pub room : (N : ℕ) → 240 ≤ N → l.size * (N / l.size) ≡ N → l.racks * digits l ≤ N / l.size
  room N h e = room_from N l.racks l.size (digits l) (bounds l a).size_low e (let p = product_high in omega arith)

  -- the checks u·w + m, w below R and m + v below u, are among the r checks
  pub enough : (w m : ℕ) → w < parity_racks l → m + l.dimension % l.size < l.size → l.size * w + m < checks l
  enough = enough_from l.racks l.size l.dimension (checks l) (parity_racks l) (bounds l a).size_low (omega arith) (omega (arith, (bounds l a).dimension_high)) refl

  -- u·(R − 1) ≤ r − 1
  pub last_check : l.size * (parity_racks l - 1) < checks l
  last_check = omega (arith, enough (parity_racks l - 1) 0 (omega (arith, parity_low)) (omega (arith, mod-lt l.dimension (bounds l a).size_low)))

  -- L/s is a power of s
  pub groups_are : groups l ≡ digits l ^ (l.racks - 1)
  groups_are = ap (λ x. x / digits l) (ap (λ b. digits l ^ b) (more l.racks a.racks_low) ∙ pow-suc (digits l) (l.racks - 1))
      ∙ mul-div_cancel (digits l ^ (l.racks - 1)) (bounds l a).digits_low
    where
      more : (n : ℕ) → 2 ≤ n → n ≡ suc (n - 1)
      more n h = omega arith

  -- the checks of a group and the helpers are as many as its places, and with E = 1 two more
  pub total : parity_racks l + l.helpers ≡ digits l + (l.racks - 1) + 2 * l.errors
  total =
      let t = total_from l.racks (whole_racks l) (l.helpers - 2 * l.errors) (parity_racks l) (digits l) (omega arith) (omega arith) (omega arith) refl refl in omega arith

  -- with E = 0 there are as many checks as unknowns
  pub total_plain : l.errors ≡ 0 → parity_racks l + l.helpers ≡ digits l + (l.racks - 1)
  total_plain e = omega (arith, total, e)

  -- the layers of a group below L/s are below L, and the group of a layer is below L/s
  pub layer_below : (h p b : ℕ) → h < l.racks → p < groups l → b < digits l → layer_of (digits l) h p b < layers l
  layer_below h p b hh hp hb = layer_in (digits l) (bounds l a).digits_low l.racks h p b hh (rw groups_are at hp) hb

  pub group_below : (h j : ℕ) → h < l.racks → j < layers l → group_of (digits l) h j < groups l
  group_below h j hh hj = rw groups_are (group_in (digits l) (bounds l a).digits_low l.racks h j hh hj)
