-- The layers of a block of groups with one digit lie in runs.
-- Assumes nothing.
use mathlib.Core.Path.{◌≡◌, sym, ap, ap₂, ◌∙◌, subst}
use Prim.Native.Nat.{ℕ, ◌+◌, ◌-◌, ◌*◌, ◌/◌, ◌%◌, ◌^◌, ◌<◌, ◌≤◌, min}
use native.Mathlib.Nat.{mul_assoc, mul_comm, add-mul, one-mul, mod-eq_of_lt, div-eq_of_lt, div_self, div-div-eq-div-mul, mul-div_cancel, mul-mod_left}
use native.Mathlib.Nat.{mul-add-div_right, mul-add-mod_self_right, pow-le-pow_right, le-mul_of_pos_right}
use native.Mathlib.Decide.{dec_le}
use native.Mathlib.Omega.{arith}
use lib.Pow.{pow-add}
use lib.Arith.{digits_div, digits_mod, mod-mul}
use Rattle.lists.proofs.Numbers.{cell_in}
use Rattle.algebra.specs.Layers.{layer_of}
use Rattle.layout.specs.declared.Layout.{Layout}
use Rattle.layout.specs.Layout.{digits, layers}
use Rattle.layout.proofs.Facts.{bounds}
use Rattle.layout.proofs.Numbers.{layer_below}
use Rattle.blocks.proofs.Digits.{run_pos}
use Rattle.sums.specs.Inner.{Groups}
use Rattle.sums.proofs.Sides.{width_pos}
use Rattle.group.specs.Inner.{spot, Lying}
use Rattle.group.proofs.Spots.{spot_run}

-- where the width divides s^h, all groups of the block have the same quotient by s^h
module _ (m w n j : ℕ) (pm : 0 < m) (pw : 0 < w) (hj : j < w) where
  quotient : (k : ℕ) → k < w → (n * w + k) / (m * w) ≡ n / m
  quotient k h = ap (λ y. (n * w + k) / y) (mul_comm m w) ∙ sym (div-div-eq-div-mul (n * w + k) w m) ∙ ap (λ y. y / m) (digits_div n h)

  remainder : (k : ℕ) → k < w → (n * w + k) % (m * w) ≡ n % m * w + k
  remainder k h = mod-mul (n * w + k) pm pw ∙ ap₂ (λ x y. x % m * w + y) (digits_div n h) (digits_mod n h)

  plus : n * w ≡ n * w + 0
  plus = omega arith

  pub same_quotient : (n * w + j) / (m * w) ≡ n * w / (m * w)
  same_quotient = quotient j hj ∙ sym (quotient 0 pw) ∙ ap (λ y. y / (m * w)) (sym plus)

  pub next_remainder : (n * w + j) % (m * w) ≡ n * w % (m * w) + j
  next_remainder = let a = remainder j hj in let b : n * w % (m * w) ≡ n % m * w + 0 = ap (λ y. y % (m * w)) plus ∙ remainder 0 pw in join _ _ _ _ a b
    where
      join : (a b c j : ℕ) → a ≡ c + j → b ≡ c + 0 → a ≡ b + j
      join a b c j e f = omega arith

-- the layers of a block of w groups from n·w on
module _ (s h w n a : ℕ) (pw : 0 < w) where
  -- one run
  pub within : (m : ℕ) → 0 < m → s ^ h ≡ m * w → (j : ℕ) → j < w → spot (layer_of s h (n * w) a) w (s * w) j ≡ layer_of s h (n * w + j) a
  unfolding spot layer_of
  within m pm e j k =
      ap₂ (λ x y. (n * w / s ^ h * s + a) * s ^ h + n * w % s ^ h + x * (s * w) + y) (div-eq_of_lt k) (mod-eq_of_lt k)
      ∙ turn ((n * w / s ^ h * s + a) * s ^ h) (n * w % s ^ h) (s * w) j
      ∙ ap₂ (λ x y. (x * s + a) * s ^ h + y) (sym quotients) (sym remainders)
    where
      turn : (x y z j : ℕ) → x + y + 0 * z + j ≡ x + (y + j)
      turn x y z j = omega arith

      quotients : (n * w + j) / s ^ h ≡ n * w / s ^ h
      quotients = subst (λ q. (n * w + j) / q ≡ n * w / q) (sym e) (same_quotient m w n j pm pw k)

      remainders : (n * w + j) % s ^ h ≡ n * w % s ^ h + j
      remainders = subst (λ q. (n * w + j) % q ≡ n * w % q + j) (sym e) (next_remainder m w n j pm pw k)

  -- many runs
  pub across : (m : ℕ) → 0 < s ^ h → w ≡ m * s ^ h → (j : ℕ) → spot (layer_of s h (n * w) a) (s ^ h) (s * s ^ h) j ≡ layer_of s h (n * w + j) a
  unfolding spot layer_of
  across m p e j =
      ap₂ (λ x y. (x * s + a) * s ^ h + y + j / s ^ h * (s * s ^ h) + j % s ^ h) (ap (λ y. y / s ^ h) whole ∙ mul-div_cancel (n * m) p) (ap (λ y. y % s ^ h) whole
      ∙ mul-mod_left (n * m) (s ^ h))
      ∙ turn (n * m) (j / s ^ h) s a (s ^ h) (j % s ^ h)
      ∙ ap₂ (λ x y. (x * s + a) * s ^ h + y) (sym (ap (λ y. (y + j) / s ^ h) whole ∙ mul-add-div_right p (n * m) j))
      (sym (ap (λ y. (y + j) % s ^ h) whole ∙ mul-add-mod_self_right (n * m) (s ^ h) j))
    where
      whole : n * w ≡ n * m * s ^ h
      whole = ap (λ y. n * y) e ∙ sym (mul_assoc n m (s ^ h))

      turn : (f c s a q r : ℕ) → (f * s + a) * q + 0 + c * (s * q) + r ≡ ((f + c) * s + a) * q + r
      turn f c s a q r =
          let x : ((f + c) * s + a) * q ≡ (f * s + c * s) * q + a * q = ap (λ y. (y + a) * q) (add-mul f c s) ∙ add-mul (f * s + c * s) a q in
          let y : (f * s + c * s) * q ≡ f * s * q + c * s * q = add-mul (f * s) (c * s) q in
          let z : (f * s + a) * q ≡ f * s * q + a * q = add-mul (f * s) a q in
          let v : c * s * q ≡ c * (s * q) = mul_assoc c s q in
          omega arith

-- runs of the smaller of w and s^h
module _ (l : Layout) (h w first a s q run : ℕ) (g : Groups l w first) (hh : h < l.racks) (ha : a < digits l) (es : s ≡ digits l) (eq : q ≡ digits l ^ h) (er : run ≡ min w q) where
  some : 0 < w
  some = width_pos l w first g

  power_pos : 0 < digits l ^ h
  power_pos = run_pos l g.block.adm h

  -- the width divides s^h or is a multiple of it
  sizes : (P : Type 0) → ((m : ℕ) → 0 < m → digits l ^ h ≡ m * w → run ≡ w → P) → ((m : ℕ) → w ≡ m * digits l ^ h → run ≡ digits l ^ h → P) → P
  sizes P low high = go (dec_le w q)
    where
      go : Dec (w ≤ q) → P
      go (yes k) = part (dec_le g.block.power h)
        where
          short : run ≡ w
          short = er ∙ omega arith

          part : Dec (g.block.power ≤ h) → P
          part (yes c) =
              low (digits l ^ (h - g.block.power)) (run_pos l g.block.adm (h - g.block.power))
              ((let e : h ≡ h - g.block.power + g.block.power = omega arith in ap (λ y. digits l ^ y) e) ∙ pow-add (digits l) (h - g.block.power) g.block.power
              ∙ ap (λ y. digits l ^ (h - g.block.power) * y) (sym g.block.width)) short
          part (no c) =
              let up : digits l ^ h ≤ digits l ^ g.block.power = pow-le-pow_right (bounds l g.block.adm).digits_low (omega arith) in
              let width = g.block.width in
              low 1 (omega arith) (let e : digits l ^ h ≡ w = omega arith in e ∙ sym (one-mul w)) short
      go (no k) =
          high (digits l ^ (g.block.power - h))
          (g.block.width ∙ (let e : g.block.power ≡ g.block.power - h + h = (let c = more (dec_le g.block.power h) in omega arith) in ap (λ y. digits l ^ y) e)
          ∙ pow-add (digits l) (g.block.power - h) h)
          (er ∙ (let e : min w q ≡ q = omega arith in e) ∙ eq)
        where
          more : Dec (g.block.power ≤ h) → h < g.block.power
          more (yes c) = absurd (let up : digits l ^ g.block.power ≤ digits l ^ h = pow-le-pow_right (bounds l g.block.adm).digits_low c in let width =
              g.block.width in omega arith)
          more (no c) = omega arith

  pub run_low : 0 < run
  run_low = sizes (0 < run) (λ m p e r. rw r some) (λ m e r. rw r power_pos)

  whole : w / run * run ≡ w
  whole =
      sizes (w / run * run ≡ w) (λ m p e r. ap (λ y. w / y * y) r ∙ ap (λ y. y * w) (div_self some) ∙ one-mul w)
      (λ m e r. ap (λ y. w / y * y) r ∙ ap (λ y. y / digits l ^ h * digits l ^ h) e ∙ ap (λ y. y * digits l ^ h) (mul-div_cancel m power_pos) ∙ sym e)

  module _ (start : ℕ) (est : start ≡ layer_of (digits l) h first a) where
    placed : (j : ℕ) → j < w → spot start run (s * run) j ≡ layer_of (digits l) h (first + j) a
    placed j k =
        ap₂ (λ x y. spot x run (y * run) j) (est ∙ ap (λ y. layer_of (digits l) h y a) g.block.first_is) es
        ∙ sizes (spot (layer_of (digits l) h (g.block.number * w) a) run (digits l * run) j ≡ layer_of (digits l) h (g.block.number * w + j) a)
        (λ m p e r. ap (λ y. spot (layer_of (digits l) h (g.block.number * w) a) y (digits l * y) j) r ∙ within (digits l) h w g.block.number a some m p e j k)
        (λ m e r. ap (λ y. spot (layer_of (digits l) h (g.block.number * w) a) y (digits l * y) j) r ∙ across (digits l) h w g.block.number a some m power_pos e j)
        ∙ ap (λ y. layer_of (digits l) h (y + j) a) (sym g.block.first_is)

    pub lying : Lying l h w first a start run (w / run) (s * run)
    lying = record {
      in_tray = record {
        some = some;
        inside = record { some = run_low; apart = rw (mul_comm s run) (le-mul_of_pos_right run (rw es (bounds l g.block.adm).digits_low)); at = inside };
        whole = whole;
      };
      at = placed;
    }
      where
        inside : (c : ℕ) → c < w / run → start + c * (s * run) + run ≤ layers l
        inside c k = let b = below in let p = run_low in omega arith
          where
            last : run - 1 < run
            last = let p = run_low in omega arith

            in_block : c * run + (run - 1) < w
            in_block = subst (λ y. c * run + (run - 1) < y) whole (cell_in (w / run) run c (run - 1) k last)

            below : start + c * (s * run) + (run - 1) < layers l
            below = subst (λ y. y < layers l) (sym (placed (c * run + (run - 1)) in_block) ∙ spot_run start run (s * run) c (run - 1) last)
                (layer_below l g.block.adm h (first + (c * run + (run - 1))) a hh (let i = in_block in let b = g.inside in omega arith) ha)
