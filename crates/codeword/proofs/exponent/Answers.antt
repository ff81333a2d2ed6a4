use Rattle.std.proofs.Common.{◌≡◌, ℕ, ◌*◌, ◌/◌, ◌%◌, ◌<◌, ◌≤◌, arith}
use native.Mathlib.Nat.{mod-lt, mul-le-mul, mul-div-le, le_of_lt, le_trans, le_refl}
use Rattle.algebra.specs.Layers.{digit}
use Rattle.algebra.proofs.Layers.{digit_below}
use Rattle.layout.specs.declared.Layout.{Layout}
use Rattle.layout.specs.Layout.{trays, digits, tray_limit, Cabinet}
use Rattle.layout.proofs.Facts.{bounds, rack_in, power_in}
use Rattle.codeword.proofs.Points.{exponent_known}
use Rattle.codeword.proofs.exponent.Goals as goal

-- the three summands, with the base s and some digit a as the code has them
record Summands (order u s a x : ℕ) : Type 0 where
  first : x / u * s ≤ tray_limit * tray_limit
  second : a < tray_limit
  third : x % u * (order / u) ≤ 256

summands : (order : ℕ) (l : Layout) (x j i s a : ℕ) → Cabinet l → x < trays l → order ≤ 256 → s ≡ digits l → a ≡ digit s j i → Summands order l.size s a x
summands order l x j i s a q h k es ea =
    let b = bounds l q in
    let s_low : 0 < s = omega arith in
    let s_high : s ≤ tray_limit = omega arith in
    let rack_high : x / l.size ≤ tray_limit = omega (arith, rack_in l q x h) in
    record {
      first = mul-le-mul rack_high s_high;
      second = omega (arith, digit_below s s_low j i);
      third = le_trans (mul-le-mul (le_of_lt (mod-lt x b.size_low)) (le_refl _)) (le_trans (mul-div-le order l.size) k);
    }

pub digit_at-a-requires : goal.digit_at-a-requires
digit_at-a-requires c =
    let q = c.requires.0 in
    (omega (arith, bounds _ q), rw c.digit_count-s.ensures (power_in _ q _ (omega (arith, rack_in _ q _ c.requires.1))))

pub overflow_mul-result : goal.overflow_mul-result
overflow_mul-result c =
    let p = c.requires in
    omega (arith, summands _ _ _ _ _ _ _ p.0 p.1 p.2 c.digit_count-s.ensures c.digit_at-a.ensures)

pub overflow_add-result : goal.overflow_add-result
overflow_add-result c =
    let p = c.requires in
    omega (arith, summands _ _ _ _ _ _ _ p.0 p.1 p.2 c.digit_count-s.ensures c.digit_at-a.ensures)

pub overflow_add-result-2 : goal.overflow_add-result-2
overflow_add-result-2 c =
    let p = c.requires in
    omega (arith, summands _ _ _ _ _ _ _ p.0 p.1 p.2 c.digit_count-s.ensures c.digit_at-a.ensures)

pub returns : goal.returns
returns c =
    let p = c.requires in (
      exponent_known _ _ _ _ _ _ c.digit_count-s.ensures c.digit_at-a.ensures,
      omega (arith, summands _ _ _ _ _ _ _ p.0 p.1 p.2 c.digit_count-s.ensures c.digit_at-a.ensures),
    )
