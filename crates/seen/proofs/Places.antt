-- Where the runs of a tray lie in the buffer.
-- Assumes nothing.
use mathlib.Core.Path.{◌≡◌}
use mathlib.Core.List.{List}
use Prim.Native.Nat.{ℕ, ◌+◌, ◌-◌, ◌*◌, ◌/◌, ◌%◌, ◌<◌, ◌≤◌}
use native.Mathlib.Nat.{mod-lt, mod-le, le-mul_of_pos_right, mul-le-mul_right}
use native.Mathlib.Omega.{arith}
use lib.ListN.{length}
use Rattle.seen.specs.Inner.{Places}
use Rattle.seen.proofs.Runs.{block_layer_lem, last_multiple, multiples_ordered}

module _ {X : Type 0} (host : List X) (at s unit : ℕ) where
  pub places_less : (m n : ℕ) → Places host at s unit n → m ≤ n → Places host at s unit m
  places_less m n t h = record {
    unit_pos = t.unit_pos;
    digits_pos = t.digits_pos;
    inside = λ p a hp ha. t.inside p a (omega arith) ha;
    long = let k : m * s ≤ n * s = mul-le-mul_right s h in omega (arith, t.long);
  }

  -- the run of digit a within a block
  module _ (p w : ℕ) (t : Places host at s unit (p + w)) (block : p % unit + w ≤ unit) (some : ¬ (w ≡ 0)) where
    pub run_in : (a : ℕ) → a < s → at + (p / unit * s + a) * unit + p % unit + w ≤ length host
    run_in a h =
        let e = block_layer_lem s unit t.unit_pos p w (w - 1) a block (omega arith) in
        omega (arith, t.inside (p + (w - 1)) a (omega arith) h)

  -- the three parts of groups that go beyond a block
  pub record Parts (first count : ℕ) : Type 0 where
    pub low : first % unit < unit
    pub ordered : first + (unit - first % unit) ≤ first + count - (first + count) % unit
    pub runs_ordered : (first + (unit - first % unit)) * s ≤ (first + count - (first + count) % unit) * s
    pub runs_in : (first + count - (first + count) % unit) * s ≤ (first + count) * s
    pub rest_in : (first + count) % unit ≤ first + count
    pub rest_small : (first + count - (first + count) % unit) % unit + (first + count) % unit ≤ unit
    pub small : first + count ≤ (first + count) * s
    pub long : at + (first + count) * s ≤ length host

  pub parts : (first count : ℕ) → Places host at s unit (first + count) → unit < first % unit + count → Parts first count
  parts first count t beyond =
      let o = multiples_ordered first count unit t.unit_pos beyond in
      record {
        low = mod-lt first t.unit_pos;
        ordered = o;
        runs_ordered = mul-le-mul_right s o;
        runs_in = mul-le-mul_right s (omega arith);
        rest_in = mod-le (first + count) unit;
        rest_small = omega (arith, last_multiple (first + count) unit, mod-lt (first + count) t.unit_pos);
        small = le-mul_of_pos_right (first + count) t.digits_pos;
        long = t.long;
      }
