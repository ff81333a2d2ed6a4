-- What the public functions are told, and what the factors made ready say.
-- Assumes nothing.
use mathlib.Core.Path.{◌≡◌, sym, ap, subst}
use mathlib.Core.List.{List}
use Prim.Native.Nat.{ℕ, ◌+◌, ◌*◌, ◌/◌, ◌≤◌}
use native.Mathlib.Nat.{mul_assoc, add-zero, add_assoc}
use native.Mathlib.Omega.{arith}
use mir.Val.{Fits}
use mir.Syntax.{w8}
use lib.ListN.{length, get_or}
use Rattle.symbol.specs.Elem.{gf256}
use Rattle.batch_kernel.specs.Ready.{weight_at, Column, Ready}
use Rattle.batch_kernel.specs.Inner.{Laid, Summing, Prepared, Weighs}
use Rattle.batch_kernel.proofs.Picks.{weight_prepared, column_prepared}

pub summing : (rows w : ℕ) (src at picks : List ℕ) (wide first : ℕ) (acc tab : List ℕ) → Laid rows w src at wide first acc → Ready picks wide (length at / 8) → length tab ≡ 4096 →
    Summing rows w src at picks wide first acc tab
summing rows w src at picks wide first acc tab l y e = record {
  narrow = l.narrow;
  room = l.room;
  sums = omega arith;
  places = l.places;
  few = l.few;
  picks_long = y.picks_long;
  columns = λ q o hq ho. subst (λ (i : ℕ). Column picks i wide) (sym (add_assoc (q * 16 * wide) first o)) (y.columns q (first + o) hq (let a = l.few in omega arith));
}

pub fours : (n wide a : ℕ) → n * (16 * wide) ≤ a → n * 2 * (8 * wide) ≤ a
fours n wide a h =
    let e : n * 2 * (8 * wide) ≡ n * (2 * (8 * wide)) = mul_assoc n 2 (8 * wide) in
    let d : 2 * (8 * wide) ≡ 16 * wide = omega arith in
    let b : n * (2 * (8 * wide)) ≡ n * (16 * wide) = ap (λ (y : ℕ). n * y) d in
    omega arith

module _ (g : List ℕ) (wide n : ℕ) (was is : List ℕ) (s : Prepared g wide (n * 2) was is) where
  pub ready : n * (16 * wide) ≤ length was → Ready is wide n
  ready h = record {
    picks_long = rw s.long h;
    columns = λ q o hq ho. subst (λ (i : ℕ). Column is i wide) (add-zero (q * 16 * wide + o))
        (column_prepared g wide (n * 2) was is s (fours n wide (length was) h) q o 0 (omega arith) (omega arith));
  }

  pub weighs : ((i : ℕ) → Fits w8 (get_or g i 0)) → Weighs gf256 (weight_at gf256 is wide) g wide n
  weighs bytes = record { at = λ t o h ho. weight_prepared g wide (n * 2) was is s bytes t o (omega arith) ho }
