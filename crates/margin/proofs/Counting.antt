-- Counting the trays by their states.
-- Assumes nothing.
use mathlib.Core.Path.{◌≡◌, refl, ap, ap₂, sym, ◌∙◌}
use mathlib.Core.Bool.{Bool, true, false, cond}
use mathlib.Core.List.{List}
use Prim.Native.Nat.{ℕ, zero, suc, ◌+◌, ◌≤◌, ◌<◌}
use native.Mathlib.Numerals.{add-one}
use native.Mathlib.Omega.{arith}
use lib.Dec.{eqb}
use lib.ListN.{length, get_or}
use mir.Syntax.{w32}
use mir.Val.{Fits, bool_byte}
use Rattle.layout.specs.Layout.{tray_limit}
use Rattle.margin.specs.Margin.{live}

one_high : (t : Bool) → cond t 1 0 ≤ 1
one_high true = omega arith
one_high false = omega arith

-- at most one a tray
pub live_high : (states : List ℕ) (n : ℕ) → live states n ≤ n
unfolding live
live_high states zero = omega arith
live_high states (suc n) = omega (arith, live_high states n, one_high (eqb (get_or states n 0) 1))

-- the loop that counts: an answer of true adds 1
pub live_none : (states : List ℕ) → 0 ≡ live states 0
unfolding live
live_none states = refl

byte_is : (t : Bool) → bool_byte t ≡ cond t 1 0
byte_is true = refl
byte_is false = refl

module _ (states : List ℕ) (n count : ℕ) (e : count ≡ live states n) where
  pub live_more : (t : Bool) → t ≡ eqb (get_or states n 0) 1 → count + bool_byte t ≡ live states (n + 1)
  unfolding live
  live_more t f = ap₂ ◌+◌ e (byte_is t ∙ ap (λ (b : Bool). cond b 1 0) f) ∙ ap (live states) (sym (add-one n))

  pub live_fits : (t : Bool) → t ≡ eqb (get_or states n 0) 1 → n < length states → length states ≤ tray_limit → Fits w32 (count + bool_byte t)
  live_fits t f h k = record { fits = omega (arith, live_more t f, live_high states (n + 1)) }

  pub live_all : length states ≤ n → n ≤ length states → count ≡ live states (length states)
  live_all h k = let q : n ≡ length states = omega arith in e ∙ ap (live states) q

  pub live_few : n ≤ length states → length states ≤ tray_limit → count ≤ tray_limit
  live_few h k = omega (arith, live_high states n)

-- where all count, or none
pub live_same : (t : Bool) (states : List ℕ) (n : ℕ) → ((i : ℕ) → i < n → eqb (get_or states i 0) 1 ≡ t) → live states n ≡ cond t n 0
unfolding live
live_same true states zero h = refl
live_same false states zero h = refl
live_same t states (suc n) h =
    ap₂ ◌+◌ (live_same t states n (λ i k. h i (omega arith))) (ap (λ (b : Bool). cond b 1 0) (h n (omega arith))) ∙ more t
  where
    more : (t : Bool) → cond t n 0 + cond t 1 0 ≡ cond t (suc n) 0
    more true = omega arith
    more false = omega arith
