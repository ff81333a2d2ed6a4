-- The front of a buffer, again and again.
-- Assumes nothing.
use mathlib.Core.Path.{◌≡◌, refl, sym, ap, ◌∙◌, subst}
use mathlib.Core.List.{List}
use Prim.Native.Nat.{ℕ, ◌+◌, ◌-◌, ◌*◌, ◌%◌, ◌<◌, ◌≤◌, min}
use native.Mathlib.Nat.{zero-add, one-mul, add-mul, mod-eq_of_lt, mul_comm, mul-le-mul_right, add-mul-mod_self_left}
use native.Mathlib.Omega.{arith}
use lib.ListN.{length, get_or}
use Rattle.kernel.specs.Inner.{Run, copied, repeated}
use Rattle.kernel.proofs.Runs.{run_append}

pub repeated_one : (period : ℕ) (was : List ℕ) → Run (repeated was period) was was 0 (1 * period)
unfolding repeated
repeated_one period was =
    rw (one-mul period) (record { long = refl; done = λ j h. ap (λ k. get_or was k 0) (zero-add j ∙ sym (mod-eq_of_lt h)); low = λ i h. refl; high = λ i h. refl })

pub repeated_more : (period c m count : ℕ) (was is new : List ℕ) → m ≡ min c (count - c) → Run (repeated was period) was is 0 (c * period) → Run (copied is 0) is new (c * period) (m * period) →
    Run (repeated was period) was new 0 ((c + m) * period)
unfolding repeated copied
repeated_more period c m count was is new h r n =
    rw (add-mul c m period)
    (run_append (repeated was period) (copied is 0) was is new 0 (c * period) (m * period) r (subst (λ k. Run (copied is 0) is new k (m * period)) (sym (zero-add (c * period))) n)
    (λ i l. r.done i (let low : m ≤ c = omega arith in let e = mul-le-mul_right period low in omega arith) ∙ ap (λ k. get_or was k 0) (sym (turn i))))
  where
    turn : (i : ℕ) → (c * period + i) % period ≡ i % period
    turn i = ap (λ k. k % period) swap ∙ add-mul-mod_self_left i period c
      where
        swap : c * period + i ≡ i + period * c
        swap = let e = mul_comm c period in omega arith

pub repeat_room : {X : Type 0} (period c m count : ℕ) (was is : List X) → count * period ≤ length was → length is ≡ length was → m ≡ min c (count - c) → c < count → c * period + m * period ≤ length is
repeat_room period c m count was is h e l k =
    let q : c + m ≤ count = omega arith in
    let r : (c + m) * period ≤ count * period = mul-le-mul_right period q in
    let t = add-mul c m period in
    omega arith

pub repeat_before : (period c m count : ℕ) → m ≡ min c (count - c) → 0 + m * period ≤ c * period
repeat_before period c m count h = let low : m ≤ c = omega arith in let e = mul-le-mul_right period low in omega arith
