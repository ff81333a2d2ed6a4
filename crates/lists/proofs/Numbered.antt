-- The tests of a list of numbers, as facts about each of them.
-- Assumes nothing.
use mathlib.Core.Path.{◌≡◌, sym, ap}
use mathlib.Core.Bool.{Bool, true, false, not, false≢true}
use mathlib.Core.List.{List}
use Prim.Native.Nat.{ℕ, ◌+◌, ◌-◌, ◌<◌, ◌≤◌}
use native.Mathlib.Omega.{arith}
use borrow.Author.Tests.{eq-eqb, ne_eqb, lt-ltb, ltb-true}
use lib.Dec.{eqb, ltb}
use lib.ListN.{length, get_or}
use Rattle.std.specs.Bool.{Decides}
use Rattle.std.proofs.lemmas.Bool.Decides.{same_from_decides}
use Rattle.lists.specs.Lists.{all_below, strictly_rising, absent}
use Rattle.lists.proofs.Bools.{all_holds, all_true, all_false}

module _ (xs : List ℕ) (n : ℕ) where
  pub below_false : (k : ℕ) → k < length xs → n ≤ get_or xs k 0 → false ≡ all_below xs n
  unfolding all_below
  below_false k h g = all_false (λ k. ltb (get_or xs k 0) n) (length xs) k h (λ t. let q = ltb-true (get_or xs k 0) n t in omega arith)

  pub below_true : ((k : ℕ) → k < length xs → get_or xs k 0 < n) → true ≡ all_below xs n
  unfolding all_below
  below_true f = sym (all_true (λ k. ltb (get_or xs k 0) n) (length xs) (λ k h. lt-ltb _ _ (f k h)))

  pub below_all : all_below xs n ≡ true → (k : ℕ) → k < length xs → get_or xs k 0 < n
  unfolding all_below
  below_all t k h = ltb-true _ _ (all_holds (λ k. ltb (get_or xs k 0) n) (length xs) t k h)

  -- an answer that is true exactly when each number is below n
  pub below_told : {r : Bool} → Decides r ((k : ℕ) → k < length xs → get_or xs k 0 < n) → r ≡ all_below xs n
  below_told {r} d = same_from_decides r (all_below xs n) d (below_all, λ f. sym (below_true f))

  not_not : (a : Bool) → not a ≡ true → a ≡ true → ⊥
  not_not true h e = false≢true h
  not_not false h e = false≢true e

  pub absent_false : (k : ℕ) → k < length xs → get_or xs k 0 ≡ n → false ≡ absent xs n
  unfolding absent
  absent_false k h e = all_false _ _ k h (λ t. not_not (eqb (get_or xs k 0) n) t (eq-eqb _ _ e))

  pub absent_true : ((k : ℕ) → k < length xs → get_or xs k 0 ≡ n → ⊥) → true ≡ absent xs n
  unfolding absent
  absent_true f = sym (all_true _ _ (λ k h. ap not (ne_eqb _ _ (f k h))))

  pub absent_all : absent xs n ≡ true → (k : ℕ) → k < length xs → get_or xs k 0 ≡ n → ⊥
  unfolding absent
  absent_all t k h e = not_not (eqb (get_or xs k 0) n) (all_holds (λ k. not (eqb (get_or xs k 0) n)) (length xs) t k h) (eq-eqb _ _ e)

module _ (xs : List ℕ) where
  -- rising as far as k
  abbrev pub RisingTo : ℕ → Type 0
  RisingTo k = (i : ℕ) → i + 1 < k → get_or xs i 0 < get_or xs (i + 1) 0

  pub rising_true : (k : ℕ) → length xs ≤ k → RisingTo k → true ≡ strictly_rising xs
  unfolding strictly_rising
  rising_true k h f = sym (all_true (λ k. ltb (get_or xs k 0) (get_or xs (k + 1) 0)) (length xs - 1) (λ i l. lt-ltb _ _ (f i (omega arith))))

  pub rising_all : strictly_rising xs ≡ true → RisingTo (length xs)
  unfolding strictly_rising
  rising_all t i h = ltb-true _ _ (all_holds (λ k. ltb (get_or xs k 0) (get_or xs (k + 1) 0)) (length xs - 1) t i (omega arith))

  -- an answer that is true exactly when each number is below the next
  pub rising_told : {r : Bool} → Decides r ((i : ℕ) → i + 1 < length xs → get_or xs i 0 < get_or xs (i + 1) 0) → r ≡ strictly_rising xs
  rising_told {r} d = same_from_decides r (strictly_rising xs) d (rising_all, λ f. sym (rising_true (length xs) (omega arith) f))
