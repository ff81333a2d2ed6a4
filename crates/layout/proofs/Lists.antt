-- A list of tray or rack numbers that passed its tests, in the algebra's terms.
-- Assumes nothing.
use mathlib.Core.Path.{◌≡◌, subst}
use mathlib.Core.Bool.{true}
use mathlib.Core.List.{List}
use Prim.Native.Nat.{ℕ, ◌<◌}
use native.Mathlib.Numerals.{add-one}
use native.Mathlib.Omega.{arith}
use lib.ListN.{length, get_or}
use Rattle.lists.specs.Lists.{all_below, strictly_rising}
use Rattle.lists.proofs.Numbered.{RisingTo, below_all, rising_all}
use Rattle.algebra.specs.Erasure.{Places}
use Rattle.algebra.specs.Cabinet.{Rising}
use Rattle.algebra.proofs.Numbers.{rising_from}
use Rattle.algebra.proofs.Repair.{rising_places}

module _ (xs : List ℕ) (n : ℕ) where
  pub list_rising : ((k : ℕ) → k < length xs → get_or xs k 0 < n) → RisingTo xs (length xs) → Rising (λ k. get_or xs k 0) (length xs) n
  list_rising b r = rising_from (λ k. get_or xs k 0) (length xs) n (λ k h. subst (λ i. get_or xs k 0 < get_or xs i 0) (add-one k) (r k (omega (arith, add-one k)))) b

  pub list_places : all_below xs n ≡ true → strictly_rising xs ≡ true → Places (λ k. get_or xs k 0) (length xs) n
  list_places b r = rising_places (λ k. get_or xs k 0) (length xs) n (list_rising (below_all xs n b) (rising_all xs r))
