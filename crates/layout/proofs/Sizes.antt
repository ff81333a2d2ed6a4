-- The rack sizes that document 01 lists for the field of 256 and document 02 (W10) for the field modulo 257 are the divisors of 255 and 256 that two racks or more of at most
-- 60 trays leave room for.
-- Assumes nothing.
use mathlib.Core.Path.{◌≡◌, refl, sym}
use mathlib.Core.Bool.{Bool, true, false, ◌||◌}
use Prim.Native.Nat.{ℕ, ◌<◌, ◌≤◌}
use native.Mathlib.Nat.{mul-le-mul_right}
use native.Mathlib.Omega.{arith}
use lib.Dec.{eqb}
use Rattle.lists.specs.Lists.{all}
use Rattle.lists.proofs.Bools.{all_holds}
use Rattle.layout.specs.declared.Layout.{Layout}
use Rattle.layout.specs.Layout.{trays, size_allowed, tray_limit}

-- two tests that answer the same
same : Bool → Bool → Bool
same true b = b
same false true = false
same false false = true

same_so : (a b : Bool) → same a b ≡ true → a ≡ b
unfolding same
same_so true true e = refl
same_so true false e = sym e
same_so false true e = e
same_so false false e = refl

-- document 01's sizes, and W10's
unfoldable pub listed_255 : ℕ → Bool
listed_255 u = eqb u 1 || eqb u 3 || eqb u 5 || eqb u 15 || eqb u 17

unfoldable pub listed_256 : ℕ → Bool
listed_256 u = eqb u 1 || eqb u 2 || eqb u 4 || eqb u 8 || eqb u 16

tested_255 : all (λ u. same (size_allowed 255 u) (listed_255 u)) 31 ≡ true
unfolding all same size_allowed listed_255
tested_255 = refl

tested_256 : all (λ u. same (size_allowed 256 u) (listed_256 u)) 31 ≡ true
unfolding all same size_allowed listed_256
tested_256 = refl

module _ (l : Layout) (racks : 2 ≤ l.racks) (few : trays l ≤ tray_limit) where
  size_few : l.size < 31
  size_few = let e = mul-le-mul_right l.size racks in omega arith

  pub sizes_255 : size_allowed 255 l.size ≡ listed_255 l.size
  sizes_255 = same_so _ _ (all_holds (λ u. same (size_allowed 255 u) (listed_255 u)) 31 tested_255 l.size size_few)

  pub sizes_256 : size_allowed 256 l.size ≡ listed_256 l.size
  sizes_256 = same_so _ _ (all_holds (λ u. same (size_allowed 256 u) (listed_256 u)) 31 tested_256 l.size size_few)
