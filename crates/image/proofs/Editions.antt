-- What the editions have, the test of their symbols, and the length of their images.
-- Assumes nothing.
use mathlib.Core.Path.{◌≡◌, ap, ◌∙◌}
use mathlib.Core.Bool.{Bool}
use mathlib.Core.List.{List}
use Prim.Native.Nat.{ℕ, ◌*◌, ◌^◌, ◌<◌, ◌≤◌}
use native.Mathlib.Nat.{zero-add, mul-le-mul}
use native.Mathlib.Omega.{arith}
use lib.Dec.{ltb, lit<, lit≤}
use lib.ListN.{length, get_or}
use Rattle.lists.specs.Lists.{all_below}
use Rattle.lists.proofs.Bools.{all_same}
use Rattle.algebra.specs.Shape.{Field}
use Rattle.range.specs.Range.{symbols_from}
use Rattle.layout.specs.declared.Layout.{Layout}
use Rattle.layout.specs.Layout.{layers, layer_limit, Cabinet}
use Rattle.image.specs.declared.Edition.{Edition}
use Rattle.image.specs.Image.{edition1, edition2}
use Rattle.image.specs.Inner.{Proper}

pub proper1 : Proper edition1
proper1 = record { number_in = lit< tt; size_in = lit≤ tt }

pub proper2 : Proper edition2
proper2 = record { number_in = lit< tt; size_in = lit≤ tt }

-- the test of all numbers
pub all_tested : {A : Type 0} (f : Field A) (xs : List ℕ) (b : Bool) → b ≡ symbols_from f xs 0 (length xs) → b ≡ all_below xs f.coding.size
unfolding symbols_from all_below
all_tested f xs b e = e ∙ all_same _ _ (length xs) (λ k h. ap (λ i. ltb (get_or xs i 0) f.coding.size) (zero-add k))

-- the bytes of the symbols are few enough to be counted
module _ (ed : Edition) (l : Layout) (a : Cabinet l) (w : ed.width < 2 ^ 32) (total : ℕ) (e : total ≡ layers l) where
  bytes_high : ed.width * total ≤ 2 ^ 32 * layer_limit
  bytes_high =
      let m : ed.width ≤ 2 ^ 32 = omega arith in
      let n : total ≤ layer_limit = omega (arith, a.layers_high) in
      mul-le-mul m n
