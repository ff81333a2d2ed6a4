-- Room to solve whole racks in.
-- Assumes nothing.
use mathlib.Core.Path.{◌≡◌, sym, ap, ◌∙◌}
use mathlib.Core.List.{List}
use Prim.Native.Nat.{ℕ, ◌+◌, ◌*◌, ◌^◌, ◌<◌, ◌≤◌}
use native.Mathlib.Nat.{mul_assoc, mul-le-mul, mul-le-mul_right, le-mul_of_pos_right, le_trans}
use native.Mathlib.Omega.{arith}
use lib.ListN.{length}
use Rattle.kernel.proofs.Rows.{row_before}
use Rattle.layout.specs.declared.Layout.{Layout}
use Rattle.layout.specs.Layout.{checks, digits}
use Rattle.layout.proofs.Facts.{bounds}
use Rattle.blocks.specs.Inner.{room_limit, Block, Steady}
use Rattle.blocks.proofs.Cycles.{run_low, columns_low, turns_low, width_is, columns_in}
use Rattle.blocks.proofs.Digits.{run_pos}
use Rattle.syndrome.specs.Inner.{Listed}
use Rattle.solving.specs.Inner.{Workspace}
use Rattle.rack_solving.specs.Inner.{WholeRacks, Wide}

-- what the buffers have room for
pub record Rooms (l : Layout) (w : ℕ) (es : List ℕ) (n : ℕ) (sums found points coefs : List ℕ) : Type 0 where
  pub some_layers : 0 < w
  pub rows_in : (was ys : List ℕ) → room_limit ≤ length was → length ys ≡ length was → length es * w ≤ length ys
  pub symbols_in : (xs : List ℕ) → length xs ≡ length found → n * l.size * w ≤ length xs
  pub sums_in : (was ys : List ℕ) → room_limit ≤ length was → length ys ≡ length was → n * l.size * w ≤ length ys
  pub wide_of : (e run v turns : ℕ) (ys new wide : List ℕ) → w ≡ digits l ^ e → Steady l es e run v turns → room_limit ≤ length ys → room_limit ≤ length wide → length new ≡ length points →
      Wide l.size w n v run turns ys sums new coefs wide

pub row_left : (w : ℕ) (was is : List ℕ) → w ≤ length was → length is ≡ length was → w ≤ length is
row_left w was is h e = omega arith

module _ (l : Layout) (w first : ℕ) (es : List ℕ) (n : ℕ) (sums found points coefs row : List ℕ) (b : Block l w first) (k : Listed l es) (r : WholeRacks l.size n es)
    (g : Workspace l w sums found points coefs row) where
  rows_few : length es * w ≤ checks l * w
  rows_few = mul-le-mul_right w k.few

  rows_are : n * (l.size * w) ≡ length es * w
  rows_are = sym (mul_assoc n l.size w) ∙ ap (λ y. y * w) (sym r.long)

  racks_few : n ≤ checks l
  racks_few = let q : n ≤ n * l.size = le-mul_of_pos_right n (bounds l b.adm).size_low in let e = r.long in let t = k.few in omega arith

  rows_in : (was ys : List ℕ) → room_limit ≤ length was → length ys ≡ length was → length es * w ≤ length ys
  rows_in was ys m e = let q = rows_few in let t = g.few in omega arith

  symbols_in : (xs : List ℕ) → length xs ≡ length found → n * l.size * w ≤ length xs
  symbols_in xs e = let q = rows_few in let t = g.found_long in let d : n * l.size * w ≡ length es * w = ap (λ y. y * w) (sym r.long) in omega arith

  sums_in : (was ys : List ℕ) → room_limit ≤ length was → length ys ≡ length was → n * l.size * w ≤ length ys
  sums_in was ys m e = let q = rows_few in let t = g.few in let d : n * l.size * w ≡ length es * w = ap (λ y. y * w) (sym r.long) in omega arith

  some_layers : 0 < w
  some_layers = rw b.width (run_pos l b.adm b.power)

  wide_of : (e run v turns : ℕ) (ys new wide : List ℕ) → w ≡ digits l ^ e → Steady l es e run v turns → room_limit ≤ length ys → room_limit ≤ length wide → length new ≡ length points →
      Wide l.size w n v run turns ys sums new coefs wide
  wide_of e run v turns ys new wide ew s ey ex en = record {
    some = (bounds l b.adm).size_low;
    run_low = run_low l es e w run v turns b.adm ew s;
    columns_low = columns_low l es e w run v turns b.adm ew s;
    turns_low = turns_low l es e w run v turns b.adm ew s;
    width = width_is l es e w run v turns b.adm ew s;
    few = le_trans columns g.few;
    ys_long = let q = rows_are in let t = rows_few in let h = g.few in omega arith;
    sums_long = let q = rows_are in let t = rows_few in let h = g.sums_long in omega arith;
    points_long = rw en (le_trans columns g.points_long);
    coefs_long = le_trans columns g.coefs_long;
    wide_long = let q = rows_are in let t = rows_few in let h = g.few in let o : 0 * (l.size * w) + l.size * w ≤ n * (l.size * w) = row_before 0 n (l.size * w) r.some in omega arith;
  }
    where
      columns : n * v ≤ checks l * w
      columns = mul-le-mul racks_few (columns_in l es e w run v turns b.adm ew s)

  pub rooms_of : Rooms l w es n sums found points coefs
  rooms_of = record { some_layers = some_layers; rows_in = rows_in; symbols_in = symbols_in; sums_in = sums_in; wide_of = wide_of }
