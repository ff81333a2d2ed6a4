-- The grounds for refusing to store many codewords.
-- Assumes nothing.
use mathlib.Core.Path.{◌≡◌, sym, subst}
use mathlib.Core.Bool.{◌&&◌}
use mathlib.Core.List.{List}
use Prim.Native.Nat.{ℕ, ◌*◌, ◌<◌, ◌≤◌}
use native.Mathlib.Nat.{zero-add, mul-le-mul_right, one-le-mul}
use native.Mathlib.Omega.{arith}
use borrow.Author.Tests.{eqb-true}
use mir.Val.{Fits}
use mir.Syntax.{w64}
use lib.Dec.{eqb}
use lib.ListN.{length, get_or}
use Rattle.lists.proofs.Numbers.{mul_below}
use Rattle.lists.proofs.Bools.{both, passed}
use Rattle.algebra.specs.Coding.{InRange}
use Rattle.algebra.specs.Shape.{Field}
use Rattle.algebra.specs.Plain.{Working}
use Rattle.layout.specs.declared.Layout.{Layout}
use Rattle.layout.specs.Layout.{trays, layers, tray_limit, layer_limit, admissible, Admissible, Cabinet}
use Rattle.layout.proofs.Facts.{admissible_facts, dimension_in}
use Rattle.blocks.proofs.Digits.{run_pos}
use Rattle.range.specs.Range.{symbols_from}
use Rattle.range.proofs.Symbols.{symbols_all}
use Rattle.batch_store.specs.Store.{batch_store_refusal}

-- the products of the lengths' numbers fit, and are not 0
module _ (l : Layout) (a : Cabinet l) (total : ℕ) (et : total ≡ layers l) where
  low : 0 < layers l
  low = run_pos l a l.racks

  pub data_fits : Fits w64 (l.dimension * total)
  data_fits = let d = dimension_in l a in let h = a.layers_high in let t = a.trays_high in record { fits = mul_below tray_limit layer_limit (omega arith) (omega arith) tt }

  pub data_some : 0 < l.dimension * total
  data_some = let e : 1 ≤ l.dimension * total = one-le-mul (let d = a.dimension_low in let s = a.size_low in omega arith) (subst (λ (y : ℕ). 1 ≤ y) (sym et) low) in omega arith

  module _ (count : ℕ) (ec : count ≡ trays l) where
    pub room_fits : Fits w64 (count * total)
    room_fits = let h = a.layers_high in let t = a.trays_high in record { fits = mul_below tray_limit layer_limit (omega arith) (omega arith) tt }

    pub room_some : 0 < count * total
    room_some = let e : 1 ≤ count * total = one-le-mul (let d = a.dimension_low in let s = a.size_low in let x = dimension_in l a in omega arith) (subst (λ (y : ℕ). 1 ≤ y) (sym et) low) in omega arith

-- what holds where there is no ground
pub record Storable {A : Type 0} (f : Field A) (l : Layout) (m : ℕ) (given : List ℕ) (room : ℕ) : Type 0 where
  pub adm : Admissible f.order l
  pub given_long : length given ≡ l.dimension * layers l * m
  pub room_long : room ≡ trays l * layers l * m
  pub fits : length given ≤ room
  pub symbols : InRange f.coding given

pub storable : {A : Type 0} {f : Field A} (W : Working f) (l : Layout) (m : ℕ) (given : List ℕ) (room : ℕ) → batch_store_refusal f l m given room ≡ 0 → Storable f l m given room
unfolding batch_store_refusal
storable {f = f} W l m given room h =
    let p1 = passed (admissible f.order l) 1 _ (omega arith) h in
    let p2 = passed (eqb (length given) (l.dimension * layers l * m) && eqb room (trays l * layers l * m)) 2 _ (omega arith) p1.1 in
    let p3 = passed (symbols_from f given 0 (length given)) 3 _ (omega arith) p2.1 in
    let q = both (eqb (length given) (l.dimension * layers l * m)) (eqb room (trays l * layers l * m)) p2.0 in
    let a = admissible_facts f.order l p1.0 in
    let e : length given ≡ l.dimension * layers l * m = eqb-true _ _ q.0 in
    let g : room ≡ trays l * layers l * m = eqb-true _ _ q.1 in
    record {
      adm = a;
      given_long = e;
      room_long = g;
      fits = omega (arith, e, g, mul-le-mul_right m (mul-le-mul_right (layers l) (dimension_in l a.cabinet)));
      symbols = record { at = λ i k. subst (λ n. get_or given n 0 < f.coding.size) (zero-add i) (symbols_all f given 0 (length given) p3.0 i k) };
    }
