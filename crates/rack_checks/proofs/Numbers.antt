-- Trays that are listed or kept, and the numbers of the loops.
-- Assumes nothing.
use mathlib.Core.Path.{◌≡◌, refl, sym, subst}
use mathlib.Core.Bool.{Bool, true, false, false≢true}
use mathlib.Core.List.{List}
use Prim.Native.Nat.{ℕ, ◌+◌, ◌*◌, ◌/◌, ◌%◌, ◌<◌, ◌≤◌, min}
use native.Mathlib.Nat.{add-mul, mul-le-mul_right}
use native.Mathlib.Decide.{ℕ_discrete, dec_le}
use native.Mathlib.Omega.{arith}
use Rattle.std.specs.Bool.{MatchBool}
use Rattle.std.specs.List.{AllWithin, range_with_len}
use Rattle.std.proofs.lemmas.List.FromFn.{get_or-range_with_len, length-range_with_len}
use Rattle.std.proofs.lemmas.Grind.{div_ceil_times}
use lib.ListN.{length}
use Rattle.lists.specs.Lists.{absent}
use Rattle.kernel.proofs.Rows.{row_before, row_end}
use Rattle.layout.specs.declared.Layout.{Layout}
use Rattle.layout.specs.Layout.{Cabinet, trays, digits}
use Rattle.layout.proofs.Facts.{bounds}
use Rattle.layout.proofs.Numbers.{digits_small}
use Rattle.blocks.specs.Inner.{Block}
use Rattle.syndrome.proofs.Sums.{tray_in}
use Rattle.rack_checks.specs.Inner.{ListedFrom, Kept, Small, Readable}

-- ---- trays that are all listed

-- the racks below them
module _ (l : Layout) (n top q : ℕ) (a : Cabinet l) (e : n ≡ trays l) (h : top ≤ n) (r : q ≡ top / l.size + min 1 (top % l.size)) where
  around : (top ≤ q * l.size) × (q * l.size < top + l.size)
  around = subst (λ v. (top ≤ v * l.size) × (v * l.size < top + l.size)) (sym r) (div_ceil_times top l.size (bounds l a).size_low)

  pub racks_below : q ≤ l.racks
  racks_below = low (dec_le (l.racks + 1) q)
    where
      low : Dec (l.racks + 1 ≤ q) → q ≤ l.racks
      low (yes y) = absurd (let k : (l.racks + 1) * l.size ≤ q * l.size = mul-le-mul_right l.size y in let d = row_end l.racks l.size in let b = around.1 in omega arith)
      low (no d) = omega arith

  pub racks_listed : (es : List ℕ) → ListedFrom es top n → ListedFrom es (q * l.size) (trays l)
  racks_listed es f = record { at = λ y p k. f.at y (let b = around.0 in omega arith) (subst (λ v. y < v) (sym e) k) }

-- ---- trays of which none is listed
pub kept_all : (es : List ℕ) (x n : ℕ) (res : Bool) (Other : Type 0) →
    MatchBool res (AllWithin (λ y. absent es y ≡ true) (range_with_len x n) 0 (length (range_with_len x n))) Other → res ≡ true → Kept es x n
kept_all es x n true Other h e = record {
  at = λ g k. subst (λ y. absent es y ≡ true) (get_or-range_with_len x n g 0 k) (h g 0 (omega arith) (rw (length-range_with_len x n) k));
}
kept_all es x n false Other h e = absurd (false≢true e)

-- ---- the trays of a rack
pub place_in : (l : Layout) (i g : ℕ) → i < l.racks → g < l.size → i * l.size + g < trays l
place_in l i g h k = let e = row_before i l.racks l.size h in omega arith

module _ (l : Layout) (w first : ℕ) (b : Block l w first) where
  module _ (total : ℕ) (c : List ℕ) (r : Readable l total c) (i : ℕ) (h : i < l.racks) where
    pub tray_there : (g : ℕ) → g < l.size → (i * l.size + g) * total + first + w ≤ length c
    tray_there g k = tray_in l w first (i * l.size + g) total c b r.long (place_in l i g h k) r.total_is

    -- all of a rack lies in the buffer
    pub three_in : l.size ≡ 3 → i * l.size * total + first + total + total + w ≤ length c
    three_in e =
        let q = tray_there 2 (omega arith) in
        let d : (i * l.size + 2) * total ≡ i * l.size * total + 2 * total = add-mul (i * l.size) 2 total in
        omega arith

    pub five_in : l.size ≡ 5 → i * l.size * total + first + total + total + total + total + w ≤ length c
    five_in e =
        let q = tray_there 4 (omega arith) in
        let d : (i * l.size + 4) * total ≡ i * l.size * total + 4 * total = add-mul (i * l.size) 4 total in
        omega arith

-- ---- rows of the sums
pub base_small : (l : Layout) (w first s : ℕ) → Block l w first → s ≡ digits l → s ≤ 8
base_small l w first s b e = let q = digits_small l b.adm in omega arith

-- ---- the checks of a weight
pub next_check : (p u m t : ℕ) → t ≡ p * u + m → t + u ≡ (p + 1) * u + m
next_check p u m t e = let q : (p + 1) * u ≡ p * u + u = omega arith in omega arith

-- ---- the choice
pub divides_small : (u : ℕ) → Small u → u * (255 / u) ≡ 255
divides_small u s = go (ℕ_discrete u 3)
  where
    go : Dec (u ≡ 3) → u * (255 / u) ≡ 255
    go (yes e) = rw e refl
    go (no d) = rw (s.other d) refl
