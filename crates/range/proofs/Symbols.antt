-- The test of a run, and of a run in each row, as facts about each of their numbers.
-- Assumes nothing.
use mathlib.Core.Path.{◌≡◌, sym, ◌∙◌, subst}
use mathlib.Core.Bool.{Bool, true, false, not, false≢true}
use mathlib.Core.List.{List}
use Prim.Native.Nat.{ℕ, ◌+◌, ◌-◌, ◌*◌, ◌/◌, ◌%◌, ◌<◌, ◌≤◌}
use borrow.Author.Tests.{lt-ltb, le-ltb, ltb-true}
use native.Mathlib.Decide.{dec_lt, ℕ_discrete}
use native.Mathlib.Omega.{arith}
use lib.Dec.{ltb}
use lib.ListN.{length, get_or}
use Rattle.lists.proofs.Bools.{not_true_false, all_holds, all_true, all_false, told_false}
use Rattle.algebra.specs.Coding.{InRange}
use Rattle.algebra.specs.Shape.{Field}
use Rattle.kernel.proofs.Rows.{row_before}
use Rattle.range.specs.Range.{symbols_from, symbol_rows}
use Rattle.range.specs.Inner.{Highest, HighestApart}

module _ {A : Type 0} (f : Field A) (xs : List ℕ) (from len : ℕ) where
  pub symbols_true : ((k : ℕ) → k < len → get_or xs (from + k) 0 < f.coding.size) → true ≡ symbols_from f xs from len
  unfolding symbols_from
  symbols_true g = sym (all_true (λ k. ltb (get_or xs (from + k) 0) f.coding.size) len (λ k h. lt-ltb _ _ (g k h)))

  pub symbols_all : symbols_from f xs from len ≡ true → (k : ℕ) → k < len → get_or xs (from + k) 0 < f.coding.size
  unfolding symbols_from
  symbols_all t k h = ltb-true _ _ (all_holds (λ k. ltb (get_or xs (from + k) 0) f.coding.size) len t k h)

-- the highest number of a run, number after number; r is the higher of the highest so far and the next
module _ (xs : List ℕ) (from : ℕ) where
  pub highest_none : Highest xs from 0 0
  highest_none = record { above = λ j h. absurd (omega arith); least = λ n p g. p }

  pub highest_more : (k top x r : ℕ) → Highest xs from k top → x ≡ get_or xs (from + k) 0 → top ≤ r → x ≤ r → ((n : ℕ) → top < n → x < n → r < n) → Highest xs from (k + 1) r
  highest_more k top x r t e a b g = record {
    above = λ j h. go j h (ℕ_discrete j k);
    least = λ n p l. g n (t.least n p (λ j h. l j (omega arith))) (rw e (l k (omega arith)));
  }
    where
      go : (j : ℕ) → j < k + 1 → Dec (j ≡ k) → get_or xs (from + j) 0 ≤ r
      go j h (yes d) = rw d (omega arith)
      go j h (no d) = let i = t.above j (omega arith) in omega arith

  -- in four parts at once
  module _ (gap : ℕ) where
    -- the first k numbers of each part are at most top, and top is below whatever is above all
    pub record Four (k top : ℕ) : Type 0 where
      pub first : (i : ℕ) → i < k → get_or xs (from + i) 0 ≤ top
      pub second : (i : ℕ) → i < k → get_or xs (from + i + gap) 0 ≤ top
      pub third : (i : ℕ) → i < k → get_or xs (from + i + 2 * gap) 0 ≤ top
      pub fourth : (i : ℕ) → i < k → get_or xs (from + i + 3 * gap) 0 ≤ top
      pub least : (n : ℕ) → 0 < n → ((j : ℕ) → j < 4 * gap → get_or xs (from + j) 0 < n) → top < n

    pub four_none : Four 0 0
    four_none = record {
      first = λ i h. absurd (omega arith);
      second = λ i h. absurd (omega arith);
      third = λ i h. absurd (omega arith);
      fourth = λ i h. absurd (omega arith);
      least = λ n p g. p;
    }

    -- all below k + 1 where those below k and number k are
    grown : (F : ℕ → ℕ) (k top x r : ℕ) → ((i : ℕ) → i < k → F i ≤ top) → F k ≤ x → top ≤ r → x ≤ r → (i : ℕ) → i < k + 1 → F i ≤ r
    grown F k top x r old new a b i l = go (ℕ_discrete i k)
      where
        go : Dec (i ≡ k) → F i ≤ r
        go (yes d) = rw d (omega arith)
        go (no d) = let o = old i (omega arith) in omega arith

    pub four_more : (k top x r : ℕ) → Four k top → k < gap → HighestApart xs (from + k) gap x → top ≤ r → x ≤ r → ((n : ℕ) → top < n → x < n → r < n) → Four (k + 1) r
    four_more k top x r t h u p q g = record {
      first = grown (λ i. get_or xs (from + i) 0) k top x r t.first u.first p q;
      second = grown (λ i. get_or xs (from + i + gap) 0) k top x r t.second u.second p q;
      third = grown (λ i. get_or xs (from + i + 2 * gap) 0) k top x r t.third u.third p q;
      fourth = grown (λ i. get_or xs (from + i + 3 * gap) 0) k top x r t.fourth u.fourth p q;
      least = λ n z l. g n (t.least n z l) (u.least n (l k (omega arith)) (below n l gap (omega arith)) (below n l (2 * gap) (omega arith)) (below n l (3 * gap) (omega arith)));
    }
      where
        below : (n : ℕ) → ((j : ℕ) → j < 4 * gap → get_or xs (from + j) 0 < n) → (part : ℕ) → k + part < 4 * gap → get_or xs (from + k + part) 0 < n
        below n l part m = let e : from + (k + part) ≡ from + k + part = omega arith in subst (λ i. get_or xs i 0 < n) e (l (k + part) m)

    pub four_end : (k top : ℕ) → Four k top → gap ≤ k → Highest xs from (4 * gap) top
    four_end k top t h = record { above = λ j l. go j l (dec_lt j gap) (dec_lt j (2 * gap)) (dec_lt j (3 * gap)); least = t.least }
      where
        at : (j part : ℕ) → part ≤ j → from + (j - part) + part ≡ from + j
        at j part l = omega arith

        go : (j : ℕ) → j < 4 * gap → Dec (j < gap) → Dec (j < 2 * gap) → Dec (j < 3 * gap) → get_or xs (from + j) 0 ≤ top
        go j l (yes a) _ _ = t.first j (omega arith)
        go j l (no a) (yes b) _ = subst (λ i. get_or xs i 0 ≤ top) (at j gap (omega arith)) (t.second (j - gap) (omega arith))
        go j l (no a) (no b) (yes c) = subst (λ i. get_or xs i 0 ≤ top) (at j (2 * gap) (omega arith)) (t.third (j - 2 * gap) (omega arith))
        go j l (no a) (no b) (no c) = subst (λ i. get_or xs i 0 ≤ top) (at j (3 * gap) (omega arith)) (t.fourth (j - 3 * gap) (omega arith))

-- of four numbers
pub apart_of : (xs : List ℕ) (at gap a b c d low high r : ℕ) → a ≡ get_or xs at 0 → b ≡ get_or xs (at + gap) 0 → c ≡ get_or xs (at + 2 * gap) 0 → d ≡ get_or xs (at + 3 * gap) 0 →
    (a ≤ low) × (b ≤ low) × ((n : ℕ) → a < n → b < n → low < n) → (c ≤ high) × (d ≤ high) × ((n : ℕ) → c < n → d < n → high < n) →
    (low ≤ r) × (high ≤ r) × ((n : ℕ) → low < n → high < n → r < n) → HighestApart xs at gap r
apart_of xs at gap a b c d low high r ea eb ec ed l h t = record {
  first = rw (sym ea) (omega (arith, l.0, t.0));
  second = rw (sym eb) (omega (arith, l.1, t.0));
  third = rw (sym ec) (omega (arith, h.0, t.1));
  fourth = rw (sym ed) (omega (arith, h.1, t.1));
  least = λ n p q u v. t.2 n (l.2 n (rw ea p) (rw eb q)) (h.2 n (rw ec u) (rw ed v));
}

pub quarters : (n : ℕ) → 4 * (n / 4) + n % 4 ≡ n
quarters n = omega arith

-- a run is one of symbols where the highest of its first numbers and of the rest is one
pub symbols_highest : {A : Type 0} (f : Field A) (xs : List ℕ) (from a b len top rest r : ℕ) → 0 < f.coding.size → a + b ≡ len → Highest xs from a top → Highest xs (from + a) b rest →
    top ≤ r → rest ≤ r → ((n : ℕ) → top < n → rest < n → r < n) → ltb r f.coding.size ≡ symbols_from f xs from len
symbols_highest f xs from a b len top rest r pos e t u p q g = go (dec_lt r f.coding.size)
  where
    go : Dec (r < f.coding.size) → ltb r f.coding.size ≡ symbols_from f xs from len
    go (yes h) = lt-ltb _ _ h ∙ symbols_true f xs from len (λ k l. each k l (dec_lt k a))
      where
        each : (k : ℕ) → k < len → Dec (k < a) → get_or xs (from + k) 0 < f.coding.size
        each k l (yes m) = let o = t.above k m in omega arith
        each k l (no m) =
            let o = u.above (k - a) (omega arith) in
            let i : from + a + (k - a) ≡ from + k = omega arith in
            subst (λ n. get_or xs n 0 < f.coding.size) i (omega arith)
    go (no h) = le-ltb r f.coding.size (omega arith) ∙ (not_true_false _ (λ z. h (g f.coding.size
        (t.least f.coding.size pos (λ j l. symbols_all f xs from len z j (omega arith)))
        (u.least f.coding.size pos (λ j l. let i : from + (a + j) ≡ from + a + j = omega arith in subst (λ n. get_or xs n 0 < f.coding.size) i
        (symbols_all f xs from len z (a + j) (omega arith)))))))

-- ---- rows
pub row_in : {X : Type 0} (xs : List X) (rows width first count r : ℕ) → length xs ≡ rows * width → first + count ≤ width → r < rows → r * width + first + count ≤ length xs
row_in xs rows width first count r e w h = rw e (omega (arith, row_before r rows width h))

module _ {A : Type 0} (f : Field A) (xs : List ℕ) (rows width first count : ℕ) where
  pub rows_false : (r : ℕ) (b : Bool) → r < rows → b ≡ symbols_from f xs (r * width + first) count → not b ≡ true → false ≡ symbol_rows f xs rows width first count
  unfolding symbol_rows
  rows_false r b h e n = all_false _ rows r h (λ z. false≢true (sym (told_false e n) ∙ z))

  pub rows_true : (r : ℕ) → rows ≤ r → ((i : ℕ) → i < r → symbols_from f xs (i * width + first) count ≡ true) → true ≡ symbol_rows f xs rows width first count
  unfolding symbol_rows
  rows_true r h g = sym (all_true _ rows (λ i k. g i (omega arith)))

  pub rows_all : symbol_rows f xs rows width first count ≡ true → (r k : ℕ) → r < rows → k < count → get_or xs (r * width + first + k) 0 < f.coding.size
  unfolding symbol_rows
  rows_all t r k h = symbols_all f xs (r * width + first) count (all_holds (λ r. symbols_from f xs (r * width + first) count) rows t r h) k

  -- where all numbers are symbols, as bytes are in the field of 256
  pub rows_range : length xs ≡ rows * width → first + count ≤ width → InRange f.coding xs → true ≡ symbol_rows f xs rows width first count
  rows_range e w g = rows_true rows (omega arith) (λ r h.
      sym (symbols_true f xs (r * width + first) count (λ k l. g.at _ (omega (arith, row_in xs rows width first count r e w h)))))
