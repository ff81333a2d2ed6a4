-- The symbols of edition 1, a byte each: tested, written and handed out where they lie.
-- Assumes nothing.
use mathlib.Core.Path.{◌≡◌, refl, sym, ap, ap₂, ◌∙◌}
use mathlib.Core.Bool.{Bool, true, false, not}
use mathlib.Core.List.{List, [], ◌++◌, append-nil}
use Prim.Native.Nat.{ℕ, ◌+◌, ◌-◌, ◌*◌, ◌≤◌}
use native.Mathlib.Nat.{zero-add}
use native.Mathlib.Omega.{arith}
use lib.Dec.{ltb}
use lib.ListN.{length, get_or, take, drop, length-drop, drop_of_length-le}
use lib.Seq.{take_all, take-length, get_or-drop}
use Rattle.lists.specs.Lists.{table, all_below}
use Rattle.lists.proofs.Bools.{all_same}
use Rattle.lists.proofs.Numbered.{below_all}
use Rattle.lists.proofs.Tables.{is_table}
use Rattle.kernel.specs.Inner.{Run, copied}
use Rattle.layout.specs.declared.Layout.{Layout}
use Rattle.layout.specs.Layout.{layers, admissible}
use Rattle.symbol.specs.Elem.{gf256}
use Rattle.range.specs.Range.{symbols_from}
use Rattle.image.specs.Image.{edition1, header_length, symbol_bytes, own_layout, symbol_at, own_symbols, well_formed, read_refusal, read_symbols}
use Rattle.image.specs.Inner.{symbols_held, header_formed, formed_refusal}
use Rattle.image.proofs.Editions.{proper1}
use Rattle.image.proofs.Numbers.{symbols_one}
use Rattle.image.proofs.Forms.{formed_room, formed_symbols}
use Rattle.image.proofs.ReadGrounds.{read_9, read_formed, readable, given_symbols}

-- the copy of all symbols
module _ (symbols out : List ℕ) (fits : length out ≡ edition1.width * length symbols) where
  pub copy_is : all_below symbols edition1.size ≡ true → (last : List ℕ) → last ≡ take (length symbols) symbols ++ drop (length symbols) out
      → last ≡ symbol_bytes edition1.width symbols
  copy_is below last e =
      e
      ∙ ap₂ ◌++◌ (take-length symbols) (drop_of_length-le out {i = length symbols} (omega arith))
      ∙ append-nil symbols
      ∙ sym (symbols_one symbols (below_all symbols edition1.size below))

-- the symbol at a place is the byte there
at_place : (s : List ℕ) (j : ℕ) → symbol_at edition1 s j ≡ get_or s (header_length + j) 0
at_place s j = let e : header_length + 1 * j ≡ header_length + j = omega arith in omega (arith, ap (λ i. get_or s i 0) e)

-- the test of an image's symbols, past that of its header
module _ (s : List ℕ) (b : Bool) (e : b ≡ header_formed edition1 s) (h : not b ≡ false) (own : Layout) (total : ℕ) (o : own ≡ own_layout s) (t : total ≡ layers own) where
  pub held_room : header_length + total ≤ length s
  held_room = omega (arith, formed_room edition1 s b e proper1 h own total o t)

  pub held_tested : (r : Bool) → r ≡ symbols_from gf256 s header_length total → r ≡ well_formed edition1 s
  unfolding symbols_from symbols_held
  held_tested r q =
      formed_symbols edition1 s b e proper1 h own total o t r
      (q ∙ all_same _ _ total (λ k l. ap (λ x. ltb x edition1.size) (sym (at_place s k))))

-- the grounds past the first, where the part has the places that it must have
module _ (l : Layout) (volume : ℕ) (s : List ℕ) (a : Bool) (e : a ≡ admissible edition1.order l) (h : not a ≡ false) (f : Bool) (g : f ≡ well_formed edition1 s) where
  pub part_9 : not f ≡ true → 9 ≡ read_refusal edition1 l volume (layers l) s
  part_9 = read_9 edition1 l volume (layers l) s a e h (layers l) refl refl f g

  pub part_formed : not f ≡ false → (r : ℕ) → r ≡ formed_refusal l volume s → r ≡ read_refusal edition1 l volume (layers l) s
  part_formed = read_formed edition1 l volume (layers l) s a e h (layers l) refl refl f g

-- the copy to lent places
pub copied_places : (s was is : List ℕ) → Run (copied s header_length) was is 0 (length was) → is ≡ table (symbol_at edition1 s) (length was)
unfolding copied
copied_places s was is r =
    is_table is (symbol_at edition1 s) (length was) r.long
    (λ i h. ap (λ n. get_or is n 0) (sym (zero-add i)) ∙ r.done i h ∙ sym (at_place s i))

-- the part that is handed out is all from the header on
module _ (l : Layout) (volume : ℕ) (s : List ℕ) (e : ℕ) (q : e ≡ read_refusal edition1 l volume (layers l) s) (z : e ≡ 0) where
  pub given_rest : drop header_length s ≡ read_symbols edition1 l volume (layers l) [] s
  unfolding own_symbols
  given_rest =
      let w = (readable edition1 l volume (layers l) s proper1 (sym q ∙ z)).formed.head.whole in
      is_table (drop header_length s) (symbol_at edition1 s) (layers (own_layout s)) (omega (arith, length-drop header_length s, w))
      (λ i h. get_or-drop header_length s i 0 ∙ sym (at_place s i))
      ∙ given_symbols edition1 l volume (layers l) s e q z []

  -- as `&s[n..]` gives it
  pub given_part : take (length s - header_length) (drop header_length s) ≡ read_symbols edition1 l volume (layers l) [] s
  given_part = take_all (length s - header_length) (drop header_length s) (omega (arith, length-drop header_length s)) ∙ given_rest
