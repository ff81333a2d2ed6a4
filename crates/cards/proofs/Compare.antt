-- A card's numbers against the right multipliers, and these as a card.
-- Assumes nothing.
use mathlib.Core.Path.{◌≡◌, sym, ap, subst, ◌∙◌}
use mathlib.Core.Bool.{Bool, true, false≢true}
use mathlib.Core.List.{List}
use Prim.Native.Nat.{ℕ, ◌+◌, ◌*◌, ◌/◌, ◌%◌, ◌<◌, ◌≤◌}
use native.Mathlib.Nat.{le_trans, mul-le-mul_right, mod-lt, zero-add, div-add-mod', div-lt_iff_lt-mul}
use native.Mathlib.Omega.{arith}
use lib.ListN.{length, get_or, take}
use Rattle.std.proofs.Common.{length-take-le, get_or-take, ext_get_or, Decides}
use Rattle.std.proofs.lemmas.Bool.Decides.{same_from_decides}
use borrow.Author.Tests.{eq-eqb, eqb-true}
use Rattle.lists.proofs.Bools.{all_holds, all_true}
use Rattle.lists.proofs.Numbers.{cell_in}
use Rattle.algebra.specs.Coding.{InRange}
use Rattle.algebra.specs.Shape.{Field}
use Rattle.algebra.specs.Plain.{Working}
use Rattle.algebra.proofs.Coding.{elem_same}
use Rattle.kernel.specs.Inner.{Run, copied, cell}
use Rattle.layout.specs.declared.Layout.{Layout}
use Rattle.layout.specs.Layout.{digits}
use Rattle.layout.proofs.Numbers.{whole_low}
use Rattle.blocks.specs.Inner.{room_limit}
use Rattle.range.specs.Range.{symbols_from}
use Rattle.share.proofs.Refusals.{symbols_range}
use Rattle.sums.proofs.Steps.{digits_under}
use Rattle.card.specs.Card.{multiplier}
use Rattle.multipliers.specs.Inner.{Grouped, Multipliers}
use Rattle.multipliers.proofs.Sides.{sides_room}
use Rattle.cards.specs.Inner.{same_numbers, Agreeing, Verdict}

-- ---- number by number
module _ (a b : List ℕ) where
  same_all : (i len : ℕ) → ((k : ℕ) → k < i → get_or a k 0 ≡ get_or b k 0) → len ≤ i → true ≡ same_numbers a b len
  unfolding same_numbers
  same_all i len h q = sym (all_true _ len (λ k l. eq-eqb _ _ (h k (omega arith))))

  same_holds : (len : ℕ) → same_numbers a b len ≡ true → (k : ℕ) → k < len → get_or a k 0 ≡ get_or b k 0
  unfolding same_numbers
  same_holds len t k h = eqb-true _ _ (all_holds _ len t k h)

  -- as `==` on their first parts tells it
  pub alike_told : (len : ℕ) (r : Bool) → len ≤ length a → len ≤ length b → Decides r (take len a ≡ take len b) → r ≡ same_numbers a b len
  alike_told len r ha hb d =
      same_from_decides r (same_numbers a b len) d (
        λ t. ext_get_or 0 (take len a) (take len b) long (λ k h.
            let q : k < len = omega (arith, first_long) in
            number k (same_holds len t k q) q),
        λ e. sym (same_all len len (λ k h. sym (get_or-take len a k 0 h) ∙ ap (λ s. get_or s k 0) e ∙ get_or-take len b k 0 h) (omega arith)),
      )
    where
      first_long : length (take len a) ≡ len
      first_long = length-take-le len a ha

      long : length (take len a) ≡ length (take len b)
      long = first_long ∙ sym (length-take-le len b hb)

      number : (k : ℕ) → get_or a k 0 ≡ get_or b k 0 → k < len → get_or (take len a) k 0 ≡ get_or (take len b) k 0
      number k e h = get_or-take len a k 0 h ∙ e ∙ sym (get_or-take len b k 0 h)

module _ {A : Type 0} {f : Field A} (W : Working f) (l : Layout) (h p : ℕ) (helpers : List ℕ) (g : Grouped l h p helpers) where
  open f.coding use {elem, size}

  some : 0 < l.helpers
  some = omega (arith, g.chosen.adm.helpers_low, whole_low l g.chosen.adm)

  -- s·d numbers fit a room
  pub card_room : (card found : List ℕ) → length card ≡ digits l * l.helpers → length found ≡ room_limit → length card ≤ length found
  card_room card found ec ef = rw (ec, ef) (le_trans (mul-le-mul_right l.helpers (digits_under l g.chosen.adm)) (sides_room l g.chosen.adm g.chosen.plain))

  pub copy_room : (card found : List ℕ) → length card ≡ digits l * l.helpers → length found ≡ room_limit → 0 + length card ≤ length found
  copy_room card found ec ef = let h = card_room card found ec ef in omega arith

  -- a place of a card, by digit and helper
  digit_in : (i : ℕ) → i < digits l * l.helpers → i / l.helpers < digits l
  digit_in i q = (div-lt_iff_lt-mul some).1 q

  pub small_at : (found : List ℕ) → Multipliers f l h p helpers found → (i : ℕ) → i < digits l * l.helpers → get_or found i 0 < size
  small_at found m i q = subst (λ n. get_or found n 0 < size) (div-add-mod' i l.helpers) (m.small (i / l.helpers) (i % l.helpers) (digit_in i q) (mod-lt i some))

  -- the verdict
  pub verdict_of : (card found : List ℕ) (r : Bool) → length card ≡ digits l * l.helpers → symbols_from f card 0 (length card) ≡ true → Multipliers f l h p helpers found →
      r ≡ same_numbers card found (length card) → Verdict f l h p helpers card r
  unfolding cell multiplier
  verdict_of card found r long symbols m e = record {
    right = λ t b k hb hk. ap elem (same_holds card found (length card) (sym e ∙ t) (b * l.helpers + k) (rw long (cell_in (digits l) l.helpers b k hb hk))) ∙ m.at b k hb hk;
    wrong = λ w agree. false≢true (sym w ∙ e ∙ sym (same_all card found (length card) (length card) (λ i hi.
        let q : i < digits l * l.helpers = rw long at hi in
        elem_same f.coding W.field.coded _ _ ((symbols_range f card symbols).at i hi) (small_at found m i q)
        (subst (λ n. elem (get_or card n 0) ≡ elem (get_or found n 0)) (div-add-mod' i l.helpers)
        (agree (i / l.helpers) (i % l.helpers) (digit_in i q) (mod-lt i some) ∙ sym (m.at (i / l.helpers) (i % l.helpers) (digit_in i q) (mod-lt i some))))) (omega arith)));
  }

  -- the multipliers copied
  pub copied_of : (found old new : List ℕ) (n : ℕ) → Multipliers f l h p helpers found → n ≡ length old → length old ≡ digits l * l.helpers → Run (copied found 0) old new 0 n →
      Multipliers f l h p helpers new
  unfolding copied cell
  copied_of found old new n m en long r = record {
    at = λ b k hb hk. ap elem (number b k hb hk) ∙ m.at b k hb hk;
    small = λ b k hb hk. rw (number b k hb hk) (m.small b k hb hk);
  }
    where
      number : (b k : ℕ) → b < digits l → k < l.helpers → get_or new (b * l.helpers + k) 0 ≡ get_or found (b * l.helpers + k) 0
      number b k hb hk =
          ap (λ i. get_or new i 0) (sym (zero-add (b * l.helpers + k)))
          ∙ r.done (b * l.helpers + k) (rw (en ∙ long) (cell_in (digits l) l.helpers b k hb hk))
          ∙ ap (λ i. get_or found i 0) (zero-add (b * l.helpers + k))

  -- as a card
  pub agreeing_of : (card : List ℕ) → Multipliers f l h p helpers card → Agreeing f l h p helpers card
  unfolding cell multiplier
  agreeing_of card m b k hb hk = m.at b k hb hk

  pub range_of : (card : List ℕ) → length card ≡ digits l * l.helpers → Multipliers f l h p helpers card → InRange f.coding card
  range_of card long m = record { at = λ i hi. small_at card m i (rw long at hi) }
