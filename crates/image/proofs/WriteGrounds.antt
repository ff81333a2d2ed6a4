-- The grounds of a write one by one, from the tests as the code makes them, and the bytes afterwards.
-- Assumes nothing.
use mathlib.Core.Path.{◌≡◌, sym, ap, ◌∙◌}
use mathlib.Core.Bool.{Bool, true, false, cond, not, ◌&&◌, false≢true}
use mathlib.Core.List.{List, ◌++◌}
use Prim.Native.Nat.{ℕ}
use lib.Dec.{eqb, lit<}
use lib.ListN.{length}
use borrow.Author.Tests.{eq-eqb, ne_eqb, eqb-true, not-true, not-false}
use Rattle.lists.specs.Lists.{all_below}
use Rattle.lists.proofs.Bools.{passed, both, and_true, not_both, told_false, told_true}
use Rattle.layout.specs.declared.Layout.{Layout}
use Rattle.layout.specs.Layout.{layers, admissible, Cabinet, Admissible}
use Rattle.layout.proofs.Facts.{admissible_facts, facts_admissible, admitted_so}
use Rattle.image.specs.declared.Edition.{Edition}
use Rattle.image.specs.Image.{image_length, header, symbol_bytes, in_range, write_refusal, write_buffer}
use Rattle.image.specs.Inner.{Proper, write_grounds}
use Rattle.image.proofs.Ranges.{InRange, range_facts, facts_range}

pub cabinet_so : (ed : Edition) (l : Layout) (a : Bool) → Proper ed → a ≡ admissible ed.order l → not a ≡ false → Cabinet l
cabinet_so ed l a g e h = (admitted_so ed.order l a e h).cabinet

module _ (ed : Edition) (l : Layout) (tray state volume count : ℕ) (ok : Bool) (room : ℕ) where
  pub write_1 : (a : Bool) → a ≡ admissible ed.order l → not a ≡ true → 1 ≡ write_grounds ed l tray state volume count ok room
  unfolding write_grounds
  write_1 a e h = simp (told_false e h)

  module _ (a : Bool) (e : a ≡ admissible ed.order l) (h : not a ≡ false) (total : ℕ) (f : total ≡ layers l) where
    pub write_2_count : (count ≡ total → ⊥) → 2 ≡ write_grounds ed l tray state volume count ok room
    unfolding write_grounds
    write_2_count d = simp (told_true e h, ne_eqb count (layers l) (λ q. d (q ∙ sym f)))

    module _ (full : ℕ) (f-is : full ≡ image_length ed l) where
      pub write_2_room : (room ≡ full → ⊥) → 2 ≡ write_grounds ed l tray state volume count ok room
      unfolding write_grounds
      write_2_room d = simp (told_true e h, not_both (eqb count (layers l)) (eqb room (image_length ed l)) (λ p q. d (eqb-true _ _ q ∙ sym f-is)))

      module _ (c-is : count ≡ total) (r-is : room ≡ full) where
        last : (b : Bool) → b ≡ (in_range l tray state volume && ok) → cond b 0 3 ≡ write_grounds ed l tray state volume count ok room
        unfolding write_grounds
        last b q = simp (told_true e h, eq-eqb count (layers l) (c-is ∙ f), eq-eqb room (image_length ed l) (r-is ∙ f-is)) (ap (λ t. cond t 0 3) q)

        module _ (b : Bool) (g : b ≡ in_range l tray state volume) where
          pub write_3 : not b ≡ true → 3 ≡ write_grounds ed l tray state volume count ok room
          write_3 k = last false (sym (ap (λ t. t && ok) (told_false g k)))

          pub write_3_symbols : not ok ≡ true → 3 ≡ write_grounds ed l tray state volume count ok room
          write_3_symbols n = last false (sym (not_both (in_range l tray state volume) ok (λ p q. false≢true (sym (not-true ok n) ∙ q))))

          pub write_0 : not b ≡ false → not ok ≡ false → 0 ≡ write_grounds ed l tray state volume count ok room
          write_0 k n = last true (sym (and_true (in_range l tray state volume) ok (told_true g k) (not-false ok n)))

-- what lets a write through
module _ (ed : Edition) (l : Layout) (tray state volume : ℕ) (symbols : List ℕ) (room : ℕ) where
  pub record Writable : Type 0 where
    pub adm : Admissible ed.order l
    pub count_is : length symbols ≡ layers l
    pub room_is : room ≡ image_length ed l
    pub range : InRange l tray state volume
    pub symbols_in : all_below symbols ed.size ≡ true

  pub writable : Proper ed → write_refusal ed l tray state volume symbols room ≡ 0 → Writable
  unfolding write_refusal
  writable g h =
      let p = passed (admissible ed.order l) 1 _ (lit< tt) h in
      let q = passed (eqb (length symbols) (layers l) && eqb room (image_length ed l)) 2 _ (lit< tt) p.1 in
      let r = passed (in_range l tray state volume && all_below symbols ed.size) 3 _ (lit< tt) q.1 in
      let lengths = both (eqb (length symbols) (layers l)) (eqb room (image_length ed l)) q.0 in
      let numbers = both (in_range l tray state volume) (all_below symbols ed.size) r.0 in
      record {
        adm = admissible_facts ed.order l p.0;
        count_is = eqb-true _ _ lengths.0;
        room_is = eqb-true _ _ lengths.1;
        range = range_facts l tray state volume numbers.0;
        symbols_in = numbers.1;
      }

  pub written_0 : Proper ed → Writable → write_refusal ed l tray state volume symbols room ≡ 0
  unfolding write_refusal
  written_0 g w =
      simp (
        sym (facts_admissible ed.order l w.adm),
        eq-eqb _ _ w.count_is,
        eq-eqb _ _ w.room_is,
        facts_range l tray state volume w.range,
        w.symbols_in,
      )

module _ (ed : Edition) (l : Layout) (tray state volume : ℕ) (symbols image : List ℕ) where
  -- from the call as the code makes it: b is the answer of the test of the symbols
  module _ (b : Bool) (e : ℕ) (t : b ≡ all_below symbols ed.size) (q : e ≡ write_grounds ed l tray state volume (length symbols) b (length image)) where
    pub write_answer : e ≡ write_refusal ed l tray state volume symbols (length image)
    unfolding write_grounds write_refusal
    write_answer = q ∙ ap (λ ok. write_grounds ed l tray state volume (length symbols) ok (length image)) t

    pub not_written : (e ≡ 0 → ⊥) → image ≡ write_buffer ed l tray state volume symbols image
    unfolding write_buffer
    not_written d = simp (ne_eqb _ _ (λ z. d (write_answer ∙ z)))

  pub written : write_refusal ed l tray state volume symbols (length image) ≡ 0
      → header ed l tray state volume ++ symbol_bytes ed.width symbols ≡ write_buffer ed l tray state volume symbols image
  unfolding write_buffer
  written e = simp (eq-eqb _ _ e)
