-- THE BOX: everything on its page (specs/Box.antt) holds. Each line names what proves it.
-- Assumes nothing.
use mathlib.Core.Path.{◌≡◌, refl, sym, ap, ap₂, subst, ◌∙◌}
use mathlib.Core.Bool.{Bool, true, false, cond, not, ◌&&◌, ◌||◌, false≢true}
use mathlib.Core.List.{List, [], ◌∷◌}
use mathlib.Core.Logic.{◌⊎◌, ⊎_elim}
use Prim.Native.Nat.{ℕ, ◌+◌, ◌*◌, ◌%◌, ◌^◌, ◌≤◌, ◌<◌}
use native.Mathlib.Decide.{ℕ_discrete}
use native.Mathlib.Omega.{arith}
use borrow.Author.Tests.{eq-eqb, ne_eqb, eqb-true, ltb-true}
use lib.Bits.{bit_xor}
use lib.Dec.{eqb, ltb}
use lib.ListN.{length, get_or}
use Rattle.algebra.specs.Below.{below}
use Rattle.lists.specs.Lists.{all, absent, all_below}
use Rattle.lists.proofs.Bools.{all_holds, all_false, not_both, both, either, passed}
use Rattle.lists.proofs.Numbered.{below_false, below_all}
use Rattle.algebra.specs.Coding.{InRange}
use Rattle.algebra.specs.Sum.{pow}
use Rattle.nibble.specs.Arithmetic.{◌⊗◌, ypow, power, shift_add, muly}
use Rattle.symbol.specs.Arithmetic.{◌⊕◌}
use Rattle.nibble.specs.Elem.{gf16, elem, ops}
use Rattle.nibble.proofs.Elem.{val_elem, val_add, val_mul, val_pow}
use Rattle.nibble.proofs.Tables.{powers, powers_rule, field_laws}
use Rattle.box_words.specs.Box.{points, Data, Word, word_of}
use Rattle.box_words.specs.Store.{store_refusal, store_buffer}
use Rattle.box_words.proofs.PointTable.{points_distinct, racks_by_h}
use Rattle.box_words.proofs.Words.{word_only}
use Rattle.box_recover.specs.Recover.{survivors_below, list_refusal, recover_refusal, data_refusal}
use Rattle.box_recover.proofs.Settled.{never_looks, data_never_looks, answer_unique, data_unique, any_seven, data_any_seven, eight_exactly, data_eight_exactly}
use Rattle.box_repair.specs.declared.Repaired.{Repaired}
use Rattle.box_repair.specs.Inner.{sum_of}
use Rattle.box_repair.specs.Share.{Top, share_refusal}
use Rattle.box_repair.specs.Repair.{others_below, repair_refusal, RepairAnswer}
use Rattle.box_repair.proofs.Tops.{top_only, top_is, lemma_1, tops_equal}
use Rattle.box_repair.proofs.Exact.{share_unique, repair_unique, old_value_unread, repair_exact, sent_by_calls}
use Rattle.box_repair.proofs.Eight.{eight_exactly as differing-eight}
use Rattle.box_repair.proofs.Examples.{worked_examples}
use Rattle.claims.specs.Words.{Refuses, Grounded}
use Rattle.claims.specs.Box.{BoxField, BoxGrounds, Box}

-- ---- the field
adds : (a b : ℕ) → a < 16 → b < 16 → gf16.coding.val (gf16.ops.add (gf16.coding.elem a) (gf16.coding.elem b)) ≡ bit_xor a b
unfolding ◌⊕◌
adds a b h k = val_add (elem a) (elem b) ∙ ap₂ bit_xor (val_elem a h) (val_elem b k)

multiplies : (a b : ℕ) → a < 16 → b < 16 → gf16.coding.val (gf16.ops.mul (gf16.coding.elem a) (gf16.coding.elem b)) ≡ a ⊗ b
multiplies a b h k = val_mul (elem a) (elem b) ∙ ap₂ ◌⊗◌ (val_elem a h) (val_elem b k)

-- by computation
powers_test : all (λ i. eqb (power 2 i) (2 ^ i)) 4 ≡ true
unfolding all power ◌⊗◌ shift_add muly ◌⊕◌
powers_test = refl

low_powers : (i : ℕ) → i < 4 → gf16.coding.val (pow gf16.ops gf16.root i) ≡ 2 ^ i
low_powers i h = val_pow 2 i ∙ eqb-true _ _ (all_holds (λ i. eqb (power 2 i) (2 ^ i)) 4 powers_test i h)

fourth_power : gf16.coding.val (pow gf16.ops gf16.root 4) ≡ 3
fourth_power = val_pow 2 4 ∙ fourth
  where
    fourth : power 2 4 ≡ 3
    fourth = unfold power ◌⊗◌ shift_add muly ◌⊕◌ in refl

table_is : (i : ℕ) → i < 16 → ypow i ≡ get_or (1 ∷ 2 ∷ 4 ∷ 8 ∷ 3 ∷ 6 ∷ 12 ∷ 11 ∷ 5 ∷ 10 ∷ 7 ∷ 14 ∷ 15 ∷ 13 ∷ 9 ∷ 1 ∷ []) i 0
unfolding powers
table_is i h = sym (powers_rule i h)

points_are : points ≡ 0 ∷ 1 ∷ ypow 5 ∷ ypow 10 ∷ ypow 1 ∷ ypow 2 ∷ ypow 4 ∷ ypow 8 ∷ ypow 6 ∷ ypow 7 ∷ ypow 9 ∷ ypow 13 ∷ ypow 3 ∷ ypow 11 ∷ ypow 12 ∷ ypow 14 ∷ []
unfolding points
points_are = refl

field : BoxField
unfolding below
field = record {
  field = field_laws;
  adds = adds;
  multiplies = multiplies;
  low_powers = low_powers;
  fourth_power = fourth_power;
  root = (refl, refl, refl);
  powers = table_is;
  points_are = points_are;
  points_differ = points_distinct;
  sorted_by_h = racks_by_h;
}

-- ---- grounds
store_left : (given out : List ℕ) → Refuses (store_refusal given (length out)) → store_buffer given out ≡ out
unfolding store_buffer
store_left given out h = ap (λ t. cond t (word_of given) out) (ne_eqb _ 0 h)

-- what is stored is a word
module _ (given out : List ℕ) (z : store_refusal given (length out) ≡ 0) where
  store_done : store_buffer given out ≡ word_of given
  unfolding store_buffer
  store_done = ap (λ t. cond t (word_of given) out) (eq-eqb _ 0 z)

  store_data : Data given
  unfolding store_refusal
  store_data =
      let lengths = passed (eqb (length given) 7 && eqb (length out) 16) 2 _ (omega arith) z in
      let below = passed (all_below given 16) 3 0 (omega arith) lengths.1 in
      record { long = eqb-true _ _ (both (eqb (length given) 7) (eqb (length out) 16) lengths.0).0; symbols = record { at = below_all given 16 below.0 } }

  store_word : Word (store_buffer given out)
  store_word = record { coefficients = given; given = store_data; is = store_done }

repair_grounds : (lost : ℕ) (hs shares rack old new : List ℕ) (r : Repaired) → RepairAnswer lost hs shares rack old new r →
    Grounded (repair_refusal lost hs shares rack (length old)) r.refusal old new
    × (Refuses (repair_refusal lost hs shares rack (length old)) → r ≡ record { refusal = repair_refusal lost hs shares rack (length old); crossed = 0 })
repair_grounds lost hs shares rack old new r p = (
  (p.answer, λ h. p.unchanged (λ e. h (sym p.answer ∙ e))),
  λ h i. record { refusal = p.answer i; crossed = (p.crossed ∙ ap (λ t. cond t 2 0) (ne_eqb r.refusal 0 (λ e. h (sym p.answer ∙ e)))) i },
)

-- ---- a value above 15
store_above : (given : List ℕ) → length given ≡ 7 → (i : ℕ) → i < 7 → 16 ≤ get_or given i 0 → store_refusal given 16 ≡ 3
unfolding store_refusal
store_above given long i h high = simp (eq-eqb _ _ long, sym (below_false given 16 i (omega (arith, h, long)) high))

not_below : (n : ℕ) → 16 ≤ n → ltb n 16 ≡ true → ⊥
not_below n h t = omega (arith, h, ltb-true n 16 t)

module _ (es c : List ℕ) (long : length c ≡ 16) (x : ℕ) (h : x < 16) (kept : absent es x ≡ true) (high : 16 ≤ get_or c x 0) where
  seen : survivors_below es c ≡ false
  unfolding survivors_below
  seen = sym (all_false (λ x. not (absent es x) || ltb (get_or c x 0) 16) 16 x h
      (λ t. ⊎_elim (λ e. false≢true (sym (ap not kept) ∙ e)) (not_below (get_or c x 0) high) (either (not (absent es x)) (ltb (get_or c x 0) 16) t)))

  listed : list_refusal es c ≡ 3
  unfolding list_refusal
  listed = simp (not_both (all_below es 16) (survivors_below es c) (λ a b. false≢true (sym seen ∙ b)))

  recover_above : recover_refusal es c ≡ 3
  unfolding recover_refusal
  recover_above = simp (eq-eqb _ _ long, listed)

  data_above : data_refusal es c 7 ≡ 3
  unfolding data_refusal
  data_above = simp (eq-eqb _ _ long, listed)

share_above : (host helper : ℕ) (vs : List ℕ) → length vs ≡ 4 → (i : ℕ) → i < 4 → 16 ≤ get_or vs i 0 → share_refusal host helper vs 1 ≡ 3
unfolding share_refusal
share_above host helper vs long i h high =
    simp (eq-eqb _ _ long, not_both (ltb host 4 && ltb helper 4) (all_below vs 16) (λ a b. false≢true (below_false vs 16 i (omega (arith, h, long)) high ∙ b)))

module _ (lost : ℕ) (hs shares rack : List ℕ) (long : length shares ≡ 2) (rack_long : length rack ≡ 4) where
  three : (all_below shares 16 ≡ true → others_below (lost % 4) rack ≡ true → ⊥) → repair_refusal lost hs shares rack 1 ≡ 3
  unfolding repair_refusal
  three out = simp (
    eq-eqb _ _ long,
    eq-eqb _ _ rack_long,
    not_both (ltb lost 16 && all_below hs 4 && all_below shares 16) (others_below (lost % 4) rack)
        (λ a b. out (both (ltb lost 16 && all_below hs 4) (all_below shares 16) a).1 b),
  )

  repair_above : ((i : ℕ) → i < 2 → 16 ≤ get_or shares i 0 → repair_refusal lost hs shares rack 1 ≡ 3)
      × ((g : ℕ) → g < 4 → ¬ (g ≡ lost % 4) → 16 ≤ get_or rack g 0 → repair_refusal lost hs shares rack 1 ≡ 3)
  unfolding others_below
  repair_above = (
    λ i h high. three (λ a b. false≢true (below_false shares 16 i (omega (arith, h, long)) high ∙ a)),
    λ g h d high. three (λ a b.
        ⊎_elim (λ e. d (eqb-true _ _ e)) (not_below (get_or rack g 0) high) (either (eqb g (lost % 4)) (ltb (get_or rack g 0) 16)
        (all_holds (λ g. eqb g (lost % 4) || ltb (get_or rack g 0) 16) 4 b g h))),
  )

grounds : BoxGrounds
grounds = record {
  store = λ given out. (store_left given out, λ z. (store_done given out z, store_word given out z));
  recover = λ es c d n p. (p.refused, p.unchanged);
  data_back = λ es c old new n p. (p.refused, p.unchanged);
  share = λ host helper vs old new n p. (p.answer, λ h. p.unchanged (λ e. h (sym p.answer ∙ e)));
  repair = repair_grounds;
  recover_one = answer_unique;
  data_one = data_unique;
  share_one = share_unique;
  repair_one = repair_unique;
  store_above = store_above;
  recover_above = λ es c long x h kept high. (recover_above es c long x h kept high, data_above es c long x h kept high);
  share_above = share_above;
  repair_above = repair_above;
  recover_unread = never_looks;
  data_unread = data_never_looks;
  repair_unread = λ lost hs shares old rack rack' new new' r r' long same p p'.
      old_value_unread lost hs shares old rack rack' new new' r r' (record { long = long; same = same }) p p';
}

pub claims_box : Box
claims_box = record {
  field = field;
  grounds = grounds;
  words_differ = word_only;
  any_seven = any_seven;
  data_any_seven = data_any_seven;
  eight_exactly = eight_exactly;
  data_eight = data_eight_exactly;
  top_one = λ i vs h. (λ s t p q. top_only i vs s h p ∙ sym (top_only i vs t h q), ((sum_of vs).val, top_is i h vs (sum_of vs).val refl));
  lemma_1 = lemma_1;
  tops_equal = tops_equal;
  repair_exact = repair_exact;
  sent_by_calls = sent_by_calls;
  repair_eight = differing-eight;
  example_1 = worked_examples;
}
