-- What a call looks at: two calls that are alike there answer alike and leave the same symbols. Over any field.
-- Assumes nothing.
use mathlib.Core.Path.{◌≡◌, refl, sym, ap, ap₂, subst, ◌∙◌}
use mathlib.Core.Bool.{Bool, true, false, cond, not, ◌&&◌, false≢true}
use mathlib.Core.List.{List, [], ◌∷◌}
use mathlib.Core.Logic.{◌↔◌}
use Prim.Native.Nat.{ℕ, zero, suc, ◌+◌, ◌-◌, ◌*◌, ◌/◌, ◌%◌, ◌<◌, ◌≤◌, min}
use native.Mathlib.Nat.{mod-lt, div-lt_iff_lt-mul, div-add-mod', add-mul, add_assoc, zero-add, mul_comm}
use native.Mathlib.Decide.{ℕ_discrete, dec_le, dec_lt}
use native.Mathlib.Omega.{arith}
use borrow.Author.Tests.{eq-eqb, ne_eqb, leb-true, ltb-true}
use lib.Arith.{digits_mod}
use lib.Dec.{leb, ltb, eqb}
use lib.ListN.{length, get_or}
use lib.Seq.{ext_get_or}
use Rattle.lists.specs.Lists.{all, absent, all_below}
use Rattle.lists.proofs.Bools.{all_same, both, not_true_false, passed}
use Rattle.lists.proofs.Numbered.{absent_true, below_all, below_true}
use Rattle.lists.proofs.Numbers.{cell_in}
use Rattle.algebra.specs.Coding.{InRange}
use Rattle.algebra.specs.Shape.{Field}
use Rattle.algebra.specs.Plain.{Working}
use Rattle.algebra.specs.Erasure.{choose}
use Rattle.algebra.specs.Layers.{group_of}
use Rattle.algebra.proofs.Sum.{sum_congr}
use Rattle.layout.specs.declared.Layout.{Layout}
use Rattle.layout.specs.Layout.{trays, checks, digits, layers, groups, admissible, admissible_with, lost_count_fits, AdmissibleWith}
use Rattle.layout.proofs.Facts.{bounds, with_facts}
use Rattle.range.specs.Range.{symbols_from, symbol_rows}
use Rattle.codeword.specs.Codeword.{symbol_at, Solvable}
use Rattle.codeword.specs.Test.{test_refusal}
use Rattle.codeword.proofs.Usable.{solvable}
use Rattle.codeword.proofs.Buffers.{layers_pos}
use Rattle.rule.specs.Rule.{group_at, sound_sum}
use Rattle.rule.specs.Lost.{first_lost, lost_place, Losses, sent_symbol, SoundAlike, Piece}
use Rattle.rule.proofs.Lost.{ruled_same}
use Rattle.share.specs.Many.{shares_refusal, shares_buffer, shares_of, many_refusal, add_many_refusal}
use Rattle.share.proofs.Refusals.{buffer_done}
use Rattle.seen.specs.Seen.{layer_symbol, sound_symbols, piece_symbols}
use Rattle.repair.specs.declared.Repaired.{Repaired}
use Rattle.repair.specs.declared.Repaired.TheVariants.{Done, Refused}
use Rattle.repair.specs.Repair.{repair_refusal, report, RepairDone, RepairAnswer}
use Rattle.repair.proofs.Refusals.{repairable}
use Rattle.repair.proofs.Pieces.{kept_at}
use Rattle.correcting.specs.declared.Corrected.{Corrected}
use Rattle.correcting.specs.declared.Corrected.TheVariants.{Done as Whole, Refused as NotWhole}
use Rattle.correcting.specs.Correcting.{seen_symbols, correcting_refusal, CorrectingAnswer}
use Rattle.correcting.proofs.Refusals.{accepted_so}
use Rattle.correcting.proofs.Unique.{correcting_unique}
use Rattle.card.specs.Card.{Right}
use Rattle.card.specs.Grounds.{card_ground}
use Rattle.cards.specs.Cards.{print_ground, repair_ground, Judged, PrintAnswer, CardAnswer}
use Rattle.cards.proofs.Claims.{judged_unique, tested_printed, printed_tested}
use Rattle.scrub.specs.declared.Walk.{Walk}
use Rattle.scrub.specs.Scrub.{bad_layer, bad_count, least_bad, after, step_layers, step_symbols, scrub_refusal, scrubbed}
use Rattle.claims.specs.Words.{Refuses, LayerAlike, OthersAlike, GroupsAlike}
use Rattle.claims.proofs.Survivors.{check_layer}

-- ---- a piece of a repair
module _ {A : Type 0} (f : Field A) (l : Layout) (lost shares shares' host host' : List ℕ) (first budget : ℕ)
    (alike : GroupsAlike l lost shares shares' host host' first (min budget (groups l - first))) where
  abbrev h : ℕ
  h = first_lost l lost / l.size

  abbrev n : ℕ
  n = min budget (groups l - first)

  -- the symbols of a group that were sent
  sent : (p : ℕ) → first ≤ p → p < first + n → (m k : ℕ) → m < length lost → k < l.helpers →
      sent_symbol f l (length lost) shares m p k ≡ sent_symbol f l (length lost) shares' m p k
  unfolding sent_symbol
  sent p low high m k hm hk =
      let inside : k * length lost + m < length lost * l.helpers =
      subst (λ y. k * length lost + m < y) (mul_comm l.helpers (length lost)) (cell_in l.helpers (length lost) k m hk hm) in
      ap f.coding.elem (alike.sent (k * length lost + m) p inside low high)

  -- those of the sound trays in its layers
  sound : (p : ℕ) → first ≤ p → p < first + n → (j : ℕ) → j < layers l → group_at l (first_lost l lost) j ≡ p → SoundAlike f l lost j host host'
  unfolding symbol_at lost_place
  sound p low high j hj e g hg out =
      ap f.coding.elem (alike.sound g j hg hj (omega (arith, low, e)) (omega (arith, high, e))
      (sym (absent_true lost (h * l.size + g) (λ k hk q. out k hk (sym (ap (λ y. y % l.size) q ∙ digits_mod h hg))))))

  -- what is looked at passes the same tests
  rows_same : symbol_rows f shares (length lost * l.helpers) (groups l) first n ≡ symbol_rows f shares' (length lost * l.helpers) (groups l) first n
  unfolding symbol_rows symbols_from
  rows_same = all_same _ _ (length lost * l.helpers) (λ r hr. all_same _ _ n (λ k hk.
      let e : r * groups l + (first + k) ≡ r * groups l + first + k = omega arith in
      ap (λ y. ltb y f.coding.size) (subst (λ i. get_or shares i 0 ≡ get_or shares' i 0) e (alike.sent r (first + k) hr (omega arith) (omega arith)))))

  layer_same : (g j : ℕ) → g < l.size → j < layers l → absent lost (h * l.size + g) ≡ true → layer_symbol f l h host first n g j ≡ layer_symbol f l h host' first n g j
  unfolding layer_symbol symbols_from
  layer_same g j hg hj a = go (leb first (group_of (digits l) h j) && ltb (group_of (digits l) h j) (first + n)) refl
    where
      go : (t : Bool) → (leb first (group_of (digits l) h j) && ltb (group_of (digits l) h j) (first + n)) ≡ t →
          cond t (all (λ k. ltb (get_or host (g * layers l + j + k) 0) f.coding.size) 1) true ≡ cond t (all (λ k. ltb (get_or host' (g * layers l + j + k) 0) f.coding.size) 1) true
      go false e = refl
      go true e =
          let q = both (leb first (group_of (digits l) h j)) (ltb (group_of (digits l) h j) (first + n)) e in
          all_same _ _ 1 (λ k hk.
          let z : g * layers l + j ≡ g * layers l + j + k = omega arith in
          ap (λ y. ltb y f.coding.size) (subst (λ i. get_or host i 0 ≡ get_or host' i 0) z (alike.sound g j hg hj (leb-true _ _ q.0) (ltb-true _ _ q.1) a)))

  tray_same : (g : ℕ) → g < l.size → (t : Bool) → absent lost (h * l.size + g) ≡ t →
      cond t (all (layer_symbol f l h host first n g) (layers l)) true ≡ cond t (all (layer_symbol f l h host' first n g) (layers l)) true
  tray_same g hg true a = all_same _ _ (layers l) (λ j hj. layer_same g j hg hj a)
  tray_same g hg false a = refl

  seen_same : piece_symbols f l lost shares host first budget ≡ piece_symbols f l lost shares' host' first budget
  unfolding piece_symbols sound_symbols
  seen_same = ap₂ (λ s t. cond (eqb (length lost) 0) true (s && t)) rows_same (all_same _ _ l.size (λ g hg. tray_same g hg (absent lost (h * l.size + g)) refl))

  ground_same : (helpers : List ℕ) (room : ℕ) → repair_refusal f l lost helpers shares host room first budget ≡ repair_refusal f l lost helpers shares' host' room first budget
  unfolding repair_refusal
  ground_same helpers room = simp (alike.shares_long, alike.host_long, seen_same)

  module _ (helpers old new new' : List ℕ) where
    -- two pieces of the same groups over the same spare write the same
    same_piece : Solvable f l → Losses l lost helpers → (g : ℕ) → g ≡ n → first ≤ groups l → length old ≡ length lost * layers l →
        Piece f l lost helpers shares host first g old new → Piece f l lost helpers shares' host' first g old new' → new ≡ new'
    same_piece ok given g is within old_long a b =
        ext_get_or 0 new new' (a.long ∙ sym b.long)
        (λ n hn. kept_at (length lost) (layers l) (layers_pos f l ok.usable) n new' new (omega (arith, hn, a.long, old_long))
        (λ i hi j hj _. at i hi j hj (group_at l (first_lost l lost) j) refl))
      where
        at : (i : ℕ) → i < length lost → (j : ℕ) → j < layers l → (p : ℕ) → group_at l (first_lost l lost) j ≡ p →
            get_or new (i * layers l + j) 0 ≡ get_or new' (i * layers l + j) 0
        at i hi j hj p e = elim (dec_le first p) [
          | yes low ↦ elim (dec_lt p (first + g)) [
            | yes high ↦ ruled_same f l ok lost helpers given p (omega (arith, low, high, is, within)) shares shares' host host' new new' (a.done p low high) (b.done p low high)
                (sent p low (omega (arith, high, is))) (λ q hq d. sound p low (omega (arith, high, is)) q hq d) i hi j hj e
            | no high ↦ a.kept i hi j hj (λ w. high (omega arith)) ∙ sym (b.kept i hi j hj (λ w. high (omega arith)))
          ]
          | no low ↦ a.kept i hi j hj (λ w. low (omega arith)) ∙ sym (b.kept i hi j hj (λ w. low (omega arith)))
        ]

module _ {A : Type 0} {f : Field A} (W : Working f) (l : Layout) (lost helpers shares shares' host host' : List ℕ) (first budget : ℕ)
    (alike : GroupsAlike l lost shares shares' host host' first (min budget (groups l - first))) (old new new' : List ℕ) where
  both_done : (g c t g' c' t' : ℕ) → RepairDone f l lost helpers shares host first budget old new (report (Done g c t)) →
      RepairDone f l lost helpers shares' host' first budget old new' (report (Done g' c' t')) → (Done g c t ≡ Done g' c' t') × (new ≡ new')
  both_done g c t g' c' t' a b =
      let made = repairable f l lost helpers shares host (length old) first budget a.accepted in
      let groups-same : g ≡ g' = a.done_is ∙ sym b.done_is in
      let crossed-same : c ≡ c' = a.crossed_is ∙ ap (λ n. length lost * (l.helpers * n)) groups-same ∙ sym b.crossed_is in
      let toCome-same : t ≡ t' = a.remaining_is ∙ ap (λ n. length lost * (l.helpers * (groups l - (first + n)))) groups-same ∙ sym b.remaining_is in (
        (λ i. Done (groups-same i) (crossed-same i) (toCome-same i)),
        same_piece f l lost shares shares' host host' first budget alike helpers old new new' (solvable W l made.adm) made.losses g a.done_is made.first_in made.spare_long
            a.piece (rw groups-same b.piece),
      )

  pub piece_looks : (r r' : Repaired) → RepairAnswer f l lost helpers shares host first budget old new r →
      RepairAnswer f l lost helpers shares' host' first budget old new' r' → (r ≡ r') × (new ≡ new')
  piece_looks (Done g c t) (Done g' c' t') p q = both_done g c t g' c' t' p q
  piece_looks (Done g c t) (Refused e) p q =
      absurd (omega (arith, p.accepted, ground_same f l lost shares shares' host host' first budget alike helpers (length old), q.0, q.1))
  piece_looks (Refused e) (Done g c t) p q =
      absurd (omega (arith, q.accepted, ground_same f l lost shares shares' host host' first budget alike helpers (length old), p.0, p.1))
  piece_looks (Refused e) (Refused e') p q =
      (ap Refused (p.0 ∙ ground_same f l lost shares shares' host host' first budget alike helpers (length old) ∙ sym q.0), p.2 ∙ sym q.2)

-- the lost trays' symbols in the host rack are not looked at
pub others_groups : (l : Layout) (lost shares host host' : List ℕ) (first n : ℕ) → length host ≡ length host' → OthersAlike l lost host host' →
    GroupsAlike l lost shares shares host host' first n
others_groups l lost shares host host' first n long alike =
    record { shares_long = refl; host_long = long; sent = λ i p hi low high. refl; sound = λ g j hg hj low high a. alike g j hg hj a }

-- ---- a repair by card
module _ {A : Type 0} {f : Field A} (W : Working f) (l : Layout) (x : ℕ) (helpers card shares shares' host host' : List ℕ) (group : ℕ)
    (alike : GroupsAlike l (x ∷ []) shares shares' host host' group 1) where
  fewer : GroupsAlike l (x ∷ []) shares shares' host host' group (min 1 (groups l - group))
  fewer = record {
    shares_long = alike.shares_long;
    host_long = alike.host_long;
    sent = λ i p hi low high. alike.sent i p hi low (omega (arith, high));
    sound = λ g j hg hj low high a. alike.sound g j hg hj low (omega (arith, high)) a;
  }

  card_ground_lem : (room : ℕ) → repair_ground f l x helpers group card shares host room ≡ repair_ground f l x helpers group card shares' host' room
  unfolding repair_ground
  card_ground_lem room = simp (alike.shares_long, alike.host_long, seen_same f l (x ∷ []) shares shares' host host' group 1 fewer)

  module _ (old new new' : List ℕ) where
    one_ground : (a b : ℕ) → Judged (repair_ground f l x helpers group card shares host (length old)) (Right f l x helpers group card) a →
        Judged (repair_ground f l x helpers group card shares' host' (length old)) (Right f l x helpers group card) b → a ≡ b
    one_ground a b p q = judged_unique _ a b p (subst (λ n. Judged n (Right f l x helpers group card) b) (sym (card_ground_lem (length old))) q)

    pub card_looks : (r r' : Repaired) → CardAnswer f l x helpers card shares host group old new r → CardAnswer f l x helpers card shares' host' group old new' r' →
        (r ≡ r') × (new ≡ new')
    card_looks (Done g c t) (Done g' c' t') p q =
        piece_looks W l (x ∷ []) helpers shares shares' host host' group 1 fewer old new new' (Done g c t) (Done g' c' t') p.piece q.piece
    card_looks (Done g c t) (Refused e) p q = absurd (omega (arith, one_ground 0 e p.accepted q.refused, q.reason))
    card_looks (Refused e) (Done g c t) p q = absurd (omega (arith, one_ground e 0 p.refused q.accepted, p.reason))
    card_looks (Refused e) (Refused e') p q = (ap Refused (one_ground e e' p.refused q.refused), p.kept ∙ sym q.kept)

-- ---- the repair with E = 1
module _ {A : Type 0} (f : Field A) (l : Layout) (x : ℕ) (helpers shares host host' : List ℕ) (long : length host ≡ length host') (alike : OthersAlike l (x ∷ []) host host') where
  only_one : (k : ℕ) → k < 1 → get_or (x ∷ []) k 0 ≡ x
  only_one zero hk = refl
  only_one (suc k) hk = absurd (omega arith)

  other : (g j : ℕ) → g < l.size → j < layers l → ¬ (g ≡ x % l.size) → get_or host (g * layers l + j) 0 ≡ get_or host' (g * layers l + j) 0
  other g j hg hj d = alike g j hg hj (sym (absent_true (x ∷ []) (x / l.size * l.size + g) (λ k hk e.
      d (sym (ap (λ y. y % l.size) (sym (only_one k hk) ∙ e) ∙ digits_mod (x / l.size) hg)))))

  rest_same : (j : ℕ) → j < layers l → sound_sum f l x host' j ≡ sound_sum f l x host j
  unfolding sound_sum symbol_at choose
  rest_same j hj = sum_congr f.ops l.size _ _ (λ g hg. go g hg (ℕ_discrete g (x % l.size)))
    where
      go : (g : ℕ) → g < l.size → Dec (g ≡ x % l.size) → choose (eqb g (x % l.size)) f.ops.zero (f.coding.elem (get_or host' (g * layers l + j) 0))
          ≡ choose (eqb g (x % l.size)) f.ops.zero (f.coding.elem (get_or host (g * layers l + j) 0))
      go g hg (yes e) =
          let at : (y : A) → choose (eqb g (x % l.size)) f.ops.zero y ≡ choose true f.ops.zero y = λ y. ap (λ b. choose b f.ops.zero y) (eq-eqb g (x % l.size) e) in
          at _ ∙ sym (at _)
      go g hg (no d) = ap (λ y. choose (eqb g (x % l.size)) f.ops.zero (f.coding.elem y)) (sym (other g j hg hj d))

  looks_same : AdmissibleWith f.order 1 l → seen_symbols f l x shares host ≡ seen_symbols f l x shares host'
  unfolding seen_symbols symbols_from
  looks_same a = ap₂ (λ s t. symbols_from f shares 0 (length shares) && s && t)
      (all_same _ _ (x % l.size * layers l) (λ k hk. ap (λ y. ltb y f.coding.size) (before k hk)))
      (all_same _ _ ((l.size - (x % l.size + 1)) * layers l) (λ k hk. ap (λ y. ltb y f.coding.size) (behind k hk)))
    where
      pos : 0 < layers l
      pos = (bounds l a.admissible.cabinet).layers_low

      place_in : x % l.size < l.size
      place_in = mod-lt x (bounds l a.admissible.cabinet).size_low

      before : (k : ℕ) → k < x % l.size * layers l → get_or host (0 + k) 0 ≡ get_or host' (0 + k) 0
      before k hk =
          let g : k / layers l < x % l.size = (div-lt_iff_lt-mul pos).1 hk in
          subst (λ n. get_or host n 0 ≡ get_or host' n 0) (div-add-mod' k (layers l) ∙ sym (zero-add k))
          (other (k / layers l) (k % layers l) (let p = place_in in omega arith) (mod-lt k pos) (λ e. omega arith))

      behind : (k : ℕ) → k < (l.size - (x % l.size + 1)) * layers l → get_or host ((x % l.size + 1) * layers l + k) 0 ≡ get_or host' ((x % l.size + 1) * layers l + k) 0
      behind k hk =
          let g : k / layers l < l.size - (x % l.size + 1) = (div-lt_iff_lt-mul pos).1 hk in
          subst (λ n. get_or host n 0 ≡ get_or host' n 0)
          (ap (λ n. n + k % layers l) (add-mul (x % l.size + 1) (k / layers l) (layers l)) ∙ add_assoc ((x % l.size + 1) * layers l) _ _
          ∙ ap (λ n. (x % l.size + 1) * layers l + n) (div-add-mod' k (layers l)))
          (other (x % l.size + 1 + k / layers l) (k % layers l) (let p = place_in in omega arith) (mod-lt k pos) (λ e. omega arith))

  whole_ground : (room : ℕ) → correcting_refusal f l x helpers shares host room ≡ correcting_refusal f l x helpers shares host' room
  unfolding correcting_refusal
  whole_ground room = go (admissible_with f.order 1 l) refl
    where
      go : (t : Bool) → admissible_with f.order 1 l ≡ t → correcting_refusal f l x helpers shares host room ≡ correcting_refusal f l x helpers shares host' room
      go true e = unfold correcting_refusal in simp (long, looks_same (with_facts f.order 1 l e))
      go false e = unfold correcting_refusal in simp e

  -- an answer with the second host rack is one with the first
  as_first : (old new : List ℕ) (r : Corrected) → CorrectingAnswer f l x helpers shares host' old new r → CorrectingAnswer f l x helpers shares host old new r
  as_first old new (Whole rack c) q = record {
    accepted = whole_ground (length old) ∙ q.accepted;
    crossed_is = q.crossed_is;
    long = q.long;
    settled = record {
      meant = q.settled.meant;
      named = q.settled.named;
      hold = q.settled.hold;
      tray = λ j hj. q.settled.tray j hj ∙ ap (λ y. f.coding.val (f.ops.add (q.settled.hold.sums (group_at l x j) (x / l.size) j) (f.ops.neg y))) (rest_same j hj);
    };
  }
  as_first old new (NotWhole e) q = record {
    reason = q.reason;
    refused = λ d. q.refused (λ z. d (whole_ground (length old) ∙ z)) ∙ sym (whole_ground (length old));
    last = λ z. q.last (sym (whole_ground (length old)) ∙ z);
    kept = q.kept;
  }

pub correcting_looks : {A : Type 0} {f : Field A} (W : Working f) (l : Layout) (x : ℕ) (helpers shares host host' : List ℕ) → length host ≡ length host' →
    OthersAlike l (x ∷ []) host host' → (old new new' : List ℕ) (r r' : Corrected) →
    CorrectingAnswer f l x helpers shares host old new r → CorrectingAnswer f l x helpers shares host' old new' r' → (r ≡ r') × (new ≡ new')
correcting_looks {f = f} W l x helpers shares host host' long alike old new new' r r' p q =
    correcting_unique W l x helpers shares host old new new' r r' p (as_first f l x helpers shares host host' long alike old new' r' q)

-- ---- a walk
count_same : (p q : ℕ → Bool) (a k : ℕ) → ((i : ℕ) → a ≤ i → i < a + k → p i ≡ q i) → bad_count p a k ≡ bad_count q a k
unfolding bad_count
count_same p q a zero same = refl
count_same p q a (suc k) same = ap₂ (λ t n. cond t 1 0 + n) (same a (omega arith) (omega arith)) (count_same p q (a + 1) k (λ i low high. same i (omega arith) (omega arith)))

least_same : (p q : ℕ → Bool) (a e k : ℕ) → ((i : ℕ) → a ≤ i → i < a + k → p i ≡ q i) → least_bad p a e k ≡ least_bad q a e k
unfolding least_bad
least_same p q a e zero same = refl
least_same p q a e (suc k) same = ap₂ (λ t n. cond t a n) (same a (omega arith) (omega arith)) (least_same p q (a + 1) e k (λ i low high. same i (omega arith) (omega arith)))

module _ {A : Type 0} (f : Field A) (l : Layout) (c c' : List ℕ) where
  bad_same : (j : ℕ) → LayerAlike l c c' j → bad_layer f l c j ≡ bad_layer f l c' j
  unfolding bad_layer
  bad_same j same = ap not (all_same _ _ (checks l) (λ t ht. ap (λ y. eqb (f.coding.val y) (f.coding.val f.ops.zero)) (check_layer f l c c' j t same)))

  pub walk_looks : (w : Walk) (budget : ℕ) → length c ≡ length c' → ((i : ℕ) → w.next ≤ i → i < w.next + min budget (layers l - w.next) → LayerAlike l c c' i) →
      scrubbed f l c w budget ≡ scrubbed f l c' w budget
  unfolding scrubbed scrub_refusal after
  walk_looks w budget long alike =
      let k = step_layers (layers l) w budget in
      let same : (i : ℕ) → w.next ≤ i → i < w.next + k → bad_layer f l c i ≡ bad_layer f l c' i = λ i low high. bad_same i (alike i low high) in
      simp (long, steps_same, count_same (bad_layer f l c) (bad_layer f l c') w.next k same, least_same (bad_layer f l c) (bad_layer f l c') w.next w.first k same)
    where
      steps_same : step_symbols f l c w budget ≡ step_symbols f l c' w budget
      steps_same = unfold step_symbols symbol_rows symbols_from in all_same _ _ (trays l) (λ r hr. all_same _ _ (step_layers (layers l) w budget) (λ k hk.
          let e : r * layers l + (w.next + k) ≡ r * layers l + w.next + k = omega arith in
          ap (λ y. ltb y f.coding.size) (subst (λ i. get_or c i 0 ≡ get_or c' i 0) e (alike (w.next + k) (omega arith) (omega arith) r hr))))

-- ---- a test, rooms, and calls with e = 0
module _ {A : Type 0} (f : Field A) (l : Layout) where
  pub test_looks : (c : List ℕ) → admissible f.order l ≡ true → length c ≡ trays l * layers l → (test_refusal f l c ≡ 3) ↔ (¬ (InRange f.coding c))
  test_looks c a long = (
    λ e range. not_three (test_refusal f l c) (is true (sym (below_true c f.coding.size range.at))) e,
    λ out. is false (sym (not_true_false (all_below c f.coding.size) (λ t. out (record { at = below_all c f.coding.size t })))),
  )
    where
      not_three : (n : ℕ) → n ≡ 0 → n ≡ 3 → ⊥
      not_three n z e = omega (arith, z, e)

      is : (t : Bool) → all_below c f.coding.size ≡ t → test_refusal f l c ≡ cond t 0 3
      is t e = unfold test_refusal in simp (a, eq-eqb _ _ long, e)

  pub share_room : (e h i : ℕ) (rack out out' : List ℕ) → length out ≡ length out' → shares_refusal f l e h i rack (length out) ≡ 0 →
      shares_buffer f l e h i rack out ≡ shares_buffer f l e h i rack out'
  share_room e h i rack out out' long z =
      sym (buffer_done f l e h i rack out z) ∙ buffer_done f l e h i rack out' (ap (shares_refusal f l e h i rack) (sym long) ∙ z)

  none_fits : lost_count_fits l 0 ≡ false
  unfolding lost_count_fits
  none_fits = refl

  pub none_shared : (h i : ℕ) (rack rack' : List ℕ) (room : ℕ) → length rack ≡ length rack' →
      (many_refusal f l 0 h i rack room ≡ many_refusal f l 0 h i rack' room) × Refuses (many_refusal f l 0 h i rack room)
  unfolding many_refusal
  none_shared h i rack rack' room long = (
    simp long,
    λ e.
        let fit = passed (admissible_with f.order 0 l) 1 _ (omega arith) e in
        let lengths = passed (eqb (length rack) (l.size * layers l) && eqb room (0 * groups l)) 2 _ (omega arith) fit.1 in
        let inside = passed (ltb h l.racks && ltb i l.racks && true) 3 _ (omega arith) lengths.1 in
        let few = passed (lost_count_fits l 0) 12 _ (omega arith) inside.1 in
        false≢true (sym none_fits ∙ few.0),
  )

  pub none_fed : (h x : ℕ) (tray tray' held held' : List ℕ) → length tray ≡ length tray' → length held ≡ length held' →
      (add_many_refusal f l 0 h x tray held ≡ add_many_refusal f l 0 h x tray' held') × Refuses (add_many_refusal f l 0 h x tray held)
  unfolding add_many_refusal
  none_fed h x tray tray' held held' long held-long = (
    simp (long, held-long),
    λ e.
        let fit = passed (admissible_with f.order 0 l) 1 _ (omega arith) e in
        let lengths = passed (eqb (length tray) (layers l) && eqb (length held) (0 * groups l)) 2 _ (omega arith) fit.1 in
        let inside = passed (ltb h l.racks && ltb x (trays l) && true) 3 _ (omega arith) lengths.1 in
        let few = passed (lost_count_fits l 0) 12 _ (omega arith) inside.1 in
        false≢true (sym none_fits ∙ few.0),
  )

  pub none_lost : (helpers shares shares' host host' : List ℕ) (room first budget : ℕ) → length shares ≡ length shares' → length host ≡ length host' →
      (repair_refusal f l [] helpers shares host room first budget ≡ repair_refusal f l [] helpers shares' host' room first budget)
      × Refuses (repair_refusal f l [] helpers shares host room first budget)
  none_lost helpers shares shares' host host' room first budget long host_long = (same, λ e. none (repairable f l [] helpers shares host room first budget e).losses.some)
    where
      same : repair_refusal f l [] helpers shares host room first budget ≡ repair_refusal f l [] helpers shares' host' room first budget
      same = unfold repair_refusal piece_symbols in simp (long, host_long)

      none : 0 < 0 → ⊥
      none h = omega arith

pub print_room : {A : Type 0} {f : Field A} (W : Working f) (l : Layout) (x : ℕ) (helpers : List ℕ) (group : ℕ) (old old' new new' : List ℕ) (e e' : ℕ) → length old ≡ length old' →
    PrintAnswer f l x helpers group old new e → PrintAnswer f l x helpers group old' new' e' → (e ≡ e') × (e ≡ 0 → new ≡ new')
print_room {f = f} W l x helpers group old old' new new' e e' long p q = (
  same,
  λ z.
      tested_printed W l x helpers group old' new' (subst (PrintAnswer f l x helpers group old' new') (sym same ∙ z) q) new
      (printed_tested W l x helpers group old new (subst (PrintAnswer f l x helpers group old new) z p)),
)
  where
    same : e ≡ e'
    same = p.reason ∙ ap (print_ground f l x helpers group) long ∙ sym q.reason
