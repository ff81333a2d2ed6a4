-- What the contracts of shares and repair settle: the answer and every byte; and that a lost tray of a word comes back exactly.
-- Assumes nothing.
use mathlib.Core.Path.{◌≡◌, refl, sym, ap, ap₂, ◌∙◌, subst}
use mathlib.Core.Bool.{Bool, true, cond, ◌&&◌}
use mathlib.Core.List.{List, [], ◌∷◌}
use Prim.Native.Nat.{ℕ, zero, suc, ◌+◌, ◌*◌, ◌/◌, ◌%◌, ◌<◌}
use native.Mathlib.Nat.{div-add-mod'}
use native.Mathlib.Decide.{ℕ_discrete}
use native.Mathlib.Omega.{arith}
use lib.Dec.{eqb, ltb}
use lib.ListN.{length, get_or, set, length-set}
use lib.Seq.{ext_get_or, get_or-set_same, get_or-set_other}
use Rattle.lists.specs.Lists.{unless, all_below, strictly_rising, absent}
use Rattle.lists.proofs.Bools.{all_same}
use Rattle.lists.proofs.Numbered.{below_all, below_true}
use Rattle.algebra.specs.Sum.{sum}
use Rattle.algebra.proofs.Sum.{sum_congr}
use Rattle.nibble.specs.Elem.{elem, ops}
use Rattle.nibble.proofs.Elem.{val_elem}
use Rattle.box_words.specs.Box.{trays, racks, size, helpers, Word}
use Rattle.box_words.proofs.Words.{word_symbol}
use Rattle.box_repair.specs.Share.{rack_of, Top, ShareAnswer}
use Rattle.box_repair.specs.Repair.{others_below, repair_refusal, RepairAnswer, Sent}
use Rattle.box_repair.specs.declared.Repaired.{Repaired}
use Rattle.box_repair.specs.Inner.{sum_of, other_below}
use Rattle.box_repair.proofs.Tops.{top_only, top_symbol, top_is, tops_equal, word_sum, word_top}
use Rattle.box_repair.proofs.Steps.{below_lost, below_kept, sound_others}
use Rattle.box_repair.proofs.Grounds.{sharable, repairable, fit_rack, helper_0, repair_rest}
use Rattle.box_repair.proofs.Answers.{place_in, host_in}

-- ---- a share

module _ (host helper : ℕ) (vs old : List ℕ) where
  -- the contract settles the answer and the room
  pub share_unique : (new new' : List ℕ) (n n' : ℕ) → ShareAnswer host helper vs old new n → ShareAnswer host helper vs old new' n' → (n ≡ n') × (new ≡ new')
  share_unique new new' n n' p p' = (same, go (ℕ_discrete n 0))
    where
      same : n ≡ n'
      same = p.answer ∙ sym p'.answer

      go : Dec (n ≡ 0) → new ≡ new'
      go (no q) = p.unchanged q ∙ sym (p'.unchanged (λ z. q (same ∙ z)))
      go (yes e) =
          let a = p.done e in
          let b = p'.done (sym same ∙ e) in
          let h = (sharable host helper vs (length old) (sym p.answer ∙ e)).helper_in in
          a.is ∙ ap (λ (s : ℕ). s ∷ []) (top_only helper vs a.share h a.top ∙ sym (top_only helper vs b.share h b.top)) ∙ sym b.is

-- ---- a repair

-- two racks are alike but for the lost tray's place
pub record AlikeBut (place : ℕ) (rack rack' : List ℕ) : Type 0 where
  pub long : length rack ≡ length rack'
  pub same : (g : ℕ) → g < size → ¬ (g ≡ place) → get_or rack g 0 ≡ get_or rack' g 0

module _ (lost : ℕ) (hs shares old : List ℕ) where
  below_same : (place : ℕ) (rack rack' : List ℕ) → AlikeBut place rack rack' → others_below place rack ≡ others_below place rack'
  unfolding others_below other_below
  below_same place rack rack' s = all_same _ _ size (λ g h. go g h (ℕ_discrete g place))
    where
      go : (g : ℕ) → g < size → Dec (g ≡ place) → other_below place rack g ≡ other_below place rack' g
      go g h (yes e) = sym (below_lost place rack g e) ∙ below_lost place rack' g e
      go g h (no d) = sym (below_kept place rack g d) ∙ ap (λ n. ltb n 16) (s.same g h d) ∙ below_kept place rack' g d

  refusal_same : (rack rack' : List ℕ) → AlikeBut (lost % size) rack rack' → repair_refusal lost hs shares rack (length old) ≡ repair_refusal lost hs shares rack' (length old)
  unfolding repair_refusal
  refusal_same rack rack' s =
      ap₂ (λ (n : ℕ) (b : Bool).
      unless (eqb (length shares) helpers && eqb n size && eqb (length old) 1) 2
      (unless (ltb lost trays && all_below hs racks && all_below shares 16 && b) 3
      (unless (strictly_rising hs) 4 (unless (eqb (length hs) helpers) 5 (unless (absent hs (lost / size)) 6 (unless (eqb (get_or shares 0 0) (get_or shares 1 0)) 8 0))))))
      s.long (below_same (lost % size) rack rack' s)

  set_same : (rack rack' : List ℕ) (v : ℕ) → length rack ≡ size → AlikeBut (lost % size) rack rack' → set rack (lost % size) v ≡ set rack' (lost % size) v
  set_same rack rack' v long s = ext_get_or 0 _ _ (length-set rack (lost % size) v ∙ s.long ∙ sym (length-set rack' (lost % size) v))
      (λ g h. go g (omega (arith, length-set rack (lost % size) v)) (ℕ_discrete g (lost % size)))
    where
      go : (g : ℕ) → g < size → Dec (g ≡ lost % size) → get_or (set rack (lost % size) v) g 0 ≡ get_or (set rack' (lost % size) v) g 0
      go g h (yes e) =
          ap (λ k. get_or (set rack (lost % size) v) k 0) e ∙ get_or-set_same rack (lost % size) v 0 (omega (arith, place_in lost))
          ∙ sym (ap (λ k. get_or (set rack' (lost % size) v) k 0) e ∙ get_or-set_same rack' (lost % size) v 0 (omega (arith, place_in lost, s.long)))
      go g h (no d) = get_or-set_other rack (lost % size) g v 0 d ∙ s.same g h d ∙ sym (get_or-set_other rack' (lost % size) g v 0 d)

  -- two repairs whose racks are alike but for the lost tray's place answer the same and leave the same bytes: its old value is never looked at
  pub old_value_unread : (rack rack' new new' : List ℕ) (r r' : Repaired) → AlikeBut (lost % size) rack rack' →
      RepairAnswer lost hs shares rack old new r → RepairAnswer lost hs shares rack' old new' r' →
      (r.refusal ≡ r'.refusal) × (r.crossed ≡ r'.crossed) × (new ≡ new')
  old_value_unread rack rack' new new' r r' s p p' = (number, p.crossed ∙ ap (λ (n : ℕ). cond (eqb n 0) helpers 0) number ∙ sym p'.crossed, go (ℕ_discrete r.refusal 0))
    where
      number : r.refusal ≡ r'.refusal
      number = p.answer ∙ refusal_same rack rack' s ∙ sym p'.answer

      go : Dec (r.refusal ≡ 0) → new ≡ new'
      go (no q) = p.unchanged q ∙ sym (p'.unchanged (λ z. q (number ∙ z)))
      go (yes e) =
          let a = p.done e in
          let b = p'.done (sym number ∙ e) in
          let long = (repairable lost hs shares rack (length old) (sym p.answer ∙ e)).sound.long in
          a.is ∙ ap (λ (v : ℕ). v ∷ []) (b.only a.value a.symbol (subst (λ l. Top (lost / size) l (get_or shares 0 0)) (set_same rack rack' a.value long s) a.top)) ∙ sym b.is

  -- the contract settles the answer, the symbols crossed and the spare
  pub repair_unique : (rack new new' : List ℕ) (r r' : Repaired) → RepairAnswer lost hs shares rack old new r → RepairAnswer lost hs shares rack old new' r' →
      (r.refusal ≡ r'.refusal) × (r.crossed ≡ r'.crossed) × (new ≡ new')
  repair_unique rack new new' r r' = old_value_unread rack rack new new' r r' (record { long = refl; same = λ g h d. refl })

-- ---- a word's lost tray comes back

module _ (c : List ℕ) (lost : ℕ) (hs shares rack old new : List ℕ) (r : Repaired) (p : RepairAnswer lost hs shares rack old new r)
    (shares_long : length shares ≡ helpers) (rack_long : length rack ≡ size) (room : length old ≡ 1) (lost_in : lost < trays) (below : all_below hs racks ≡ true)
    (rising : strictly_rising hs ≡ true) (two : length hs ≡ helpers) (away : absent hs (lost / size) ≡ true) (s : Sent c lost hs shares rack) where
  helper_in : (k : ℕ) → k < 2 → get_or hs k 0 < racks
  helper_in k h = below_all hs racks below k (omega arith)

  sent : (k : ℕ) → k < 2 → Top (get_or hs k 0) (rack_of (get_or hs k 0) c) (get_or shares k 0)
  sent k h = s.sent k (omega arith)

  symbol_at_lem : (x : ℕ) → x < trays → get_or c x 0 < 16
  symbol_at_lem x h = subst (λ l. get_or l x 0 < 16) (sym s.word.is) (word_symbol s.word.coefficients x h)

  host : lost / size < racks
  host = host_in lost lost_in

  in_rack : (g : ℕ) → g < size → lost / size * size + g < trays
  in_rack g h = omega (arith, host)

  accepted : r.refusal ≡ 0
  accepted = p.answer ∙ sym (repair_rest lost hs shares rack (length old) shares_long rack_long room 0
      (sym (fit_rack lost hs shares rack lost_in below true
      (sym (below_true shares 16 (λ k h. top_symbol _ _ _ (sent k (omega arith)))))
      (sym (sound_others (lost % size) rack (λ g h d. subst (λ n. n < 16) (sym (s.sound g h d)) (symbol_at_lem _ (in_rack g h)))))))
      (helper_0 lost hs shares rising two away (tops_equal c s.word _ _ _ _ (helper_in 0 (omega arith)) (helper_in 1 (omega arith)) (sent 0 (omega arith)) (sent 1 (omega arith)))))

  -- with the word's value in its place the host rack has the helpers' top coefficient
  true_top : Top (lost / size) (set rack (lost % size) (get_or c lost 0)) (get_or shares 0 0)
  true_top = top_is (lost / size) host _ (get_or shares 0 0) (
      sym (ap (λ e. e.val) (sum_is ∙ word_sum c s.word (lost / size) host
      ∙ sym (word_top c s.word (get_or hs 0 0) (get_or shares 0 0) (helper_in 0 (omega arith)) (sent 0 (omega arith)))) ∙ value_elem))
    where
      value_elem : (elem (get_or shares 0 0)).val ≡ get_or shares 0 0
      value_elem = val_elem (get_or shares 0 0) (top_symbol _ _ _ (sent 0 (omega arith)))

      at : (g : ℕ) → g < size → Dec (g ≡ lost % size) → get_or (set rack (lost % size) (get_or c lost 0)) g 0 ≡ get_or c (lost / size * size + g) 0
      at g h (yes e) =
          ap (λ k. get_or (set rack (lost % size) (get_or c lost 0)) k 0) e ∙ get_or-set_same rack (lost % size) (get_or c lost 0) 0 (omega (arith, place_in lost))
          ∙ ap (λ k. get_or c k 0) (sym (div-add-mod' lost size) ∙ ap (λ k. lost / size * size + k) (sym e))
      at g h (no d) = get_or-set_other rack (lost % size) g (get_or c lost 0) 0 d ∙ s.sound g h d

      sum_is : sum_of (set rack (lost % size) (get_or c lost 0)) ≡ sum ops size (λ g. elem (get_or c (lost / size * size + g) 0))
      sum_is = unfold sum_of in sum_congr ops size _ _ (λ g h. ap elem (at g h (ℕ_discrete g (lost % size))))

  -- the lost tray of a word comes back exactly, and two symbols cross
  pub repair_exact : (r.refusal ≡ 0) × (r.crossed ≡ 2) × (new ≡ get_or c lost 0 ∷ [])
  repair_exact =
      let a = p.done accepted in
      (accepted, p.crossed ∙ ap (λ (n : ℕ). cond (eqb n 0) helpers 0) accepted, a.is ∙ ap (λ (v : ℕ). v ∷ []) (sym (a.only (get_or c lost 0) (symbol_at_lem lost lost_in) true_top)))

-- what two share calls left is what the repair of a word asks for
pub sent_by_calls : (c rack old₁ old₂ new₁ new₂ : List ℕ) (lost i j n₁ n₂ : ℕ) → Word c →
    ShareAnswer (lost / size) i (rack_of i c) old₁ new₁ n₁ → ShareAnswer (lost / size) j (rack_of j c) old₂ new₂ n₂ →
    n₁ ≡ 0 → n₂ ≡ 0 → ((g : ℕ) → g < size → ¬ (g ≡ lost % size) → get_or rack g 0 ≡ get_or c (lost / size * size + g) 0) →
    Sent c lost (i ∷ j ∷ []) (get_or new₁ 0 0 ∷ get_or new₂ 0 0 ∷ []) rack
sent_by_calls c rack old₁ old₂ new₁ new₂ lost i j n₁ n₂ w p q e f sound = record { word = w; sent = sent; sound = sound }
  where
    first : Top i (rack_of i c) (get_or new₁ 0 0)
    first = let a = p.done e in subst (Top i (rack_of i c)) (sym (ap (λ l. get_or l 0 0) a.is)) a.top

    second : Top j (rack_of j c) (get_or new₂ 0 0)
    second = let a = q.done f in subst (Top j (rack_of j c)) (sym (ap (λ l. get_or l 0 0) a.is)) a.top

    sent : (k : ℕ) → k < 2 → Top (get_or (i ∷ j ∷ []) k 0) (rack_of (get_or (i ∷ j ∷ []) k 0) c) (get_or (get_or new₁ 0 0 ∷ get_or new₂ 0 0 ∷ []) k 0)
    sent zero h = first
    sent (suc zero) h = second
    sent (suc (suc k)) h = absurd (omega arith)
