-- The repair of one lost tray: the case e = 1 of the repair of several, in document 01's terms.
-- Assumes nothing.
use mathlib.Core.Path.{◌≡◌, refl, sym, ◌∙◌, ap, ap₂, subst}
use mathlib.Core.Bool.{Bool, true, false, ◌&&◌}
use mathlib.Core.List.{List, [], ◌∷◌}
use Prim.Native.Nat.{ℕ, ◌+◌, ◌-◌, ◌*◌, ◌/◌, ◌<◌, ◌≤◌}
use native.Mathlib.Decide.{dec_lt}
use native.Mathlib.Nat.{one-mul, mod-lt, mod-eq_of_lt}
use native.Mathlib.Omega.{arith}
use lib.Dec.{eqb, leb, ltb}
use lib.ListN.{length, get_or, take, drop}
use borrow.Author.Tests.{eq-eqb}
use Rattle.lists.specs.Lists.{all, unless, all_below, strictly_rising, absent}
use Rattle.algebra.specs.Shape.{Field}
use Rattle.algebra.specs.Plain.{Working}
use Rattle.layout.specs.declared.Layout.{Layout}
use Rattle.layout.specs.Layout.{trays, layers, groups, traffic, admissible_with, lost_count_fits, AdmissibleWith}
use Rattle.layout.proofs.Facts.{size_pos, with_facts, fits}
use Rattle.codeword.specs.Codeword.{Solvable}
use Rattle.codeword.proofs.Usable.{solvable}
use Rattle.rule.specs.Rule.{rack_part, tray_part, Helpers, group_at, shared_symbol}
use Rattle.rule.specs.Lost.{lost_place, sent_symbol}
use Rattle.rule.proofs.Single.{front, zero_is, sent_is, one_lost, one_loss, one_part}
use Rattle.share.proofs.Refusals.{many_done}
use Rattle.share.proofs.Weights.{one_buffer}
use Rattle.repair.specs.declared.Repaired.{Repaired}
use Rattle.repair.specs.declared.Repaired.TheVariants.{Done}
use Rattle.grounds.specs.Grounds.{one_rack}
use Rattle.seen.specs.Seen.{piece_symbols}
use Rattle.repair.specs.Repair.{repair_refusal, report, RepairAnswer}
use Rattle.repair.specs.Calls.{Calls, DoneCall, Does}
use Rattle.repair.specs.Exact.{Sent, Called}
use Rattle.repair.specs.One.{OthersAlike, OneDone, CutOne, CalledOne}
use Rattle.repair.proofs.Cutting.{cutting, done_long, same_group}
use Rattle.repair.proofs.Exact.{repair_exact, sent_by_calls}

module _ {A : Type 0} {f : Field A} (W : Working f) (l : Layout) (adm : AdmissibleWith f.order 0 l) (x : ℕ) (helpers shares host : List ℕ) where
  abbrev ok : Solvable f l
  ok = solvable W l adm

  pub one_done : (first budget : ℕ) (old new : List ℕ) (g c t : ℕ) → RepairAnswer f l (x ∷ []) helpers shares host first budget old new (Done g c t) →
      OneDone f l x helpers shares host first budget old new g c t
  one_done first budget old new g c t r = record {
    done_is = r.done_is;
    crossed_is = r.crossed_is ∙ one-mul (l.helpers * g);
    to_come_is = r.remaining_is ∙ one-mul (l.helpers * (groups l - (first + g)));
    long = r.piece.long;
    ruled = λ p h k. one_lost f l ok.usable x helpers shares host p new (r.piece.done p h k);
    kept = λ j h out. subst (λ n. get_or new n 0 ≡ get_or old n 0) (front (layers l) j) (r.piece.kept 0 (omega arith) j h out);
  }

  -- the cutting claim for one lost tray: the case e = 1
  pub cutting_one : Helpers l x helpers → (start : List ℕ) → {G crossed to_come : ℕ} {spare : List ℕ} →
      Calls f l (x ∷ []) helpers shares host start G crossed to_come spare → CutOne f l x helpers shares host start G crossed to_come spare
  cutting_one help start {G} {crossed} {to_come} {spare} calls =
      let given = one_loss f l ok x helpers help in
      let cut = cutting W l adm (x ∷ []) helpers given shares host start calls in
      record {
        within = cut.within;
        long = cut.long;
        ruled = λ p h. one_lost f l ok.usable x helpers shares host p spare (cut.ruled p h);
        uncut = λ other one j h k. subst (λ n. get_or spare n 0 ≡ get_or one.written n 0) (front (layers l) j) (cut.uncut other one 0 (omega arith) j h k);
        uncut_is = λ es eh range sound other eo. cut.uncut_is (es ∙ sym (one-mul (traffic l))) eh range sound other (eo ∙ sym (one-mul (layers l)));
        kept = λ j h out. elim (dec_lt 0 G) [
          | yes k ↦
              let long = done_long W l adm (x ∷ []) helpers given shares host start calls k ∙ one-mul (layers l) in
              cut.kept j h (subst (λ n. ¬ (group_at l x n < G)) (sym (mod-eq_of_lt (omega (arith, h, cut.long, long)))) out)
          | no k ↦ cut.kept j h (λ w. k (omega arith))
        ];
        whole = λ e c of. cut.whole e c of ∙ one_part f l ok x helpers help c of.codeword.long;
        crossed_is = cut.crossed_is ∙ one-mul (l.helpers * G);
        to_come_is = cut.to_come_is ∙ one-mul (l.helpers * (groups l - G));
        adds_up = cut.adds_up ∙ one-mul (traffic l);
      }

  -- the lost tray comes back exactly
  pub exact_one : (c : List ℕ) → Sent f l (x ∷ []) helpers shares host c → (budget : ℕ) → groups l ≤ budget → (spare new : List ℕ) → length spare ≡ layers l →
      (answer : Repaired) → RepairAnswer f l (x ∷ []) helpers shares host 0 budget spare new answer →
      ((report answer).refusal ≡ 0) × ((report answer).crossed ≡ traffic l) × (new ≡ tray_part l c x)
  exact_one c s budget enough spare new el answer r =
      let whole = repair_exact W l adm (x ∷ []) helpers shares host c s budget enough spare new (el ∙ sym (one-mul (layers l))) answer r in (
        whole.0,
        whole.1 ∙ one-mul (traffic l),
        whole.2 ∙ one_part f l ok x helpers s.setting.losses.help c s.setting.codeword.long,
      )

  -- what the share calls left for one tray
  called_one : (c : List ℕ) → CalledOne f l x helpers shares host c → Called f l (x ∷ []) helpers shares host c
  unfolding lost_place
  called_one c s = record {
    setting = record {
      codeword = s.codeword;
      losses = one_loss f l ok x helpers s.chosen;
      shares_long = s.shares_long ∙ sym (one-mul (traffic l));
      host_long = s.host_long;
      host_range = s.host_range;
      sound = λ j hj g hg out. s.sound j hj g hg (out 0 (omega arith));
    };
    room = s.room;
    share = λ k hk.
        ap (λ n. take n (drop (k * n) shares)) (one-mul (groups l)) ∙ s.share k hk
        ∙ sym (one_buffer f l W (x / l.size) (get_or helpers k 0) (rack_part l c (get_or helpers k 0)) (s.room k))
        ∙ (many_done f l 1 (x / l.size) (get_or helpers k 0) (rack_part l c (get_or helpers k 0)) (s.room k) _ _ adm.errors_are refl refl).1;
  }

  -- and from what the share calls left
  pub exact_one_by_calls : (c : List ℕ) → CalledOne f l x helpers shares host c → (budget : ℕ) → groups l ≤ budget → (spare new : List ℕ) → length spare ≡ layers l →
      (answer : Repaired) → RepairAnswer f l (x ∷ []) helpers shares host 0 budget spare new answer →
      ((report answer).refusal ≡ 0) × ((report answer).crossed ≡ traffic l) × (new ≡ tray_part l c x)
  exact_one_by_calls c s = exact_one c (sent_by_calls W l adm (x ∷ []) helpers shares host c (called_one c s))

-- Any two done calls, whatever their first groups, over the same layout, lost tray and helpers, that both do group p and are alike in its d share symbols and in
-- the symbols of the host rack's sound trays at its layers, write the same symbols at its layers.
pub same_group_one : {A : Type 0} {f : Field A} (W : Working f) (l : Layout) → AdmissibleWith f.order 0 l →
    (x : ℕ) (helpers : List ℕ) (one two : DoneCall f l (x ∷ []) helpers) (p : ℕ) → Does one p → Does two p →
    ((k : ℕ) → k < l.helpers → shared_symbol f l one.shares p k ≡ shared_symbol f l two.shares p k) →
    ((j : ℕ) → j < layers l → group_at l x j ≡ p → OthersAlike f l x j one.host two.host) →
    (j : ℕ) → j < layers l → group_at l x j ≡ p → get_or one.new j 0 ≡ get_or two.new j 0
unfolding lost_place
same_group_one {f = f} W l adm x helpers one two p d e alike sound j hj k =
    let ok = solvable W l adm in
    subst (λ n. get_or one.new n 0 ≡ get_or two.new n 0) (front (layers l) j)
    (same_group W l (x ∷ []) helpers one two p d e
    (λ m q hm hq. subst (λ n. sent_symbol f l 1 one.shares n p q ≡ sent_symbol f l 1 two.shares n p q) (zero_is m hm)
    (sent_is f l ok.usable x one.shares p q ∙ alike q hq ∙ sym (sent_is f l ok.usable x two.shares p q)))
    (λ q hq g y hy out. sound q hq g y hy (out 0 (omega arith))) 0 (omega arith) j hj k)

same : (ok : Bool) (m n : ℕ) → (ok ≡ true → m ≡ n) → unless ok 1 m ≡ unless ok 1 n
same true m n e = e refl
same false m n e = refl

and_right : (a : Bool) → (a && true) ≡ a
and_right true = refl
and_right false = refl

drops : (s t x r b y c d e : Bool) (rest : ℕ) → s ≡ t → r ≡ true → e ≡ true → unless s 2 (unless (x && r && b && y) 3 (unless c 4 (unless d 5 (unless e 12 rest))))
    ≡ unless t 2 (unless (x && b && y) 3 (unless c 4 (unless d 5 rest)))
drops s t x r b y c d e rest p q u = simp (p, q, u, and_right)

-- document 01's grounds, in its order: one lost tray is never too many, so 12 does not apply
module _ {A : Type 0} {f : Field A} (W : Working f) (l : Layout) (x : ℕ) (helpers shares host : List ℕ) (spare first budget : ℕ) where
  pub one_refusal : repair_refusal f l (x ∷ []) helpers shares host spare first budget ≡
      unless (admissible_with f.order 0 l) 1
      (unless (eqb (length shares) (traffic l) && eqb (length host) (l.size * layers l) && eqb spare (layers l)) 2
      (unless (ltb x (trays l) && all_below helpers l.racks && piece_symbols f l (x ∷ []) shares host first budget) 3
      (unless (strictly_rising helpers) 4
      (unless (eqb (length helpers) l.helpers) 5
      (unless (absent helpers (x / l.size)) 6
      (unless (leb first (groups l)) 7
      0))))))
  unfolding repair_refusal all_below strictly_rising one_rack all
  one_refusal =
      same (admissible_with f.order 0 l) _ _ (λ h.
      drops (eqb (length shares) (1 * traffic l) && eqb (length host) (l.size * layers l) && eqb spare (1 * layers l))
      (eqb (length shares) (traffic l) && eqb (length host) (l.size * layers l) && eqb spare (layers l)) (ltb x (trays l))
      (eqb (x / l.size) (x / l.size)) (all_below helpers l.racks) (piece_symbols f l (x ∷ []) shares host first budget) (strictly_rising helpers)
      (eqb (length helpers) l.helpers) (lost_count_fits l 1)
      (unless (absent helpers (x / l.size)) 6 (unless (leb first (groups l)) 7 0))
      (ap₂ (λ a b. eqb (length shares) a && eqb (length host) (l.size * layers l) && eqb spare b) (one-mul (traffic l)) (one-mul (layers l)))
      (eq-eqb (x / l.size) (x / l.size) refl)
      (sym (fits l 1 (omega arith) (omega (arith, mod-lt l.dimension (size_pos l (with_facts f.order 0 l h).admissible.cabinet))))))
