-- The contracts decide the answers; the printed card is the one that the test accepts; and a repair by card is that of document 01.
-- Assumes nothing.
use mathlib.Core.Path.{◌≡◌, refl, sym, ap, ap₂, subst, ◌∙◌}
use mathlib.Core.Bool.{true}
use mathlib.Core.Logic.{◌⊎◌, inl, inr}
use mathlib.Core.List.{List, [], ◌∷◌}
use Prim.Native.Nat.{ℕ, ◌+◌, ◌-◌, ◌*◌, ◌<◌}
use native.Mathlib.Nat.{one-mul, mul-one}
use native.Mathlib.Decide.{dec_lt, ℕ_discrete}
use native.Mathlib.Omega.{arith}
use lib.Dec.{eqb}
use lib.ListN.{length, get_or}
use borrow.Author.Tests.{eqb-true}
use Rattle.algebra.specs.Shape.{Field}
use Rattle.algebra.specs.Plain.{Working}
use Rattle.layout.specs.declared.Layout.{Layout}
use Rattle.layout.specs.Layout.{digits, layers, groups}
use Rattle.layout.proofs.Numbers.{whole_low}
use Rattle.codeword.proofs.Usable.{solvable}
use Rattle.range.specs.Range.{symbols_from}
use Rattle.rule.specs.Rule.{group_at, tray_part}
use Rattle.rule.specs.Lost.{lost_part, Of}
use Rattle.rule.proofs.Exact.{rule_exact}
use Rattle.rule.proofs.Single.{front, one_part}
use Rattle.share.proofs.Refusals.{symbols_in, symbols_range}
use Rattle.repair.specs.declared.Repaired.{Repaired}
use Rattle.repair.specs.declared.Repaired.TheVariants.{Done, Refused}
use Rattle.repair.specs.Repair.{RepairAnswer}
use Rattle.repair.proofs.Refusals.{repairable as repairing}
use Rattle.repair.proofs.Unique.{repaired_unique}
use Rattle.card.specs.Card.{Right}
use Rattle.card.specs.Grounds.{card_ground}
use Rattle.card.proofs.Grounds.{Passed, passed_all}
use Rattle.card.proofs.Right.{one_card}
use Rattle.cards.specs.Cards.{print_ground, test_ground, repair_ground, PrintAnswer, Judged, TestAnswer, CardDone, CardRefused, CardAnswer}
use Rattle.cards.proofs.Grounds.{repairable, judged_right}

-- a call has one ground
pub judged_unique : {right : Type 0} (before a b : ℕ) → Judged before right a → Judged before right b → a ≡ b
judged_unique {right} before a b p q = go (dec_lt 0 before)
  where
    same : ((a ≡ 0) × right) ⊎ ((a ≡ 15) × ¬ right) → ((b ≡ 0) × right) ⊎ ((b ≡ 15) × ¬ right) → a ≡ b
    same (inl x) (inl y) = x.0 ∙ sym y.0
    same (inl x) (inr y) = absurd (y.1 x.1)
    same (inr x) (inl y) = absurd (x.1 y.1)
    same (inr x) (inr y) = x.0 ∙ sym y.0

    go : Dec (0 < before) → a ≡ b
    go (yes h) = p.earlier h ∙ sym (q.earlier h)
    go (no h) = same (p.last (omega arith)) (q.last (omega arith))

-- where the ground is none, the card is right
judged_none : {right : Type 0} (before e : ℕ) → e ≡ 0 → Judged before right e → (before ≡ 0) × right
judged_none {right} before e z p = go (dec_lt 0 before)
  where
    last : before ≡ 0 → ((e ≡ 0) × right) ⊎ ((e ≡ 15) × ¬ right) → (before ≡ 0) × right
    last q (inl x) = (q, x.1)
    last q (inr x) = absurd (omega (arith, x.0))

    go : Dec (0 < before) → (before ≡ 0) × right
    go (yes h) = absurd (omega (arith, p.earlier h))
    go (no h) = let q : before ≡ 0 = omega arith in last q (p.last q)

pub tested_unique : {A : Type 0} (f : Field A) (l : Layout) (x : ℕ) (helpers card : List ℕ) (group a b : ℕ) →
    TestAnswer f l x helpers card group a → TestAnswer f l x helpers card group b → a ≡ b
tested_unique f l x helpers card group a b p q = judged_unique _ a b p q

module _ {A : Type 0} {f : Field A} (W : Working f) (l : Layout) (x : ℕ) (helpers : List ℕ) (group : ℕ) where
  -- ---- printing and testing
  module _ (card : List ℕ) where
    tested : test_ground f l x helpers group card ≡ 0 → Passed f l x helpers group (eqb (length card) (digits l * l.helpers)) (symbols_from f card 0 (length card))
    unfolding test_ground
    tested z = passed_all f l x helpers group _ _ z

  module _ (old new : List ℕ) (p : PrintAnswer f l x helpers group old new 0) where
    printable : print_ground f l x helpers group (length old) ≡ 0 → Passed f l x helpers group (eqb (length old) (digits l * l.helpers)) true
    unfolding print_ground
    printable z = passed_all f l x helpers group _ _ z

    -- a card that the test accepts is the printed one
    pub tested_printed : (card : List ℕ) → TestAnswer f l x helpers card group 0 → card ≡ new
    tested_printed card t =
        let q = judged_none _ 0 refl t in
        let s = tested card q.0 in
        let one = one_card f l (solvable W l s.adm) x helpers s.help group s.inside (whole_low l s.adm.admissible.cabinet) in
        one.only card (record { long = eqb-true _ _ s.long_so; symbols = symbols_range f card s.seen_so }) q.1
        ∙ sym (one.only new (p.printed refl) (p.right refl))

    -- and the test accepts the printed one
    pub printed_tested : TestAnswer f l x helpers new group 0
    printed_tested = judged_right _ reason (p.right refl)
      where
        reason : test_ground f l x helpers group new ≡ 0
        reason = unfold test_ground print_ground in
            ap₂ (card_ground f l x helpers group) (ap (λ n. eqb n (digits l * l.helpers)) ((p.printed refl).long ∙ sym (eqb-true _ _ (printable (sym p.reason)).long_so)))
            (symbols_in f new (p.printed refl).symbols.at)
            ∙ sym p.reason

  -- two answers to one call are the same, and so are the cards they leave
  pub printed_unique : (old new new' : List ℕ) (a b : ℕ) → PrintAnswer f l x helpers group old new a → PrintAnswer f l x helpers group old new' b → (a ≡ b) × (new ≡ new')
  printed_unique old new new' a b p q = (p.reason ∙ sym q.reason, go (ℕ_discrete a 0))
    where
      go : Dec (a ≡ 0) → new ≡ new'
      go (yes z) =
          let zb : b ≡ 0 = q.reason ∙ sym p.reason ∙ z in
          tested_printed old new' (subst (PrintAnswer f l x helpers group old new') zb q) new (printed_tested old new (subst (PrintAnswer f l x helpers group old new) z p))
      go (no d) = p.kept (omega arith) ∙ sym (q.kept (omega (arith, p.reason ∙ sym q.reason)))

  -- ---- the repair
  module _ (card shares host old : List ℕ) where
    -- a repair by card that is done answers and writes what the repair of that group does
    pub card_as_repair : (new : List ℕ) (g c t : ℕ) → CardDone f l x helpers card shares host group old new g c t →
        RepairAnswer f l (x ∷ []) helpers shares host group 1 old new (Done g c t)
    card_as_repair new g c t d = d.piece

    pub card_report : (new : List ℕ) (g c t : ℕ) → CardDone f l x helpers card shares host group old new g c t →
        (g ≡ 1) × (c ≡ l.helpers) × (t ≡ l.helpers * (groups l - group - 1))
    card_report new g c t d =
        let made = repairable f l x helpers group card shares host (length old) (judged_none _ 0 refl d.accepted).0 in
        let one : g ≡ 1 = omega (arith, d.piece.done_is, made.inside) in (
          one,
          d.piece.crossed_is ∙ one-mul (l.helpers * g) ∙ ap (λ n. l.helpers * n) one ∙ mul-one l.helpers,
          d.piece.remaining_is ∙ one-mul (l.helpers * (groups l - (group + g))) ∙ ap (λ n. l.helpers * n) (omega (arith, one)),
        )

    -- on the shares and sound trays of any codeword it writes that codeword's symbols
    pub card_exact : (new : List ℕ) (g c t : ℕ) → CardDone f l x helpers card shares host group old new g c t → (w : List ℕ) → Of f l (x ∷ []) helpers shares host w →
        (j : ℕ) → j < layers l → group_at l x j ≡ group → get_or new j 0 ≡ get_or (tray_part l w x) j 0
    card_exact new g c t d w of j hj e =
        let made = repairable f l x helpers group card shares host (length old) (judged_none _ 0 refl d.accepted).0 in
        let ok = solvable W l made.adm in
        let fit = repairing f l (x ∷ []) helpers shares host (length old) group 1 d.piece.accepted in
        let one = (card_report new g c t d).0 in
        subst (λ n. get_or new n 0 ≡ get_or (lost_part l (x ∷ []) w) n 0) (front (layers l) j)
        (rule_exact f l ok (x ∷ []) helpers fit.losses shares host w of group made.inside new (d.piece.piece.done group (omega arith) (omega (arith, one))) 0 (omega arith) j hj e)
        ∙ ap (λ y. get_or y j 0) (one_part f l ok x helpers made.help w of.codeword.long)

    module _ (new new' : List ℕ) where
      both_refused : (e e' : ℕ) → CardRefused f l x helpers card shares host group old new e → CardRefused f l x helpers card shares host group old new' e' →
          (Refused e ≡ Refused e') × (new ≡ new')
      both_refused e e' p q = (ap Refused (judged_unique _ e e' p.refused q.refused), p.kept ∙ sym q.kept)

      done_refused : {B : Type 0} (z : Judged (repair_ground f l x helpers group card shares host (length old)) (Right f l x helpers group card) 0) (e : ℕ) →
          Judged (repair_ground f l x helpers group card shares host (length old)) (Right f l x helpers group card) e → 0 < e → B
      done_refused z e r h = absurd (omega (arith, judged_unique _ 0 e z r))

      -- two answers to one call are the same, and so are the spares they leave
      pub carded_unique : (a b : Repaired) → CardAnswer f l x helpers card shares host group old new a → CardAnswer f l x helpers card shares host group old new' b → (a ≡ b) × (new ≡ new')
      carded_unique (Done g c t) (Done g' c' t') p q = repaired_unique W l (x ∷ []) helpers shares host group 1 old new new' (Done g c t) (Done g' c' t') p.piece q.piece
      carded_unique (Done g c t) (Refused e) p q = done_refused p.accepted e q.refused q.reason
      carded_unique (Refused e) (Done g c t) p q = done_refused q.accepted e p.refused p.reason
      carded_unique (Refused e) (Refused e') p q = both_refused e e' p q
