-- The repair with E = 1 and the repairs by cards: their grounds, and when they give the last one. Over any field.
-- Assumes nothing.
use mathlib.Core.Path.{◌≡◌, refl, sym, ap, ◌∙◌}
use mathlib.Core.List.{List, ◌∷◌, []}
use mathlib.Core.Logic.{◌↔◌, ◌⊎◌, ⊎_elim}
use Prim.Native.Nat.{ℕ, ◌<◌}
use native.Mathlib.Decide.{ℕ_discrete}
use native.Mathlib.Omega.{arith}
use lib.ListN.{length, get_or}
use Rattle.algebra.specs.Shape.{Field}
use Rattle.algebra.specs.Plain.{Working}
use Rattle.layout.specs.declared.Layout.{Layout}
use Rattle.layout.specs.Layout.{layers}
use Rattle.rule.specs.Rule.{tray_part, group_at}
use Rattle.rule.specs.Lost.{Of}
use Rattle.repair.specs.declared.Repaired.{Repaired}
use Rattle.repair.specs.declared.Repaired.TheVariants.{Done, Refused}
use Rattle.repair.specs.Repair.{report, RepairAnswer}
use Rattle.repair.proofs.Unique.{repaired_unique}
use Rattle.correcting.specs.declared.Corrected.{Corrected}
use Rattle.correcting.specs.declared.Corrected.TheVariants.{Done as Whole, Refused as NotWhole}
use Rattle.correcting.specs.Correcting.{correcting_refusal, NoneHold, CorrectingAnswer, report as corrected}
use Rattle.correcting.proofs.Refusals.{accepted_so}
use Rattle.correcting.proofs.Settled.{settled_not_none}
use Rattle.card.specs.Card.{Right}
use Rattle.cards.specs.Cards.{print_ground, test_ground, repair_ground, PrintAnswer, Judged, CardAnswer}
use Rattle.cards.proofs.Claims.{card_as_repair, card_exact}
use Rattle.claims.specs.Words.{Refuses, Grounded}

positive : (n : ℕ) → Refuses n → 0 < n
positive n h = elim (ℕ_discrete n 0) [
  | yes e ↦ absurd (h e)
  | no q ↦ omega (arith, q)
]

module _ {A : Type 0} {f : Field A} (W : Working f) (l : Layout) (x : ℕ) (helpers shares host old new : List ℕ) where
  abbrev reason : ℕ
  reason = correcting_refusal f l x helpers shares host (length old)

  pub correcting_grounds : (r : Corrected) → CorrectingAnswer f l x helpers shares host old new r →
      (Refuses reason → corrected r ≡ record { refusal = reason; rack = 0; crossed = 0 }) × (Refuses (corrected r).refusal → new ≡ old)
  correcting_grounds (Whole rack n) p = (λ h. absurd (h p.accepted), λ h. absurd (h refl))
  correcting_grounds (NotWhole e) p = (λ h i. record { refusal = p.refused h i; rack = 0; crossed = 0 }, λ h. p.kept)

  pub fourteen_exactly : (r : Corrected) → CorrectingAnswer f l x helpers shares host old new r → reason ≡ 0 → ((corrected r).refusal ≡ 14) ↔ NoneHold f l x helpers shares
  fourteen_exactly (Whole rack n) p z =
      let acc = accepted_so f l x helpers shares host (length old) z in
      (λ e. absurd (omega (arith, e)), λ none. absurd (settled_not_none W l acc.adm x helpers acc.help shares host rack new p.settled none))
  fourteen_exactly (NotWhole e) p z = (λ q. (p.last z).1, λ none. (p.last z).0)

-- a judged number is the earlier ground, or 0 exactly where the card is right and else 15
judged : {right : Type 0} (before e : ℕ) → Judged before right e → (Refuses before → e ≡ before) × (before ≡ 0 → ((e ≡ 0) ↔ right) × ((e ≡ 15) ↔ (¬ right)))
judged {right} before e p = (
  λ h. p.earlier (positive before h),
  λ z. (
    (λ q. ⊎_elim (λ w. w.1) (λ w. absurd (omega (arith, q, w.0))) (p.last z), λ good. ⊎_elim (λ w. w.0) (λ w. absurd (w.1 good)) (p.last z)),
    (λ q. ⊎_elim (λ w. absurd (omega (arith, q, w.0))) (λ w. w.1) (p.last z), λ bad. ⊎_elim (λ w. absurd (bad w.1)) (λ w. w.0) (p.last z)),
  ),
)

module _ {A : Type 0} (f : Field A) (l : Layout) (x : ℕ) (helpers : List ℕ) (group : ℕ) where
  pub printed_grounds : (old new : List ℕ) (e : ℕ) → PrintAnswer f l x helpers group old new e →
      Grounded (print_ground f l x helpers group (length old)) e old new × (e ≡ 0 → Right f l x helpers group new)
  printed_grounds old new e p = ((p.reason, λ h. p.kept (positive e (λ q. h (sym p.reason ∙ q)))), p.right)

  pub tested_exactly : (card : List ℕ) (e : ℕ) → Judged (test_ground f l x helpers group card) (Right f l x helpers group card) e →
      (Refuses (test_ground f l x helpers group card) → e ≡ test_ground f l x helpers group card)
      × (test_ground f l x helpers group card ≡ 0 → ((e ≡ 0) ↔ Right f l x helpers group card) × ((e ≡ 15) ↔ (¬ (Right f l x helpers group card))))
  tested_exactly card e p = judged _ e p

  module _ (card shares host old new : List ℕ) where
    abbrev before : ℕ
    before = repair_ground f l x helpers group card shares host (length old)

    pub by_card_exactly : (r : Repaired) → CardAnswer f l x helpers card shares host group old new r →
        (Refuses before → report r ≡ record { refusal = before; groups = 0; crossed = 0; remaining = 0 }) × (Refuses (report r).refusal → new ≡ old)
        × (before ≡ 0 → (((report r).refusal ≡ 0) ↔ Right f l x helpers group card) × (((report r).refusal ≡ 15) ↔ (¬ (Right f l x helpers group card))))
    by_card_exactly (Done g c t) p =
        let j = judged _ 0 p.accepted in
        (λ h. absurd (h (sym (j.0 h))), λ h. absurd (h refl), j.1)
    by_card_exactly (Refused e) p =
        let j = judged _ e p.refused in
        (λ h i. record { refusal = j.0 h i; groups = 0; crossed = 0; remaining = 0 }, λ h. p.kept, j.1)

pub as_the_repair : {A : Type 0} {f : Field A} (W : Working f) (l : Layout) (x : ℕ) (helpers : List ℕ) (group : ℕ) (card shares host old new : List ℕ) (r : Repaired) →
    CardAnswer f l x helpers card shares host group old new r → (report r).refusal ≡ 0 →
    RepairAnswer f l (x ∷ []) helpers shares host group 1 old new r
    × ((new' : List ℕ) (r' : Repaired) → RepairAnswer f l (x ∷ []) helpers shares host group 1 old new' r' → (r ≡ r') × (new ≡ new'))
    × ((w : List ℕ) → Of f l (x ∷ []) helpers shares host w → (j : ℕ) → j < layers l → group_at l x j ≡ group → get_or new j 0 ≡ get_or (tray_part l w x) j 0)
as_the_repair W l x helpers group card shares host old new (Done g c t) p z =
    let piece = card_as_repair W l x helpers group card shares host old new g c t p in (
      piece,
      λ new' r' q. repaired_unique W l (x ∷ []) helpers shares host group 1 old new new' (Done g c t) r' piece q,
      card_exact W l x helpers group card shares host old new g c t p,
    )
as_the_repair W l x helpers group card shares host old new (Refused e) p z = absurd (omega (arith, p.reason, z))
