-- What C is handed: the numbers of the one answer that a contract allows, and where a part lies. Over any field.
-- Assumes nothing.
use mathlib.Core.Path.{◌≡◌, refl, sym, ap, ◌∙◌}
use mathlib.Core.List.{List}
use Prim.Native.Nat.{ℕ}
use native.Mathlib.Decide.{ℕ_discrete}
use borrow.Author.Tests.{eq-eqb, ne_eqb}
use lib.ListN.{length}
use Rattle.algebra.specs.Shape.{Field}
use Rattle.algebra.specs.Plain.{Working}
use Rattle.layout.specs.declared.Layout.{Layout}
use Rattle.layout.specs.Layout.{layers}
use Rattle.codeword.proofs.Unique.{tested_unique}
use Rattle.repair.specs.Repair.{report}
use Rattle.repair.proofs.Unique.{repaired_unique}
use Rattle.correcting.specs.Correcting.{report as corrected}
use Rattle.correcting.proofs.Unique.{correcting_unique}
use Rattle.cards.proofs.Claims.{carded_unique}
use Rattle.reading.specs.Reading.{part_refusal}
use Rattle.image.specs.Image.{edition1, read_refusal, read_tray}
use Rattle.gesarumbo.specs.Boundary.{test_numbers, image_numbers, part_numbers}
use Rattle.gesarumbo.proofs.Shown.{image_lies, part_lies}
use Rattle.claims.specs.Words.{Refuses}
use Rattle.claims.specs.Boundary.{Handed, Handed256}

part_is : (N : ℕ) (l : Layout) (codeword spare lost done tray first end : ℕ) →
    ((part_numbers N l codeword spare lost done tray first end).refusal ≡ part_refusal N l codeword spare lost done tray first end)
    × (Refuses (part_refusal N l codeword spare lost done tray first end) →
    part_numbers N l codeword spare lost done tray first end ≡ record { refusal = part_refusal N l codeword spare lost done tray first end; source = 0; offset = 0; length = 0 })
unfolding part_numbers
part_is N l codeword spare lost done tray first end = elim (ℕ_discrete (part_refusal N l codeword spare lost done tray first end) 0) [
  | yes z ↦ (simp (eq-eqb (part_refusal N l codeword spare lost done tray first end) 0 z) (sym z), λ h. absurd (h z))
  | no d ↦ (simp (ne_eqb (part_refusal N l codeword spare lost done tray first end) 0 d), λ h. simp (ne_eqb (part_refusal N l codeword spare lost done tray first end) 0 d))
]

pub handed : {A : Type 0} {f : Field A} (W : Working f) (l : Layout) → Handed f l
handed {f = f} W l = record {
  test = λ c n s r p. s.shown ∙ ap test_numbers (tested_unique f l c s.answer r s.right p);
  repair = λ lost helpers shares host first budget old new n s new' r p.
      let one = repaired_unique W l lost helpers shares host first budget old new new' s.answer r s.right p in (s.shown ∙ ap report one.0, one.1);
  correcting = λ x helpers shares host old new n s new' r p.
      let one = correcting_unique W l x helpers shares host old new new' s.answer r s.right p in (s.shown ∙ ap corrected one.0, one.1);
  card = λ x helpers card shares host group old new n s new' r p.
      let one = carded_unique W l x helpers group card shares host old new new' s.answer r s.right p in (s.shown ∙ ap report one.0, one.1);
  part_lies = part_lies f.order l;
  part_refused = part_is f.order l;
}

module _ (l : Layout) (volume : ℕ) (image : List ℕ) where
  abbrev reason : ℕ
  reason = read_refusal edition1 l volume (layers l) image

  tray_is : (image_numbers l volume image).tray ≡ read_tray edition1 l volume (layers l) image
  unfolding image_numbers read_tray
  tray_is = elim (ℕ_discrete reason 0) [
    | yes z ↦ simp (eq-eqb reason 0 z)
    | no d ↦ simp (ne_eqb reason 0 d)
  ]

  image_is : ((image_numbers l volume image).refusal ≡ reason) × (Refuses reason → image_numbers l volume image ≡ record { refusal = reason; tray = 0; offset = 0; length = 0 })
  unfolding image_numbers
  image_is = elim (ℕ_discrete reason 0) [
    | yes z ↦ (simp (eq-eqb reason 0 z) (sym z), λ h. absurd (h z))
    | no d ↦ (simp (ne_eqb reason 0 d), λ h. simp (ne_eqb reason 0 d))
  ]

pub handed_256 : (l : Layout) → Handed256 l
handed_256 l = record { image_lies = λ volume image. (tray_is l volume image, image_lies l volume image); image_refused = image_is l }
