-- WHAT C IS HANDED: the numbers of each answer, and where a part lies. A contract of an exported function (crates/gesarumbo/src) says that these are the numbers of some answer
-- that the call's contract allows (`Shown`), or of the answer that a definition gives; the pages' claims are of these answers.
-- Assumes nothing.
use Rattle.std.specs.Prelude.{◌≡◌, cond, List, [], ℕ, eqb, length, take, drop}
use Rattle.algebra.specs.Shape.{Field}
use Rattle.layout.specs.declared.Layout.{Layout}
use Rattle.layout.specs.Layout.{layers}
use Rattle.codeword.specs.declared.Tested.{Tested}
use Rattle.codeword.specs.Test.{TestAnswer}
use Rattle.repair.specs.declared.Repaired.{Repaired}
use Rattle.repair.specs.declared.RepairNumbers.{RepairNumbers}
use Rattle.repair.specs.Repair.{report, RepairAnswer}
use Rattle.correcting.specs.declared.Corrected.{Corrected}
use Rattle.correcting.specs.declared.CorrectedNumbers.{CorrectedNumbers}
use Rattle.correcting.specs.Correcting.{CorrectingAnswer, report as corrected}
use Rattle.cards.specs.Cards.{CardAnswer}
use Rattle.reading.specs.Reading.{part_refusal, part_given}
use Rattle.image.specs.Image.{edition1, read_refusal, read_tray, read_symbols}
use Rattle.gesarumbo.specs.declared.numbers.TestNumbers.{TestNumbers}
use Rattle.gesarumbo.specs.Boundary.{Shown, test_numbers, image_numbers, part_numbers}
use Rattle.claims.specs.Words.{Refuses}

pub record Handed {A : Type 0} (f : Field A) (l : Layout) : Type 0 where
  -- the numbers shown are those of every answer that the contract allows, which is one, so that what is claimed of an answer's numbers is claimed of them
  pub test : (c : List ℕ) (n : TestNumbers) → Shown (TestAnswer f l c) test_numbers n → (r : Tested) → TestAnswer f l c r → n ≡ test_numbers r
  pub repair : (lost helpers shares host : List ℕ) (first budget : ℕ) (old new : List ℕ) (n : RepairNumbers) →
      Shown (RepairAnswer f l lost helpers shares host first budget old new) report n →
      (new' : List ℕ) (r : Repaired) → RepairAnswer f l lost helpers shares host first budget old new' r → (n ≡ report r) × (new ≡ new')
  pub correcting : (x : ℕ) (helpers shares host old new : List ℕ) (n : CorrectedNumbers) → Shown (CorrectingAnswer f l x helpers shares host old new) corrected n →
      (new' : List ℕ) (r : Corrected) → CorrectingAnswer f l x helpers shares host old new' r → (n ≡ corrected r) × (new ≡ new')
  pub card : (x : ℕ) (helpers card shares host : List ℕ) (group : ℕ) (old new : List ℕ) (n : RepairNumbers) →
      Shown (CardAnswer f l x helpers card shares host group old new) report n →
      (new' : List ℕ) (r : Repaired) → CardAnswer f l x helpers card shares host group old new' r → (n ≡ report r) × (new ≡ new')
  -- W7: "The part handed back lies in the store or in the spare": where the numbers say, source 2 the spare; every number is zero but the refusal's where it is refused
  pub part_lies : (codeword spare : List ℕ) (lost done tray first end : ℕ) →
      let n = part_numbers f.order l (length codeword) (length spare) lost done tray first end in
      take n.length (drop n.offset (cond (eqb n.source 2) spare codeword)) ≡ part_given f.order l codeword spare lost done tray first end
  pub part_refused : (codeword spare lost done tray first end : ℕ) → let reason = part_refusal f.order l codeword spare lost done tray first end in
      ((part_numbers f.order l codeword spare lost done tray first end).refusal ≡ reason)
      × (Refuses reason → part_numbers f.order l codeword spare lost done tray first end ≡ record { refusal = reason; source = 0; offset = 0; length = 0 })

-- a read of an image of edition 1 gives C the tray, and the symbols where the numbers say; that of edition 2 copies them
pub record Handed256 (l : Layout) : Type 0 where
  pub image_lies : (volume : ℕ) (image : List ℕ) →
      let n = image_numbers l volume image in
      (n.tray ≡ read_tray edition1 l volume (layers l) image) × (take n.length (drop n.offset image) ≡ read_symbols edition1 l volume (layers l) [] image)
  pub image_refused : (volume : ℕ) (image : List ℕ) → let reason = read_refusal edition1 l volume (layers l) image in
      ((image_numbers l volume image).refusal ≡ reason) × (Refuses reason → image_numbers l volume image ≡ record { refusal = reason; tray = 0; offset = 0; length = 0 })
