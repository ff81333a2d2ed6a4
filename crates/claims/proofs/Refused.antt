-- What each call does when it is refused, read off its contract. Over any field and edition.
-- Assumes nothing.
use mathlib.Core.Path.{◌≡◌, refl, sym, ap, subst, ◌∙◌}
use mathlib.Core.Bool.{Bool, true, false, cond}
use mathlib.Core.List.{List, []}
use Prim.Native.Nat.{ℕ}
use native.Mathlib.Omega.{arith}
use borrow.Author.Tests.{eq-eqb, ne_eqb}
use lib.Dec.{eqb, ltb}
use lib.IntN.{pos}
use lib.ListN.{length}
use Rattle.algebra.specs.Shape.{Field}
use Rattle.layout.specs.declared.Layout.{Layout}
use Rattle.layout.specs.Layout.{checks, layers, traffic, admissible, admissible_with, measured}
use Rattle.layout.proofs.Facts.{with_other}
use Rattle.codeword.specs.declared.Tested.{Tested}
use Rattle.codeword.specs.declared.Tested.TheVariants.{Sound, Bad, Refused as NoTest}
use Rattle.codeword.specs.Test.{test_refusal, TestAnswer}
use Rattle.share.specs.Many.{shares_refusal, shares_buffer, fed_refusal, fed_buffer, many_refusal, many_buffer, add_many_refusal, add_many_buffer}
use Rattle.repair.specs.declared.Repaired.{Repaired}
use Rattle.repair.specs.declared.Repaired.TheVariants.{Done, Refused}
use Rattle.repair.specs.Repair.{repair_refusal, report, RepairAnswer}
use Rattle.reading.specs.Reading.{part_refusal, part_given}
use Rattle.correcting.specs.Correcting.{correcting_refusal}
use Rattle.card.specs.Grounds.{card_ground}
use Rattle.cards.specs.Cards.{print_ground, test_ground, repair_ground}
use Rattle.image.specs.declared.Edition.{Edition}
use Rattle.image.specs.Image.{write_refusal, write_buffer, read_refusal, read_tray, read_symbols}
use Rattle.margin.specs.Margin.{margin_of, margin_refusal, margin_answer}
use Rattle.scrub.specs.declared.Walk.{Walk}
use Rattle.scrub.specs.declared.Report.TheVariants.{Unfinished, Sound as WalkSound, Bad as WalkBad}
use Rattle.scrub.specs.Scrub.{scrub_refusal, reported, scrubbed, begun}
use Rattle.gesarumbo.specs.Boundary.{measure_numbers, test_numbers, margin_numbers, report_numbers, scrub_numbers}
use Rattle.claims.specs.Words.{Refuses, Grounded}

-- with a refusal the second of two outcomes is taken
refused : {A : Type 0} (n : ℕ) (a b : A) → Refuses n → cond (eqb n 0) a b ≡ b
refused n a b h = ap (λ t. cond t a b) (ne_eqb n 0 h)

done : {A : Type 0} (n : ℕ) (a b : A) → n ≡ 0 → cond (eqb n 0) a b ≡ a
done n a b z = ap (λ t. cond t a b) (eq-eqb n 0 z)

taken : {A : Type 0} (t : Bool) (a b : A) → t ≡ true → cond t a b ≡ a
taken t a b e = ap (λ s. cond s a b) e

not_taken : {A : Type 0} (t : Bool) (a b : A) → ¬ (t ≡ true) → cond t a b ≡ b
not_taken true a b h = absurd (h refl)
not_taken false a b h = refl

module _ (N : ℕ) (l : Layout) where
  pub measure_is : (admissible N l ≡ true → measure_numbers (measured N l) ≡ record { refusal = 0; layers = layers l; checks = checks l; traffic = traffic l })
      × (¬ (admissible N l ≡ true) → measure_numbers (measured N l) ≡ record { refusal = 1; layers = 0; checks = 0; traffic = 0 })
  unfolding measured
  measure_is = (λ t. ap measure_numbers (taken (admissible N l) _ _ t), λ h. ap measure_numbers (not_taken (admissible N l) _ _ h))

  pub margin_is : (states : List ℕ) →
      (Refuses (margin_refusal N l states) → margin_numbers (margin_answer N l states) ≡ record { refusal = margin_refusal N l states; margin = pos 0 })
      × (margin_refusal N l states ≡ 0 → margin_numbers (margin_answer N l states) ≡ record { refusal = 0; margin = margin_of l states })
  unfolding margin_answer
  margin_is states = (λ h. ap margin_numbers (refused _ _ _ h), λ z. ap margin_numbers (done _ _ _ z))

  pub reset_is : (w : Walk) → (¬ (admissible N l ≡ true) → scrub_numbers (begun N l w) ≡ record { refusal = 1; report = 0; walk = w })
      × (admissible N l ≡ true → scrub_numbers (begun N l w) ≡ record { refusal = 0; report = 0; walk = record { next = 0; bad = 0; first = layers l } })
  unfolding begun
  reset_is w = (λ h. ap scrub_numbers (not_taken (admissible N l) _ _ h), λ t. ap scrub_numbers (taken (admissible N l) _ _ t))

  pub part_refused : (codeword spare : List ℕ) (lost done tray first end : ℕ) →
      Refuses (part_refusal N l (length codeword) (length spare) lost done tray first end) →
      part_given N l codeword spare lost done tray first end ≡ []
  unfolding part_given
  part_refused codeword spare lost done tray first end h = refused _ _ _ h

module _ {A : Type 0} (f : Field A) (l : Layout) where
  pub test_grounds : (c : List ℕ) (r : Tested) → TestAnswer f l c r → ((test_numbers r).refusal ≡ test_refusal f l c)
      × (Refuses (test_refusal f l c) → test_numbers r ≡ record { refusal = test_refusal f l c; verdict = 0; layer = 0; check = 0 })
  test_grounds c Sound p = (sym p.0, λ h. absurd (h p.0))
  test_grounds c (Bad j t) p = (sym p.0, λ h. absurd (h p.0))
  test_grounds c (NoTest e) p = (p.0, λ h i. record { refusal = p.0 i; verdict = 0; layer = 0; check = 0 })

  pub share_refused : (host helper : ℕ) (rack out : List ℕ) → Refuses (shares_refusal f l 1 host helper rack (length out)) → shares_buffer f l 1 host helper rack out ≡ out
  unfolding shares_buffer
  share_refused host helper rack out h = refused _ _ _ h

  pub add_refused : (host x : ℕ) (symbols held : List ℕ) → Refuses (fed_refusal f l 1 host x symbols held) → fed_buffer f l 1 host x symbols held ≡ held
  unfolding fed_buffer
  add_refused host x symbols held h = refused _ _ _ h

  pub many_refused : (e host helper : ℕ) (rack out : List ℕ) → Refuses (many_refusal f l e host helper rack (length out)) → many_buffer f l e host helper rack out ≡ out
  unfolding many_buffer
  many_refused e host helper rack out h = refused _ _ _ h

  pub add_many_refused : (e host x : ℕ) (symbols held : List ℕ) → Refuses (add_many_refusal f l e host x symbols held) → add_many_buffer f l e host x symbols held ≡ held
  unfolding add_many_buffer
  add_many_refused e host x symbols held h = refused _ _ _ h

  module _ (lost helpers shares host : List ℕ) (first budget : ℕ) (old new : List ℕ) where
    pub repair_grounds : (r : Repaired) → RepairAnswer f l lost helpers shares host first budget old new r →
        Grounded (repair_refusal f l lost helpers shares host (length old) first budget) (report r).refusal old new
        × (Refuses (repair_refusal f l lost helpers shares host (length old) first budget) →
        report r ≡ record { refusal = repair_refusal f l lost helpers shares host (length old) first budget; groups = 0; crossed = 0; remaining = 0 })
    repair_grounds (Done g c t) p = ((sym p.accepted, λ h. absurd (h p.accepted)), λ h. absurd (h p.accepted))
    repair_grounds (Refused e) p = ((p.0, λ h. p.2), λ h i. record { refusal = p.0 i; groups = 0; crossed = 0; remaining = 0 })

  pub scrub_refused : (c : List ℕ) (w : Walk) (budget : ℕ) → Refuses (scrub_refusal f l c w budget) →
      scrub_numbers (scrubbed f l c w budget) ≡ record { refusal = scrub_refusal f l c w budget; report = 0; walk = w }
  unfolding scrubbed
  scrub_refused c w budget h = ap scrub_numbers (refused _ _ _ h)

  -- the report of a call of a walk that is done
  numbers_of : (w : Walk) → ((scrub_numbers (reported (layers l) w)).refusal ≡ 0)
      × ((scrub_numbers (reported (layers l) w)).report ≡ cond (ltb (scrub_numbers (reported (layers l) w)).walk.next (layers l)) 1
      (cond (eqb (scrub_numbers (reported (layers l) w)).walk.bad 0) 2 3))
  unfolding reported
  numbers_of w = go (ltb w.next (layers l)) (eqb w.bad 0)
    where
      go : (s t : Bool) → ((report_numbers (cond s Unfinished (cond t WalkSound WalkBad))).refusal ≡ 0)
          × ((report_numbers (cond s Unfinished (cond t WalkSound WalkBad))).report ≡ cond s 1 (cond t 2 3))
      go true t = (refl, refl)
      go false true = (refl, refl)
      go false false = (refl, refl)

  pub scrub_reports : (c : List ℕ) (w : Walk) (budget : ℕ) → scrub_refusal f l c w budget ≡ 0 →
      ((scrub_numbers (scrubbed f l c w budget)).refusal ≡ 0)
      × ((scrub_numbers (scrubbed f l c w budget)).report ≡ cond (ltb (scrub_numbers (scrubbed f l c w budget)).walk.next (layers l)) 1
      (cond (eqb (scrub_numbers (scrubbed f l c w budget)).walk.bad 0) 2 3))
  unfolding scrubbed
  scrub_reports c w budget z = rw (done (scrub_refusal f l c w budget) _ _ z) (numbers_of _)

  -- with E = 1 the calls that are for E = 0 answer 1
  module _ (d : ¬ (l.errors ≡ 0)) where
    not_fit : admissible_with f.order 0 l ≡ false
    not_fit = sym (with_other f.order 0 l d)

    pub repair_other : (lost helpers shares host : List ℕ) (room first budget : ℕ) → repair_refusal f l lost helpers shares host room first budget ≡ 1
    unfolding repair_refusal
    repair_other lost helpers shares host room first budget = simp not_fit

    pub many_other : (e h i : ℕ) (rack : List ℕ) (room : ℕ) → many_refusal f l e h i rack room ≡ 1
    unfolding many_refusal
    many_other e h i rack room = simp not_fit

    pub add_many_other : (e h x : ℕ) (tray held : List ℕ) → add_many_refusal f l e h x tray held ≡ 1
    unfolding add_many_refusal
    add_many_other e h x tray held = simp not_fit

    pub part_other : (codeword spare lost done tray first end : ℕ) → part_refusal f.order l codeword spare lost done tray first end ≡ 1
    unfolding part_refusal
    part_other codeword spare lost done tray first end = simp not_fit

    pub print_other : (x : ℕ) (helpers : List ℕ) (group room : ℕ) → print_ground f l x helpers group room ≡ 1
    unfolding print_ground card_ground
    print_other x helpers group room = simp not_fit

    pub card_other : (x : ℕ) (helpers : List ℕ) (group : ℕ) (card : List ℕ) → test_ground f l x helpers group card ≡ 1
    unfolding test_ground card_ground
    card_other x helpers group card = simp not_fit

    pub by_card_other : (x : ℕ) (helpers : List ℕ) (group : ℕ) (card shares host : List ℕ) (room : ℕ) → repair_ground f l x helpers group card shares host room ≡ 1
    unfolding repair_ground card_ground
    by_card_other x helpers group card shares host room = simp not_fit

  -- and with E = 0 the one that is for E = 1
  pub correcting_other : ¬ (l.errors ≡ 1) → (x : ℕ) (helpers shares host : List ℕ) (room : ℕ) → correcting_refusal f l x helpers shares host room ≡ 1
  unfolding correcting_refusal
  correcting_other d x helpers shares host room = simp (sym (with_other f.order 1 l d))

module _ (ed : Edition) (l : Layout) where
  pub write_refused : (tray state volume : ℕ) (symbols image : List ℕ) → Refuses (write_refusal ed l tray state volume symbols (length image)) →
      write_buffer ed l tray state volume symbols image ≡ image
  unfolding write_buffer
  write_refused tray state volume symbols image h = refused _ _ _ h

  pub read_refused : (volume places : ℕ) (given image : List ℕ) → Refuses (read_refusal ed l volume places image) →
      (read_tray ed l volume places image ≡ 0) × (read_symbols ed l volume places given image ≡ given)
  unfolding read_tray read_symbols
  read_refused volume places given image h = (refused _ _ _ h, refused _ _ _ h)
