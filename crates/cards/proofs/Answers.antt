-- The answers of the three calls.
-- Assumes nothing.
use mathlib.Core.Path.{◌≡◌, refl, sym, ap, subst, ◌∙◌}
use mathlib.Core.Bool.{Bool, true, false, not}
use mathlib.Core.List.{List, [], ◌∷◌}
use Prim.Native.Nat.{ℕ, ◌+◌, ◌-◌, ◌*◌, ◌/◌, ◌<◌}
use native.Mathlib.Nat.{one-mul, mul-one}
use native.Mathlib.Omega.{arith}
use mir.Val.{Fits}
use mir.Syntax.{w32}
use lib.Dec.{eqb}
use lib.ListN.{length, get_or}
use borrow.Author.Tests.{not-true, not-false, eqb-true}
use Rattle.algebra.specs.Shape.{Field}
use Rattle.algebra.specs.Plain.{Working}
use Rattle.layout.specs.declared.Layout.{Layout}
use Rattle.layout.specs.Layout.{trays, digits, groups, layers, traffic, Cabinet, AdmissibleWith}
use Rattle.layout.proofs.Facts.{bounds}
use Rattle.layout.proofs.Numbers.{whole_low}
use Rattle.codeword.proofs.Usable.{solvable}
use Rattle.range.specs.Range.{symbols_from}
use Rattle.rule.specs.Rule.{Helpers}
use Rattle.rule.specs.Lost.{Piece}
use Rattle.rule.proofs.Single.{zero_is, one_loss, one_lost}
use Rattle.repair.proofs.Refusals.{accepted}
use Rattle.card.specs.Card.{Right}
use Rattle.card.proofs.Right.{agrees_right, right_agrees, ruled_carded}
use Rattle.card.proofs.Grounds.{Passed, passed_all}
use Rattle.multipliers.specs.Inner.{Grouped, Multipliers}
use Rattle.cards.specs.Cards.{print_ground, test_ground, repair_ground, PrintAnswer, TestAnswer, CardDone, CardRefused}
use Rattle.cards.specs.Inner.{Verdict, CardRepairing}
use Rattle.cards.proofs.Compare.{agreeing_of, range_of}
use Rattle.cards.proofs.Grounds.{grouped_of, Repairable, repairable_so, judged_wrong, judged_right}

-- a group below L/s is a 32-bit number
group_small : (l : Layout) (group : ℕ) → Cabinet l → group < groups l → Fits w32 group
group_small l group a h = let b = bounds l a in record { fits = omega arith }

module _ {A : Type 0} {f : Field A} (W : Working f) (l : Layout) where
  module _ (adm : AdmissibleWith f.order 0 l) (x : ℕ) (helpers card : List ℕ) (p : ℕ) (help : Helpers l x helpers) (inside : p < groups l) (r : Bool)
      (v : Verdict f l (x / l.size) p helpers card r) where
    right_of : not r ≡ false → Right f l x helpers p card
    right_of h = agrees_right f l (solvable W l adm) x helpers help p inside card (v.right (not-false r h))

    wrong_of : not r ≡ true → ¬ Right f l x helpers p card
    wrong_of h q = v.wrong (not-true r h) (right_agrees f l (solvable W l adm) x helpers help p inside (whole_low l adm.admissible.cabinet) card q)

  -- ---- printing, where the tray n is the number x
  module _ (x n : ℕ) (helpers : List ℕ) (group : ℕ) (old : List ℕ) (en : n ≡ x) (e : ℕ) (q : e ≡ print_ground f l n helpers group (length old)) where
    module _ (z : e ≡ 0) where
      printable : Passed f l n helpers group (eqb (length old) (digits l * l.helpers)) true
      unfolding print_ground
      printable = passed_all f l n helpers group _ _ (sym q ∙ z)

      old_long : length old ≡ digits l * l.helpers
      old_long = eqb-true _ _ printable.long_so

      pub print_host : 0 < l.size
      print_host = (bounds l printable.adm.admissible.cabinet).size_low

      pub print_group : Fits w32 group
      print_group = group_small l group printable.adm.admissible.cabinet printable.inside

      grouped : Grouped l (n / l.size) group helpers
      grouped = grouped_of l n helpers group printable.adm printable.help printable.inside

      pub print_given : Grouped l (n / l.size) group helpers × (length old ≡ digits l * l.helpers)
      print_given = (grouped_of l n helpers group printable.adm printable.help printable.inside, old_long)

      pub print_done : (new : List ℕ) → length new ≡ length old → Multipliers f l (n / l.size) group helpers new → PrintAnswer f l x helpers group old new 0
      unfolding grouped
      print_done new el m = subst (λ y. PrintAnswer f l y helpers group old new 0) en (record {
        reason = sym z ∙ q;
        kept = λ h. absurd (omega arith);
        printed = λ _. record { long = el ∙ old_long; symbols = range_of W l (n / l.size) group helpers grouped new (el ∙ old_long) m };
        right = λ _. agrees_right f l (solvable W l printable.adm) n helpers printable.help group printable.inside new (agreeing_of W l (n / l.size) group helpers grouped new m);
      })

  -- ---- the test
  module _ (x n : ℕ) (helpers card : List ℕ) (group : ℕ) (en : n ≡ x) (e : ℕ) (q : e ≡ test_ground f l n helpers group card) where
    module _ (z : e ≡ 0) where
      fit : Passed f l n helpers group (eqb (length card) (digits l * l.helpers)) (symbols_from f card 0 (length card))
      unfolding test_ground
      fit = passed_all f l n helpers group _ _ (sym q ∙ z)

      pub test_host : 0 < l.size
      test_host = (bounds l fit.adm.admissible.cabinet).size_low

      pub test_group : Fits w32 group
      test_group = group_small l group fit.adm.admissible.cabinet fit.inside

      pub test_given : Grouped l (n / l.size) group helpers × (length card ≡ digits l * l.helpers) × (symbols_from f card 0 (length card) ≡ true)
      test_given = (grouped_of l n helpers group fit.adm fit.help fit.inside, eqb-true _ _ fit.long_so, fit.seen_so)

      module _ (r : Bool) (v : Verdict f l (n / l.size) group helpers card r) where
        pub test_wrong : not r ≡ true → TestAnswer f l x helpers card group 15
        test_wrong h = subst (λ y. TestAnswer f l y helpers card group 15) en
            (judged_wrong _ (sym q ∙ z) (wrong_of fit.adm n helpers card group fit.help fit.inside r v h))

        pub test_right : not r ≡ false → TestAnswer f l x helpers card group 0
        test_right h = subst (λ y. TestAnswer f l y helpers card group 0) en
            (judged_right _ (sym q ∙ z) (right_of fit.adm n helpers card group fit.help fit.inside r v h))

  -- ---- the repair
  module _ (x n : ℕ) (helpers card shares host : List ℕ) (group : ℕ) (old : List ℕ) (en : n ≡ x) (e : ℕ) (q : e ≡ repair_ground f l n helpers group card shares host (length old)) where
    module _ (z : e ≡ 0) where
      made : Repairable f l n helpers group card shares host (length old)
      made = repairable_so f l n helpers group card shares host (length old) e q z

      pub repair_host : 0 < l.size
      repair_host = (bounds l made.adm.admissible.cabinet).size_low

      pub repair_group : Fits w32 group
      repair_group = group_small l group made.adm.admissible.cabinet made.inside

      pub repair_cabinet : Cabinet l
      repair_cabinet = made.adm.admissible.cabinet

      pub repair_inside : group < groups l
      repair_inside = made.inside

      pub repair_given : Grouped l (n / l.size) group helpers × (length card ≡ digits l * l.helpers) × (symbols_from f card 0 (length card) ≡ true)
      repair_given = (grouped_of l n helpers group made.adm made.help made.inside, made.card_long, made.card_symbols)

      module _ (r : Bool) (v : Verdict f l (n / l.size) group helpers card r) where
        pub repair_wrong : not r ≡ true → CardRefused f l x helpers card shares host group old old 15
        repair_wrong h = subst (λ y. CardRefused f l y helpers card shares host group old old 15) en (record {
          refused = judged_wrong _ (sym q ∙ z) (wrong_of made.adm n helpers card group made.help made.inside r v h);
          reason = omega arith;
          kept = refl;
        })

        module _ (h : not r ≡ false) where
          right : Right f l n helpers group card
          right = right_of made.adm n helpers card group made.help made.inside r v h

          pub card_repairing_of : CardRepairing f l n helpers card shares host group old
          card_repairing_of = record {
            adm = made.adm;
            carding = record { adm = made.adm.admissible.cabinet; card_long = made.card_long; shares_long = made.shares_long; inside = made.inside };
            help = made.help;
            host_long = made.host_long;
            spare_long = made.spare_long;
            right = right;
          }

          pub done_of : (m : ℕ) (new : List ℕ) → m ≡ groups l → Piece f l (n ∷ []) helpers shares host group 1 old new →
              CardDone f l x helpers card shares host group old new 1 l.helpers (l.helpers * (m - group - 1))
          done_of m new em piece = subst (λ y. CardDone f l y helpers card shares host group old new 1 l.helpers (l.helpers * (m - group - 1))) en (record {
            accepted = judged_right _ (sym q ∙ z) right;
            piece = record {
              accepted = accepted f l (n ∷ []) helpers shares host (length old) group 1 (λ i k. subst (λ y. get_or (n ∷ []) y 0 < trays l) (zero_is i k) made.help.lost_in) (record {
                adm = made.adm;
                shares_long = made.shares_long ∙ sym (one-mul (traffic l));
                host_long = made.host_long;
                spare_long = made.spare_long ∙ sym (one-mul (layers l));
                losses = one_loss f l (solvable W l made.adm) n helpers made.help;
                first_in = omega (arith, made.inside);
              }) made.symbols;
              done_is = omega (arith, made.inside);
              crossed_is = sym (one-mul (l.helpers * 1) ∙ mul-one l.helpers);
              remaining_is = sym (one-mul (l.helpers * (groups l - (group + 1))) ∙ ap (λ y. l.helpers * y) rest);
              piece = piece;
            };
            carded = ruled_carded f l (solvable W l made.adm) n helpers made.help group made.inside (whole_low l made.adm.admissible.cabinet) card right shares host new
                (one_lost f l (solvable W l made.adm).usable n helpers shares host group new (piece.done group (omega arith) (omega arith)));
          })
            where
              rest : groups l - (group + 1) ≡ m - group - 1
              rest = omega arith
