-- The grounds of the calls, one by one, and what is known where there is none.
-- Assumes nothing.
use mathlib.Core.Path.{◌≡◌, refl, sym, ap, ◌∙◌}
use mathlib.Core.Bool.{Bool, true, false, not, ◌&&◌, false≢true}
use mathlib.Core.Logic.{inl, inr}
use mathlib.Core.List.{List, [], ◌∷◌}
use Prim.Native.Nat.{ℕ, ◌*◌, ◌/◌, ◌<◌}
use native.Mathlib.Omega.{arith}
use lib.Dec.{eqb}
use lib.ListN.{length, get_or}
use borrow.Author.Tests.{eq-eqb, ne_eqb, eqb-true}
use Rattle.lists.specs.Lists.{all_below}
use Rattle.lists.proofs.Bools.{both, and_true, not_both, told_true, told_false}
use Rattle.lists.proofs.Numbered.{below_true}
use Rattle.algebra.specs.Shape.{Field}
use Rattle.layout.specs.declared.Layout.{Layout}
use Rattle.layout.specs.Layout.{trays, digits, layers, groups, traffic, admissible_with, Cabinet, AdmissibleWith}
use Rattle.layout.proofs.Facts.{rack_in, with_facts, with_so}
use Rattle.range.specs.Range.{symbols_from}
use Rattle.rule.specs.Rule.{Helpers}
use Rattle.rule.proofs.Single.{zero_is}
use Rattle.seen.specs.Seen.{piece_symbols}
use Rattle.card.specs.Grounds.{in_layout, helpers_ground}
use Rattle.card.proofs.Grounds.{ground_1, ground_2, ground_3, ground_seen, ground_rest, inside_tray, passed_all}
use Rattle.multipliers.specs.Inner.{Grouped}
use Rattle.cards.specs.Cards.{print_ground, test_ground, repair_ground, Judged}
use Rattle.cards.specs.Inner.{Looking}

-- a host rack, its helpers and a group
pub grouped_of : {N : ℕ} (l : Layout) (x : ℕ) (helpers : List ℕ) (group : ℕ) → AdmissibleWith N 0 l → Helpers l x helpers → group < groups l → Grouped l (x / l.size) group helpers
grouped_of l x helpers group a h g = record {
  chosen = record {
    adm = a.admissible.cabinet;
    plain = a.errors_are;
    host_in = rack_in l a.admissible.cabinet x h.lost_in;
    many = h.many;
    inside = h.inside;
    rising = h.rising;
    other = h.other;
  };
  inside = g;
}

-- ---- lengths that fit
module _ (N : ℕ) (l : Layout) (b : Bool) (e : b ≡ admissible_with N 0 l) (h : not b ≡ false) where
  pub cabinet_so : Cabinet l
  cabinet_so = (with_so N 0 l b e h).admissible.cabinet

-- ---- printing
module _ {A : Type 0} (f : Field A) (l : Layout) (x : ℕ) (helpers : List ℕ) (group card : ℕ) (b : Bool) (e : b ≡ admissible_with f.order 0 l) where
  pub print_1 : not b ≡ true → 1 ≡ print_ground f l x helpers group card
  unfolding print_ground
  print_1 h = ground_1 f l x helpers group _ _ (told_false e h)

  module _ (h : not b ≡ false) (s : ℕ) (es : s ≡ digits l) where
    pub print_2 : ¬ (card ≡ s * l.helpers) → 2 ≡ print_ground f l x helpers group card
    unfolding print_ground
    print_2 d = ground_2 f l x helpers group _ _ (told_true e h) (ne_eqb _ _ (λ q. d (q ∙ ap (λ n. n * l.helpers) (sym es))))

    module _ (ec : card ≡ s * l.helpers) (i : Bool) (ei : i ≡ in_layout l x helpers group) where
      long : eqb card (digits l * l.helpers) ≡ true
      long = eq-eqb _ _ (ec ∙ ap (λ n. n * l.helpers) es)

      pub print_3 : not i ≡ true → 3 ≡ print_ground f l x helpers group card
      unfolding print_ground
      print_3 k = ground_3 f l x helpers group _ _ (told_true e h) long (told_false ei k)

      pub print_rest : not i ≡ false → (r : ℕ) → r ≡ helpers_ground l x helpers → r ≡ print_ground f l x helpers group card
      unfolding print_ground
      print_rest k r er = ground_rest f l x helpers group _ _ (told_true e h) long (told_true ei k) refl r er

-- ---- the test
module _ {A : Type 0} (f : Field A) (l : Layout) (x : ℕ) (helpers : List ℕ) (group : ℕ) (card : List ℕ) (b : Bool) (e : b ≡ admissible_with f.order 0 l) where
  pub test_1 : not b ≡ true → 1 ≡ test_ground f l x helpers group card
  unfolding test_ground
  test_1 h = ground_1 f l x helpers group _ _ (told_false e h)

  module _ (h : not b ≡ false) (s : ℕ) (es : s ≡ digits l) where
    pub test_2 : ¬ (length card ≡ s * l.helpers) → 2 ≡ test_ground f l x helpers group card
    unfolding test_ground
    test_2 d = ground_2 f l x helpers group _ _ (told_true e h) (ne_eqb _ _ (λ q. d (q ∙ ap (λ n. n * l.helpers) (sym es))))

    module _ (ec : length card ≡ s * l.helpers) (i : Bool) (ei : i ≡ in_layout l x helpers group) where
      full : eqb (length card) (digits l * l.helpers) ≡ true
      full = eq-eqb _ _ (ec ∙ ap (λ n. n * l.helpers) es)

      pub test_3 : not i ≡ true → 3 ≡ test_ground f l x helpers group card
      unfolding test_ground
      test_3 k = ground_3 f l x helpers group _ _ (told_true e h) full (told_false ei k)

      module _ (k : not i ≡ false) (y : Bool) (ey : y ≡ symbols_from f card 0 (length card)) where
        pub test_symbols : not y ≡ true → 3 ≡ test_ground f l x helpers group card
        unfolding test_ground
        test_symbols q = ground_seen f l x helpers group _ _ (told_true e h) full (told_true ei k) (told_false ey q)

        pub test_rest : not y ≡ false → (r : ℕ) → r ≡ helpers_ground l x helpers → r ≡ test_ground f l x helpers group card
        unfolding test_ground
        test_rest q r er = ground_rest f l x helpers group _ _ (told_true e h) full (told_true ei k) (told_true ey q) r er

-- ---- the repair
module _ {A : Type 0} (f : Field A) (l : Layout) (x : ℕ) (helpers : List ℕ) (group : ℕ) (card shares host : List ℕ) (spare : ℕ) where
  pub lengths : Bool
  lengths = eqb (length card) (digits l * l.helpers) && eqb (length shares) (traffic l) && eqb (length host) (l.size * layers l) && eqb spare (layers l)

  lengths_all : lengths ≡ true → (length card ≡ digits l * l.helpers) × (length shares ≡ traffic l) × (length host ≡ l.size * layers l) × (spare ≡ layers l)
  unfolding lengths
  lengths_all h =
      let a = both (eqb (length card) (digits l * l.helpers) && eqb (length shares) (traffic l) && eqb (length host) (l.size * layers l)) (eqb spare (layers l)) h in
      let b = both (eqb (length card) (digits l * l.helpers) && eqb (length shares) (traffic l)) (eqb (length host) (l.size * layers l)) a.0 in
      let c = both (eqb (length card) (digits l * l.helpers)) (eqb (length shares) (traffic l)) b.0 in
      (eqb-true _ _ c.0, eqb-true _ _ c.1, eqb-true _ _ b.1, eqb-true _ _ a.1)

  lengths_false : (length card ≡ digits l * l.helpers → length shares ≡ traffic l → length host ≡ l.size * layers l → spare ≡ layers l → ⊥) → lengths ≡ false
  lengths_false k = not_true lengths (λ t. let q = lengths_all t in k q.0 q.1 q.2 q.3)
    where
      not_true : (a : Bool) → (a ≡ true → ⊥) → a ≡ false
      not_true true h = absurd (h refl)
      not_true false h = refl

  -- the layout, the lengths and the numbers are right
  pub record Measured : Type 0 where
    pub adm_so : admissible_with f.order 0 l ≡ true
    pub lengths_so : lengths ≡ true
    pub inside_so : in_layout l x helpers group ≡ true

  module _ (b : Bool) (e : b ≡ admissible_with f.order 0 l) where
    pub repair_1 : not b ≡ true → 1 ≡ repair_ground f l x helpers group card shares host spare
    unfolding repair_ground
    repair_1 h = ground_1 f l x helpers group _ _ (told_false e h)

    module _ (h : not b ≡ false) where
      repair_2 : (length card ≡ digits l * l.helpers → length shares ≡ traffic l → length host ≡ l.size * layers l → spare ≡ layers l → ⊥) →
          2 ≡ repair_ground f l x helpers group card shares host spare
      unfolding repair_ground lengths
      repair_2 k = ground_2 f l x helpers group _ _ (told_true e h) (lengths_false k)

      pub stop_card : (s : ℕ) → s ≡ digits l → ¬ (length card ≡ s * l.helpers) → 2 ≡ repair_ground f l x helpers group card shares host spare
      stop_card s es d = repair_2 (λ p q r t. d (p ∙ ap (λ k. k * l.helpers) (sym es)))

      pub stop_shares : (g : ℕ) → g ≡ groups l → ¬ (length shares ≡ l.helpers * g) → 2 ≡ repair_ground f l x helpers group card shares host spare
      stop_shares g eg d = repair_2 (λ p q r t. d (q ∙ ap (λ k. l.helpers * k) (sym eg)))

      module _ (n : ℕ) (en : n ≡ layers l) where
        pub stop_host : ¬ (length host ≡ l.size * n) → 2 ≡ repair_ground f l x helpers group card shares host spare
        stop_host d = repair_2 (λ p q r t. d (r ∙ ap (λ k. l.size * k) (sym en)))

        pub stop_spare : ¬ (spare ≡ n) → 2 ≡ repair_ground f l x helpers group card shares host spare
        stop_spare d = repair_2 (λ p q r t. d (t ∙ sym en))

        module _ (s g : ℕ) (es : s ≡ digits l) (eg : g ≡ groups l) (ec : length card ≡ s * l.helpers) (ed : length shares ≡ l.helpers * g)
            (eh : length host ≡ l.size * n) (et : spare ≡ n)
            (i : Bool) (ei : i ≡ in_layout l x helpers group) where
          lengths_true : lengths ≡ true
          unfolding lengths
          lengths_true =
              and_true _ _ (and_true _ _ (and_true _ _ (eq-eqb (length card) (digits l * l.helpers) (ec ∙ ap (λ k. k * l.helpers) es))
              (eq-eqb (length shares) (traffic l) (ed ∙ ap (λ k. l.helpers * k) eg))) (eq-eqb (length host) (l.size * layers l) (eh ∙ ap (λ k. l.size * k) en)))
              (eq-eqb spare (layers l) (et ∙ en))

          pub repair_3 : not i ≡ true → 3 ≡ repair_ground f l x helpers group card shares host spare
          unfolding repair_ground lengths
          repair_3 k = ground_3 f l x helpers group _ _ (told_true e h) lengths_true (told_false ei k)

          pub measured_of : not i ≡ false → Measured
          measured_of k = record { adm_so = told_true e h; lengths_so = lengths_true; inside_so = told_true ei k }

  -- past the lengths and the numbers
  module _ (m : Measured) where
    pub looking_of : Looking l x shares host
    looking_of =
        let q = lengths_all m.lengths_so in
        record { adm = (with_facts f.order 0 l m.adm_so).admissible.cabinet; lost_in = inside_tray l x helpers group m.inside_so; shares_long = q.1; host_long = q.2 }

    module _ (y : Bool) (ey : y ≡ symbols_from f card 0 (length card)) where
      pub repair_card : not y ≡ true → 3 ≡ repair_ground f l x helpers group card shares host spare
      unfolding repair_ground lengths
      repair_card q =
          ground_seen f l x helpers group _ _ m.adm_so m.lengths_so m.inside_so (ap (λ a. a && piece_symbols f l (x ∷ []) shares host group 1) (told_false ey q))

      module _ (q : not y ≡ false) (z : Bool) (ez : z ≡ piece_symbols f l (x ∷ []) shares host group 1) where
        pub repair_symbols : not z ≡ true → 3 ≡ repair_ground f l x helpers group card shares host spare
        unfolding repair_ground lengths
        repair_symbols t =
            ground_seen f l x helpers group _ _ m.adm_so m.lengths_so m.inside_so (not_both (symbols_from f card 0 (length card)) _ (λ u v. false≢true (sym (told_false ez t) ∙ v)))

        pub repair_rest : not z ≡ false → (r : ℕ) → r ≡ helpers_ground l x helpers → r ≡ repair_ground f l x helpers group card shares host spare
        unfolding repair_ground lengths
        repair_rest t r er = ground_rest f l x helpers group _ _ m.adm_so m.lengths_so m.inside_so (and_true _ _ (told_true ey q) (told_true ez t)) r er

  -- what an accepted repair is given, as facts
  pub record Repairable : Type 0 where
    pub adm : AdmissibleWith f.order 0 l
    pub card_long : length card ≡ digits l * l.helpers
    pub shares_long : length shares ≡ traffic l
    pub host_long : length host ≡ l.size * layers l
    pub spare_long : spare ≡ layers l
    pub card_symbols : symbols_from f card 0 (length card) ≡ true
    pub symbols : piece_symbols f l (x ∷ []) shares host group 1 ≡ true
    pub help : Helpers l x helpers
    pub inside : group < groups l

  pub repairable : repair_ground f l x helpers group card shares host spare ≡ 0 → Repairable
  unfolding repair_ground lengths
  repairable z =
      let p = passed_all f l x helpers group lengths _ z in
      let q = lengths_all p.long_so in
      let s = both (symbols_from f card 0 (length card)) (piece_symbols f l (x ∷ []) shares host group 1) p.seen_so in
      record {
        adm = p.adm;
        card_long = q.0;
        shares_long = q.1;
        host_long = q.2;
        spare_long = q.3;
        card_symbols = s.0;
        symbols = s.1;
        help = p.help;
        inside = p.inside;
      }

  -- the same of a ground that was worked out
  pub repairable_so : (e : ℕ) → e ≡ repair_ground f l x helpers group card shares host spare → e ≡ 0 → Repairable
  repairable_so e q z = repairable (sym q ∙ z)

-- ---- what the look at symbols is told of the list of one tray
pub one_below : (l : Layout) (x : ℕ) → x < trays l → all_below (x ∷ []) (trays l) ≡ true
one_below l x h = sym (below_true (x ∷ []) (trays l) (λ i k. go i k))
  where
    go : (i : ℕ) → i < 1 → get_or (x ∷ []) i 0 < trays l
    go i k = rw (sym (zero_is i k)) h

-- ---- the answers
module _ {right : Type 0} (before : ℕ) where
  pub judged_wrong : before ≡ 0 → ¬ right → Judged before right 15
  judged_wrong z w = record { earlier = λ h. absurd (omega arith); last = λ y. inr (refl, w) }

  pub judged_right : before ≡ 0 → right → Judged before right 0
  judged_right z w = record { earlier = λ h. absurd (omega arith); last = λ y. inl (refl, w) }
