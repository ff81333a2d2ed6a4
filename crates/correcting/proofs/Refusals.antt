-- The grounds for refusing the repair with E = 1 before the checks are tried, one by one, and what holds where none applies.
-- Assumes nothing.
use mathlib.Core.Path.{◌≡◌, sym, ap, ◌∙◌}
use mathlib.Core.Bool.{Bool, true, false, not, ◌&&◌, false≢true}
use mathlib.Core.List.{List}
use Prim.Native.Nat.{ℕ, ◌*◌, ◌/◌, ◌<◌, ◌≤◌}
use native.Mathlib.Omega.{arith}
use mir.Val.{Fits}
use mir.Syntax.{w64}
use lib.Dec.{eqb, ltb}
use lib.ListN.{length}
use borrow.Author.Tests.{eqb-true, eq-eqb, ne_eqb, lt-ltb, ltb-true}
use Rattle.lists.specs.Lists.{all_below, strictly_rising, absent}
use Rattle.lists.proofs.Numbers.{mul_below}
use Rattle.lists.proofs.Bools.{both, and_true, not_both, passed, told_false, told_true}
use Rattle.lists.proofs.Numbered.{below_all, below_true, rising_all, rising_true, absent_all, absent_true}
use Rattle.layout.specs.declared.Layout.{Layout}
use Rattle.algebra.specs.Shape.{Field}
use Rattle.layout.specs.Layout.{tray_limit, layer_limit, trays, layers, groups, traffic, admissible_with, AdmissibleWith, Cabinet}
use Rattle.layout.proofs.Facts.{bounds, size_pos, with_facts, with_so, facts_with}
use Rattle.rule.specs.Rule.{Helpers}
use Rattle.correcting.specs.Correcting.{seen_symbols, correcting_refusal}

-- what holds where the checks are tried
pub record Accepted {A : Type 0} (f : Field A) (l : Layout) (x : ℕ) (helpers shares host : List ℕ) (spare : ℕ) : Type 0 where
  pub adm : AdmissibleWith f.order 1 l
  pub shares_long : length shares ≡ traffic l
  pub host_long : length host ≡ l.size * layers l
  pub spare_long : spare ≡ layers l
  pub symbols : seen_symbols f l x shares host ≡ true
  pub help : Helpers l x helpers

module _ {A : Type 0} (f : Field A) (l : Layout) (x : ℕ) (helpers shares host : List ℕ) (spare : ℕ) where
  pub ground_1 : admissible_with f.order 1 l ≡ false → 1 ≡ correcting_refusal f l x helpers shares host spare
  unfolding correcting_refusal
  ground_1 h = simp h

  module _ (h : admissible_with f.order 1 l ≡ true) where
    pub ground_2 : (length shares ≡ traffic l → length host ≡ l.size * layers l → spare ≡ layers l → ⊥) → 2 ≡ correcting_refusal f l x helpers shares host spare
    unfolding correcting_refusal
    ground_2 k = simp (
      h,
      not_both (eqb (length shares) (traffic l) && eqb (length host) (l.size * layers l)) (eqb spare (layers l)) (λ p q.
          let two = both (eqb (length shares) (traffic l)) (eqb (length host) (l.size * layers l)) p in
          k (eqb-true _ _ two.0) (eqb-true _ _ two.1) (eqb-true _ _ q)),
    )

    module _ (p : length shares ≡ traffic l) (q : length host ≡ l.size * layers l) (s : spare ≡ layers l) where
      lengths : (eqb (length shares) (traffic l) && eqb (length host) (l.size * layers l) && eqb spare (layers l)) ≡ true
      lengths = and_true _ _ (and_true _ _ (eq-eqb _ _ p) (eq-eqb _ _ q)) (eq-eqb _ _ s)

      pub ground_3 : (x < trays l → all_below helpers l.racks ≡ true → seen_symbols f l x shares host ≡ true → ⊥) → 3 ≡ correcting_refusal f l x helpers shares host spare
      unfolding correcting_refusal
      ground_3 k = simp (
        h,
        lengths,
        not_both (ltb x (trays l) && all_below helpers l.racks) (seen_symbols f l x shares host) (λ p y.
            let two = both (ltb x (trays l)) (all_below helpers l.racks) p in k (ltb-true _ _ two.0) two.1 y),
      )

      module _ (t : x < trays l) (b : all_below helpers l.racks ≡ true) (y : seen_symbols f l x shares host ≡ true) where
        inside : (ltb x (trays l) && all_below helpers l.racks && seen_symbols f l x shares host) ≡ true
        inside = and_true _ _ (and_true _ _ (lt-ltb _ _ t) b) y

        pub ground_4 : strictly_rising helpers ≡ false → 4 ≡ correcting_refusal f l x helpers shares host spare
        unfolding correcting_refusal
        ground_4 k = simp (h, lengths, inside, k)

        module _ (r : strictly_rising helpers ≡ true) where
          pub ground_5 : ¬ (length helpers ≡ l.helpers) → 5 ≡ correcting_refusal f l x helpers shares host spare
          unfolding correcting_refusal
          ground_5 k = simp (h, lengths, inside, r, ne_eqb _ _ k)

          module _ (m : length helpers ≡ l.helpers) where
            pub ground_6 : absent helpers (x / l.size) ≡ false → 6 ≡ correcting_refusal f l x helpers shares host spare
            unfolding correcting_refusal
            ground_6 k = simp (h, lengths, inside, r, eq-eqb _ _ m, k)

            pub ground_0 : absent helpers (x / l.size) ≡ true → 0 ≡ correcting_refusal f l x helpers shares host spare
            unfolding correcting_refusal
            ground_0 k = simp (h, lengths, inside, r, eq-eqb _ _ m, k)

  -- the same from the tests as the code makes them
  pub stop_1 : (a : Bool) → a ≡ admissible_with f.order 1 l → not a ≡ true → 1 ≡ correcting_refusal f l x helpers shares host spare
  stop_1 a e n = ground_1 (told_false e n)

  module _ (a : Bool) (ea : a ≡ admissible_with f.order 1 l) (na : not a ≡ false) (total each : ℕ) (et : total ≡ layers l) (eg : each ≡ groups l) where
    pub stop_2_shares : ¬ (length shares ≡ l.helpers * each) → 2 ≡ correcting_refusal f l x helpers shares host spare
    stop_2_shares d = ground_2 (told_true ea na) (λ p q s. d (p ∙ ap (λ n. l.helpers * n) (sym eg)))

    pub stop_2_host : ¬ (length host ≡ l.size * total) → 2 ≡ correcting_refusal f l x helpers shares host spare
    stop_2_host d = ground_2 (told_true ea na) (λ p q s. d (q ∙ ap (λ n. l.size * n) (sym et)))

    pub stop_2_spare : ¬ (spare ≡ total) → 2 ≡ correcting_refusal f l x helpers shares host spare
    stop_2_spare d = ground_2 (told_true ea na) (λ p q s. d (s ∙ sym et))

    module _ (p : length shares ≡ l.helpers * each) (q : length host ≡ l.size * total) (s : spare ≡ total) (n : ℕ) (en : n ≡ trays l) where
      shares_are : length shares ≡ traffic l
      shares_are = p ∙ ap (λ n. l.helpers * n) eg

      host_is : length host ≡ l.size * layers l
      host_is = q ∙ ap (λ n. l.size * n) et

      spare_is : spare ≡ layers l
      spare_is = s ∙ et

      pub stop_3_tray : n ≤ x → 3 ≡ correcting_refusal f l x helpers shares host spare
      stop_3_tray h = ground_3 (told_true ea na) shares_are host_is spare_is (λ t b y. omega arith)

      module _ (t : x < n) (b : Bool) (eb : b ≡ all_below helpers l.racks) where
        tray_in : x < trays l
        tray_in = omega arith

        pub stop_3_helpers : not b ≡ true → 3 ≡ correcting_refusal f l x helpers shares host spare
        stop_3_helpers h = ground_3 (told_true ea na) shares_are host_is spare_is (λ t z y. false≢true (sym (told_false eb h) ∙ z))

        module _ (nb : not b ≡ false) (y : Bool) (ey : y ≡ seen_symbols f l x shares host) where
          pub stop_3_symbols : not y ≡ true → 3 ≡ correcting_refusal f l x helpers shares host spare
          stop_3_symbols h = ground_3 (told_true ea na) shares_are host_is spare_is (λ t z w. false≢true (sym (told_false ey h) ∙ w))

          module _ (ny : not y ≡ false) (r : Bool) (er : r ≡ strictly_rising helpers) where
            pub stop_4 : not r ≡ true → 4 ≡ correcting_refusal f l x helpers shares host spare
            stop_4 h = ground_4 (told_true ea na) shares_are host_is spare_is tray_in (told_true eb nb) (told_true ey ny) (told_false er h)

            module _ (nr : not r ≡ false) where
              pub stop_5 : ¬ (length helpers ≡ l.helpers) → 5 ≡ correcting_refusal f l x helpers shares host spare
              stop_5 d = ground_5 (told_true ea na) shares_are host_is spare_is tray_in (told_true eb nb) (told_true ey ny) (told_true er nr) d

              module _ (m : length helpers ≡ l.helpers) (v : Bool) (ev : v ≡ absent helpers (x / l.size)) where
                pub stop_6 : not v ≡ true → 6 ≡ correcting_refusal f l x helpers shares host spare
                stop_6 h = ground_6 (told_true ea na) shares_are host_is spare_is tray_in (told_true eb nb) (told_true ey ny) (told_true er nr) m (told_false ev h)

                pub pass_6 : not v ≡ false → 0 ≡ correcting_refusal f l x helpers shares host spare
                pass_6 h = ground_0 (told_true ea na) shares_are host_is spare_is tray_in (told_true eb nb) (told_true ey ny) (told_true er nr) m (told_true ev h)

  pub accepted_so : correcting_refusal f l x helpers shares host spare ≡ 0 → Accepted f l x helpers shares host spare
  unfolding correcting_refusal
  accepted_so z =
      let g1 = passed (admissible_with f.order 1 l) 1 _ (omega arith) z in
      let g2 = passed (eqb (length shares) (traffic l) && eqb (length host) (l.size * layers l) && eqb spare (layers l)) 2 _ (omega arith) g1.1 in
      let g3 = passed (ltb x (trays l) && all_below helpers l.racks && seen_symbols f l x shares host) 3 _ (omega arith) g2.1 in
      let g4 = passed (strictly_rising helpers) 4 _ (omega arith) g3.1 in
      let g5 = passed (eqb (length helpers) l.helpers) 5 _ (omega arith) g4.1 in
      let g6 = passed (absent helpers (x / l.size)) 6 0 (omega arith) g5.1 in
      let three = both (eqb (length shares) (traffic l) && eqb (length host) (l.size * layers l)) (eqb spare (layers l)) g2.0 in
      let two = both (eqb (length shares) (traffic l)) (eqb (length host) (l.size * layers l)) three.0 in
      let seen = both (ltb x (trays l) && all_below helpers l.racks) (seen_symbols f l x shares host) g3.0 in
      let numbers = both (ltb x (trays l)) (all_below helpers l.racks) seen.0 in
      let many : length helpers ≡ l.helpers = eqb-true _ _ g5.0 in
      record {
        adm = with_facts f.order 1 l g1.0;
        shares_long = eqb-true _ _ two.0;
        host_long = eqb-true _ _ two.1;
        spare_long = eqb-true _ _ three.1;
        symbols = seen.1;
        help = record {
          lost_in = ltb-true _ _ numbers.0;
          many = many;
          inside = λ k h. below_all helpers l.racks numbers.1 k (omega arith);
          rising = λ k h. rising_all helpers g4.0 k (omega arith);
          other = λ k h. absent_all helpers (x / l.size) g6.0 k (omega arith);
        };
      }

  -- and a call whose facts hold is not refused before the checks are tried
  pub so_accepted : Accepted f l x helpers shares host spare → correcting_refusal f l x helpers shares host spare ≡ 0
  so_accepted a =
      let c = a.help in
      sym (ground_0 (sym (facts_with f.order 1 l a.adm)) a.shares_long a.host_long a.spare_long c.lost_in
      (sym (below_true helpers l.racks (λ k h. c.inside k (omega (arith, c.many))))) a.symbols
      (sym (rising_true helpers (length helpers) (omega arith) (λ k h. c.rising k (omega (arith, c.many)))))
      c.many
      (sym (absent_true helpers (x / l.size) (λ k h. c.other k (omega (arith, c.many))))))

-- what the test of the layout leaves
module _ (N : ℕ) (l : Layout) (a : Bool) (e : a ≡ admissible_with N 1 l) (h : not a ≡ false) where
  pub cabinet_so : Cabinet l
  cabinet_so = (with_so N 1 l a e h).admissible.cabinet

pub long_so : (n u total most : ℕ) → n ≡ u * total → total ≡ most → n ≡ u * most
long_so n u total most q e = q ∙ ap (λ y. u * y) e
