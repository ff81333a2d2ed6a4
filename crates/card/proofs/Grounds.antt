-- The grounds of the calls of repair cards, one by one, and what holds where none applies.
-- Assumes nothing.
use mathlib.Core.Path.{◌≡◌, ap, ◌∙◌}
use mathlib.Core.Bool.{Bool, true, false, not, ◌&&◌}
use mathlib.Core.List.{List}
use Prim.Native.Nat.{ℕ, ◌/◌, ◌<◌, ◌≤◌}
use native.Mathlib.Omega.{arith}
use lib.Dec.{eqb, ltb}
use lib.ListN.{length}
use borrow.Author.Tests.{eq-eqb, ne_eqb, lt-ltb, le-ltb, eqb-true, ltb-true}
use Rattle.lists.specs.Lists.{all_below, strictly_rising, absent}
use Rattle.lists.proofs.Bools.{both, passed, told_false, told_true}
use Rattle.lists.proofs.Numbered.{below_all, rising_all, absent_all}
use Rattle.algebra.specs.Shape.{Field}
use Rattle.layout.specs.declared.Layout.{Layout}
use Rattle.layout.specs.Layout.{trays, groups, admissible_with, AdmissibleWith}
use Rattle.layout.proofs.Facts.{with_facts}
use Rattle.rule.specs.Rule.{Helpers}
use Rattle.card.specs.Grounds.{in_layout, helpers_ground, card_ground}

module _ (l : Layout) (x : ℕ) (helpers : List ℕ) where
  -- ---- the numbers
  module _ (group : ℕ) where
    pub out_tray : (n : ℕ) → n ≡ trays l → n ≤ x → false ≡ in_layout l x helpers group
    unfolding in_layout
    out_tray n e h = simp (le-ltb _ _ (at n e h))
      where
        at : (n : ℕ) → n ≡ trays l → n ≤ x → trays l ≤ x
        at n e h = omega arith

    module _ (n : ℕ) (en : n ≡ trays l) (hn : x < n) where
      tray : ltb x (trays l) ≡ true
      tray = let h : x < trays l = omega arith in lt-ltb _ _ h

      pub out_helpers : (b : Bool) → b ≡ all_below helpers l.racks → not b ≡ true → false ≡ in_layout l x helpers group
      unfolding in_layout
      out_helpers b e h = simp (tray, told_false e h)

      pub group_tells : (b : Bool) → b ≡ all_below helpers l.racks → not b ≡ false → (m : ℕ) → m ≡ groups l → ltb group m ≡ in_layout l x helpers group
      unfolding in_layout
      group_tells b e h m em = ap (ltb group) em ∙ simp (tray, told_true e h)

    pub inside_tray : in_layout l x helpers group ≡ true → x < trays l
    unfolding in_layout
    inside_tray h =
        let three = both (ltb x (trays l) && all_below helpers l.racks) (ltb group (groups l)) h in
        let two = both (ltb x (trays l)) (all_below helpers l.racks) three.0 in
        ltb-true _ _ two.0

  -- ---- the list
  module _ (b : Bool) (e : b ≡ strictly_rising helpers) where
    pub stop_4 : not b ≡ true → 4 ≡ helpers_ground l x helpers
    unfolding helpers_ground
    stop_4 h = simp (told_false e h)

    module _ (p : not b ≡ false) where
      pub stop_5 : ¬ (length helpers ≡ l.helpers) → 5 ≡ helpers_ground l x helpers
      unfolding helpers_ground
      stop_5 d = simp (told_true e p, ne_eqb _ _ d)

      module _ (q : length helpers ≡ l.helpers) (o : Bool) (z : o ≡ absent helpers (x / l.size)) where
        pub stop_6 : not o ≡ true → 6 ≡ helpers_ground l x helpers
        unfolding helpers_ground
        stop_6 h = simp (told_true e p, eq-eqb _ _ q, told_false z h)

        pub pass_6 : not o ≡ false → 0 ≡ helpers_ground l x helpers
        unfolding helpers_ground
        pass_6 h = simp (told_true e p, eq-eqb _ _ q, told_true z h)

-- ---- all of them
module _ {A : Type 0} (f : Field A) (l : Layout) (x : ℕ) (helpers : List ℕ) (group : ℕ) (long seen : Bool) where
  pub ground_1 : admissible_with f.order 0 l ≡ false → 1 ≡ card_ground f l x helpers group long seen
  unfolding card_ground
  ground_1 h = simp h

  module _ (h : admissible_with f.order 0 l ≡ true) where
    pub ground_2 : long ≡ false → 2 ≡ card_ground f l x helpers group long seen
    unfolding card_ground
    ground_2 k = simp (h, k)

    module _ (k : long ≡ true) where
      pub ground_3 : in_layout l x helpers group ≡ false → 3 ≡ card_ground f l x helpers group long seen
      unfolding card_ground
      ground_3 i = simp (h, k, i)

      module _ (i : in_layout l x helpers group ≡ true) where
        pub ground_seen : seen ≡ false → 3 ≡ card_ground f l x helpers group long seen
        unfolding card_ground
        ground_seen s = simp (h, k, i, s)

        pub ground_rest : seen ≡ true → (r : ℕ) → r ≡ helpers_ground l x helpers → r ≡ card_ground f l x helpers group long seen
        unfolding card_ground
        ground_rest s r e = e ∙ simp (h, k, i, s)

  -- what holds where none applies
  pub record Passed : Type 0 where
    pub adm : AdmissibleWith f.order 0 l
    pub long_so : long ≡ true
    pub seen_so : seen ≡ true
    pub help : Helpers l x helpers
    pub inside : group < groups l

  pub passed_all : card_ground f l x helpers group long seen ≡ 0 → Passed
  unfolding card_ground helpers_ground in_layout
  passed_all z =
      let g1 = passed (admissible_with f.order 0 l) 1 _ (omega arith) z in
      let g2 = passed long 2 _ (omega arith) g1.1 in
      let g3 = passed (ltb x (trays l) && all_below helpers l.racks && ltb group (groups l) && seen) 3 _ (omega arith) g2.1 in
      let g4 = passed (strictly_rising helpers) 4 _ (omega arith) g3.1 in
      let g5 = passed (eqb (length helpers) l.helpers) 5 _ (omega arith) g4.1 in
      let g6 = passed (absent helpers (x / l.size)) 6 0 (omega arith) g5.1 in
      let four = both (ltb x (trays l) && all_below helpers l.racks && ltb group (groups l)) seen g3.0 in
      let three = both (ltb x (trays l) && all_below helpers l.racks) (ltb group (groups l)) four.0 in
      let two = both (ltb x (trays l)) (all_below helpers l.racks) three.0 in
      let many : length helpers ≡ l.helpers = eqb-true _ _ g5.0 in
      record {
        adm = with_facts f.order 0 l g1.0;
        long_so = g2.0;
        seen_so = four.1;
        help = record {
          lost_in = ltb-true _ _ two.0;
          many = many;
          inside = λ k h. below_all helpers l.racks two.1 k (omega arith);
          rising = λ k h. rising_all helpers g4.0 k (omega arith);
          other = λ k h. absent_all helpers (x / l.size) g6.0 k (omega arith);
        };
        inside = ltb-true _ _ three.1;
      }
