-- The grounds for refusing a repair, one by one, and what holds where none applies.
-- Assumes nothing.
use mathlib.Core.Path.{◌≡◌, refl, sym, ◌∙◌}
use mathlib.Core.Bool.{Bool, true, false, ◌&&◌}
use mathlib.Core.List.{List}
use Prim.Native.Nat.{ℕ, ◌-◌, ◌*◌, ◌/◌, ◌<◌, ◌≤◌}
use native.Mathlib.Nat.{mul-pos, le-div_iff_mul-le, one-le-pow}
use native.Mathlib.Omega.{arith}
use lib.Dec.{eqb, leb}
use lib.ListN.{length, get_or}
use borrow.Author.Tests.{leb-true, eqb-true, eq-eqb}
use Rattle.lists.specs.Lists.{unless, all_below, strictly_rising, absent}
use Rattle.lists.proofs.Bools.{both, and_true, not_both, passed}
use Rattle.lists.proofs.Numbered.{below_all, below_true, rising_all, rising_true, absent_all, absent_true}
use Rattle.algebra.specs.Shape.{Field}
use Rattle.layout.specs.declared.Layout.{Layout}
use Rattle.layout.specs.Layout.{trays, digits, layers, groups, traffic, admissible_with, lost_count_fits, Cabinet}
use Rattle.layout.proofs.Facts.{bounds, size_pos, with_facts, facts_with, fits, fits_so}
use Rattle.layout.proofs.Numbers.{groups_are}
use Rattle.rule.specs.Lost.{first_lost}
use Rattle.grounds.specs.Grounds.{one_rack}
use Rattle.grounds.specs.Inner.{count_refusal}
use Rattle.grounds.proofs.Grounds.{rack_true, rack_all, pass_7}
use Rattle.seen.specs.Seen.{piece_symbols}
use Rattle.repair.specs.Repair.{repair_refusal}
use Rattle.repair.specs.Inner.{number_refusal, Repairable}

-- at least one symbol crosses
pub traffic_pos : (l : Layout) → Cabinet l → 0 < traffic l
traffic_pos l a =
    mul-pos (omega (arith, a.helpers_low, (le-div_iff_mul-le {k = l.size} {x = 1} {y = l.dimension} (size_pos l a)).1 (omega (arith, a.dimension_low))))
    (rw (groups_are l a) (one-le-pow (l.racks - 1) (digits l) (bounds l a).digits_low))

-- the grounds that the numbers in the lists and the symbols give, one after another
module _ {A : Type 0} (f : Field A) (l : Layout) (lost helpers shares host : List ℕ) (first budget : ℕ) where
  abbrev seen : Bool
  seen = piece_symbols f l lost shares host first budget

  pub stop_3 : ((all_below lost (trays l) ≡ true) → (one_rack l lost ≡ true) → (all_below helpers l.racks ≡ true) → (seen ≡ true) → ⊥) →
      3 ≡ number_refusal f l lost helpers shares host first budget
  unfolding number_refusal
  stop_3 k = simp (not_both (all_below lost (trays l) && one_rack l lost && all_below helpers l.racks) seen (λ p q.
      let three = both (all_below lost (trays l) && one_rack l lost) (all_below helpers l.racks) p in
      let two = both (all_below lost (trays l)) (one_rack l lost) three.0 in
      k two.0 two.1 three.1 q))

  module _ (p : all_below lost (trays l) ≡ true) (q : one_rack l lost ≡ true) (r : all_below helpers l.racks ≡ true) (y : seen ≡ true) where
    pub stop_4 : ((strictly_rising lost ≡ true) → (strictly_rising helpers ≡ true) → ⊥) → 4 ≡ number_refusal f l lost helpers shares host first budget
    unfolding number_refusal
    stop_4 k = simp (p, q, r, y, not_both (strictly_rising lost) (strictly_rising helpers) k)

    pub pass_4 : strictly_rising lost ≡ true → strictly_rising helpers ≡ true → 0 ≡ number_refusal f l lost helpers shares host first budget
    unfolding number_refusal
    pass_4 s t = simp (p, q, r, y, s, t)

-- grounds after others
after : (x y : Bool) (m n rest : ℕ) → unless x m (unless y n 0) ≡ 0 → 0 < m → 0 < n → unless x m (unless y n rest) ≡ rest
after x y m n rest h p q =
    let first = passed x m _ p h in
    let second = passed y n 0 q first.1 in
    simp (first.0, second.0)

past : (x y : Bool) (rest : ℕ) → x ≡ true → y ≡ true → unless x 1 (unless y 2 rest) ≡ rest
past x y rest p q = simp (p, q)

before : (x y : Bool) (m n rest r : ℕ) → r ≡ unless x m (unless y n 0) → ¬ (r ≡ 0) → r ≡ unless x m (unless y n rest)
before false y m n rest r e d = e
before true false m n rest r e d = e
before true true m n rest r e d = absurd (d e)

module _ {A : Type 0} (f : Field A) (l : Layout) (lost helpers shares host : List ℕ) (spare first budget : ℕ) where
  pub ground_1 : admissible_with f.order 0 l ≡ false → 1 ≡ repair_refusal f l lost helpers shares host spare first budget
  unfolding repair_refusal
  ground_1 h = simp h

  pub ground_2 : admissible_with f.order 0 l ≡ true → (length shares ≡ length lost * traffic l → length host ≡ l.size * layers l → spare ≡ length lost * layers l → ⊥) →
      2 ≡ repair_refusal f l lost helpers shares host spare first budget
  unfolding repair_refusal
  ground_2 h k = simp (
    h,
    not_both (eqb (length shares) (length lost * traffic l) && eqb (length host) (l.size * layers l)) (eqb spare (length lost * layers l)) (λ p q.
        let two = both (eqb (length shares) (length lost * traffic l)) (eqb (length host) (l.size * layers l)) p in
        k (eqb-true _ _ two.0) (eqb-true _ _ two.1) (eqb-true _ _ q)),
  )

  module _ (h : admissible_with f.order 0 l ≡ true) (p : length shares ≡ length lost * traffic l) (q : length host ≡ l.size * layers l) (s : spare ≡ length lost * layers l) where
    -- the numbers in the lists are right, and both lists rise
    abbrev right : Bool
    right = all_below lost (trays l) && one_rack l lost && all_below helpers l.racks && piece_symbols f l lost shares host first budget

    abbrev rise : Bool
    rise = strictly_rising lost && strictly_rising helpers

    lengths : (eqb (length shares) (length lost * traffic l) && eqb (length host) (l.size * layers l) && eqb spare (length lost * layers l)) ≡ true
    lengths = and_true _ _ (and_true _ _ (eq-eqb _ _ p) (eq-eqb _ _ q)) (eq-eqb _ _ s)

    pub ground_numbers : (r : ℕ) → r ≡ number_refusal f l lost helpers shares host first budget → ¬ (r ≡ 0) → r ≡ repair_refusal f l lost helpers shares host spare first budget
    unfolding repair_refusal number_refusal count_refusal
    ground_numbers r e d = before right rise 3 4 (count_refusal l lost helpers first) r e d ∙ sym (past _ _ _ h lengths)

    pub ground_counts : (n r : ℕ) → n ≡ number_refusal f l lost helpers shares host first budget → n ≡ 0 → r ≡ count_refusal l lost helpers first →
        r ≡ repair_refusal f l lost helpers shares host spare first budget
    unfolding repair_refusal number_refusal count_refusal
    ground_counts n r e z c = c ∙ sym (after right rise 3 4 (count_refusal l lost helpers first) (sym e ∙ z) (omega arith) (omega arith)) ∙ sym (past _ _ _ h lengths)

  pub repairable : repair_refusal f l lost helpers shares host spare first budget ≡ 0 → Repairable f.order l lost helpers (length shares) (length host) spare first
  unfolding repair_refusal
  repairable z =
      let g1 = passed (admissible_with f.order 0 l) 1 _ (omega arith) z in
      let g2 = passed (eqb (length shares) (length lost * traffic l) && eqb (length host) (l.size * layers l) && eqb spare (length lost * layers l)) 2 _ (omega arith) g1.1 in
      let g3 = passed (all_below lost (trays l) && one_rack l lost && all_below helpers l.racks && piece_symbols f l lost shares host first budget) 3 _ (omega arith) g2.1 in
      let g4 = passed (strictly_rising lost && strictly_rising helpers) 4 _ (omega arith) g3.1 in
      let g5 = passed (eqb (length helpers) l.helpers) 5 _ (omega arith) g4.1 in
      let g12 = passed (lost_count_fits l (length lost)) 12 _ (omega arith) g5.1 in
      let g6 = passed (absent helpers (first_lost l lost / l.size)) 6 _ (omega arith) g12.1 in
      let g7 = passed (leb first (groups l)) 7 0 (omega arith) g6.1 in
      let three = both (eqb (length shares) (length lost * traffic l) && eqb (length host) (l.size * layers l)) (eqb spare (length lost * layers l)) g2.0 in
      let two = both (eqb (length shares) (length lost * traffic l)) (eqb (length host) (l.size * layers l)) three.0 in
      let numbers = both (all_below lost (trays l) && one_rack l lost) (all_below helpers l.racks)
      (both (all_below lost (trays l) && one_rack l lost && all_below helpers l.racks) (piece_symbols f l lost shares host first budget) g3.0).0 in
      let racks = both (all_below lost (trays l)) (one_rack l lost) numbers.0 in
      let rise = both (strictly_rising lost) (strictly_rising helpers) g4.0 in
      let counts = fits_so l (length lost) g12.0 in
      let many : length helpers ≡ l.helpers = eqb-true _ _ g5.0 in
      let some : 1 ≤ length lost = counts.0 in
      record {
        adm = with_facts f.order 0 l g1.0;
        shares_long = eqb-true _ _ two.0;
        host_long = eqb-true _ _ two.1;
        spare_long = eqb-true _ _ three.1;
        losses = record {
          some = some;
          few = counts.1;
          one_rack_lem = rack_all l lost racks.1;
          rising = λ k h. rising_all lost rise.0 k h;
          help = record {
            lost_in = below_all lost (trays l) racks.0 0 some;
            many = many;
            inside = λ k h. below_all helpers l.racks numbers.1 k (omega arith);
            rising = λ k h. rising_all helpers rise.1 k (omega arith);
            other = λ k h. absent_all helpers (first_lost l lost / l.size) g6.0 k (omega arith);
          };
        };
        first_in = leb-true _ _ g7.0;
      }

-- and a call whose facts hold is accepted
pub accepted : {A : Type 0} (f : Field A) (l : Layout) (lost helpers shares host : List ℕ) (spare first budget : ℕ) → ((i : ℕ) → i < length lost → get_or lost i 0 < trays l) →
    Repairable f.order l lost helpers (length shares) (length host) spare first → piece_symbols f l lost shares host first budget ≡ true →
    repair_refusal f l lost helpers shares host spare first budget ≡ 0
accepted f l lost helpers shares host spare first budget high r y =
    let L = r.losses in
    let H = L.help in
    sym (ground_counts f l lost helpers shares host spare first budget (sym (facts_with f.order 0 l r.adm)) r.shares_long r.host_long r.spare_long 0 0
    (pass_4 f l lost helpers shares host first budget (sym (below_true lost (trays l) high)) (sym (rack_true l lost L.one_rack_lem))
    (sym (below_true helpers l.racks (λ k h. H.inside k (omega (arith, H.many))))) y
    (sym (rising_true lost (length lost) (omega arith) (λ k h. L.rising k h))) (sym (rising_true helpers (length helpers) (omega arith) (λ k h. H.rising k (omega (arith, H.many))))))
    refl
    (pass_7 l lost helpers first H.many true (fits l (length lost) L.some L.few) refl
    true (absent_true helpers (first_lost l lost / l.size) (λ k h. H.other k (omega (arith, H.many)))) refl (groups l) refl r.first_in))
