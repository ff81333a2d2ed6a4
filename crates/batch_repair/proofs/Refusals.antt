-- The grounds for refusing, one by one, and what holds where none applies.
-- Assumes nothing.
use mathlib.Core.Path.{◌≡◌, sym, ap, ◌∙◌}
use mathlib.Core.Bool.{Bool, true, false, not, ◌&&◌}
use mathlib.Core.List.{List, [], ◌∷◌}
use Prim.Native.Nat.{ℕ, ◌-◌, ◌*◌, ◌/◌, ◌<◌, ◌≤◌, min}
use native.Mathlib.Omega.{arith}
use lib.Dec.{eqb, leb, ltb}
use lib.ListN.{length}
use borrow.Author.Tests.{eq-eqb, lt-ltb, le-leb, lt-leb, eqb-true, ltb-true, leb-true}
use Rattle.lists.specs.Lists.{unless, all_below, strictly_rising, absent}
use Rattle.lists.proofs.Bools.{both, passed, told_false, told_true, all_holds}
use Rattle.lists.proofs.Numbered.{below_all, rising_all, absent_all}
use Rattle.algebra.specs.Shape.{Field}
use Rattle.algebra.specs.Plain.{Working}
use Rattle.layout.specs.declared.Layout.{Layout}
use Rattle.layout.specs.Layout.{trays, layers, groups, traffic, admissible_with, Cabinet}
use Rattle.layout.proofs.Facts.{with_facts}
use Rattle.seen.specs.Seen.{piece_symbols}
use Rattle.card.specs.Grounds.{helpers_ground}
use Rattle.repair.specs.Repair.{repair_refusal}
use Rattle.repair.proofs.Single.{one_refusal}
use Rattle.batch_parts.specs.Parts.{part}
use Rattle.batch_parts.proofs.Parts.{part_long}
use Rattle.batch_repair.specs.RepairBatch.{right_lengths, batch_symbols, repair_batch_refusal}
use Rattle.batch_repair.specs.Inner.{Wide, Told}

-- the lengths, one after another
module _ (l : Layout) (many shares host spare : ℕ) (total groups' : ℕ) (et : total ≡ layers l) (eg : groups' ≡ groups l)
    (a : Bool) (ea : a ≡ eqb shares (l.helpers * groups' * many)) where
  shares_are : a ≡ eqb shares (traffic l * many)
  shares_are = ea ∙ ap (λ (y : ℕ). eqb shares (l.helpers * y * many)) eg

  pub lengths_1 : not a ≡ true → false ≡ right_lengths l many shares host spare
  unfolding right_lengths
  lengths_1 n = simp (told_false shares_are n)

  module _ (na : not a ≡ false) (b : Bool) (eb : b ≡ eqb host (l.size * total * many)) where
    host_is : b ≡ eqb host (l.size * layers l * many)
    host_is = eb ∙ ap (λ (y : ℕ). eqb host (l.size * y * many)) et

    pub lengths_2 : not b ≡ true → false ≡ right_lengths l many shares host spare
    unfolding right_lengths
    lengths_2 n = simp (told_true shares_are na, told_false host_is n)

    pub lengths_3 : not b ≡ false → (c : Bool) → c ≡ eqb spare (total * many) → c ≡ right_lengths l many shares host spare
    unfolding right_lengths
    lengths_3 n c ec = ec ∙ ap (λ (y : ℕ). eqb spare (y * many)) et ∙ sym (simp (told_true shares_are na, told_true host_is n))

-- the buffers past the lengths
pub wide_of : (l : Layout) (many x : ℕ) (shares host : List ℕ) (spare n : ℕ) (b : Bool) → Cabinet l → b ≡ right_lengths l many (length shares) (length host) spare → not b ≡ false →
    n ≡ trays l → x < n → Wide l many x shares host
unfolding right_lengths
wide_of l many x shares host spare n b a eb nb en hx =
    let three = both (eqb (length shares) (traffic l * many) && eqb (length host) (l.size * layers l * many)) (eqb spare (layers l * many)) (told_true eb nb) in
    let two = both (eqb (length shares) (traffic l * many)) (eqb (length host) (l.size * layers l * many)) three.0 in
    record { adm = a; lost_in = omega arith; shares_long = eqb-true _ _ two.0; host_long = eqb-true _ _ two.1 }

-- grounds that the helpers give, before another
before : (a b c : Bool) (rest r : ℕ) → r ≡ unless a 4 (unless b 5 (unless c 6 0)) → ¬ (r ≡ 0) → r ≡ unless a 4 (unless b 5 (unless c 6 rest))
before false b c rest r e d = e
before true false c rest r e d = e
before true true false rest r e d = e
before true true true rest r e d = absurd (d e)

after : (a b c : Bool) (rest r : ℕ) → r ≡ unless a 4 (unless b 5 (unless c 6 0)) → r ≡ 0 → rest ≡ unless a 4 (unless b 5 (unless c 6 rest))
after a b c rest r e z =
    let first = passed a 4 _ (omega arith) (sym e ∙ z) in
    let second = passed b 5 _ (omega arith) first.1 in
    let third = passed c 6 0 (omega arith) second.1 in
    simp (first.0, second.0, third.0)

-- what the tests that were passed leave: the helpers' grounds, and the first group
module _ {A : Type 0} (f : Field A) (l : Layout) (many x : ℕ) (helpers shares host : List ℕ) (spare first budget : ℕ)
    (a : Bool) (ea : a ≡ admissible_with f.order 0 l) (na : not a ≡ false)
    (b : Bool) (eb : b ≡ right_lengths l many (length shares) (length host) spare) (nb : not b ≡ false)
    (n : ℕ) (en : n ≡ trays l) (hx : x < n) (c : Bool) (ec : c ≡ all_below helpers l.racks) (nc : not c ≡ false)
    (e : Bool) (ee : e ≡ batch_symbols f l many x shares host first budget) (ne : not e ≡ false)
    (r : ℕ) (er : r ≡ helpers_ground l x helpers) where
  inside : ltb x (trays l) ≡ true
  inside = let z : x < trays l = omega arith in lt-ltb x (trays l) z

  past : unless (strictly_rising helpers) 4 (unless (eqb (length helpers) l.helpers) 5 (unless (absent helpers (x / l.size)) 6 (unless (leb first (groups l)) 7 0)))
      ≡ repair_batch_refusal f l many x helpers shares host spare first budget
  unfolding repair_batch_refusal
  past = simp (told_true ea na, told_true eb nb, inside, told_true ec nc, told_true ee ne)

  pub return_6 : ¬ (r ≡ 0) → r ≡ repair_batch_refusal f l many x helpers shares host spare first budget
  unfolding helpers_ground
  return_6 d = before (strictly_rising helpers) (eqb (length helpers) l.helpers) (absent helpers (x / l.size)) (unless (leb first (groups l)) 7 0) r er d ∙ past

  module _ (z : r ≡ 0) (g : ℕ) (eg : g ≡ groups l) where
    rest : unless (leb first (groups l)) 7 0 ≡ repair_batch_refusal f l many x helpers shares host spare first budget
    unfolding helpers_ground
    rest = after (strictly_rising helpers) (eqb (length helpers) l.helpers) (absent helpers (x / l.size)) (unless (leb first (groups l)) 7 0) r er z ∙ past

    pub return_7 : g < first → 7 ≡ repair_batch_refusal f l many x helpers shares host spare first budget
    return_7 k = let y : groups l < first = omega arith in sym (simp (lt-leb first (groups l) y)) ∙ rest

    pub return_8 : first ≤ g → 0 ≡ repair_batch_refusal f l many x helpers shares host spare first budget
    return_8 k = let y : first ≤ groups l = omega arith in sym (simp (le-leb first (groups l) y)) ∙ rest

-- where none applies
module _ {A : Type 0} {f : Field A} (W : Working f) (l : Layout) (many x : ℕ) (helpers shares host old : List ℕ) (first budget : ℕ)
    (none : repair_batch_refusal f l many x helpers shares host (length old) first budget ≡ 0) where
  -- the tests that were passed
  pub record Passed : Type 0 where
    pub admitted : admissible_with f.order 0 l ≡ true
    pub shares_long : length shares ≡ traffic l * many
    pub host_long : length host ≡ l.size * layers l * many
    pub spare_long : length old ≡ layers l * many
    pub lost_in : ltb x (trays l) ≡ true
    pub below : all_below helpers l.racks ≡ true
    pub symbols : batch_symbols f l many x shares host first budget ≡ true
    pub rising : strictly_rising helpers ≡ true
    pub enough : eqb (length helpers) l.helpers ≡ true
    pub others : absent helpers (x / l.size) ≡ true
    pub first_in : leb first (groups l) ≡ true

  pub passed_all : Passed
  unfolding repair_batch_refusal right_lengths
  passed_all =
      let g1 = passed (admissible_with f.order 0 l) 1 _ (omega arith) none in
      let g2 = passed (eqb (length shares) (traffic l * many) && eqb (length host) (l.size * layers l * many) && eqb (length old) (layers l * many)) 2 _ (omega arith) g1.1 in
      let g3 = passed (ltb x (trays l) && all_below helpers l.racks && batch_symbols f l many x shares host first budget) 3 _ (omega arith) g2.1 in
      let g4 = passed (strictly_rising helpers) 4 _ (omega arith) g3.1 in
      let g5 = passed (eqb (length helpers) l.helpers) 5 _ (omega arith) g4.1 in
      let g6 = passed (absent helpers (x / l.size)) 6 _ (omega arith) g5.1 in
      let g7 = passed (leb first (groups l)) 7 0 (omega arith) g6.1 in
      let three = both (eqb (length shares) (traffic l * many) && eqb (length host) (l.size * layers l * many)) (eqb (length old) (layers l * many)) g2.0 in
      let two = both (eqb (length shares) (traffic l * many)) (eqb (length host) (l.size * layers l * many)) three.0 in
      let all3 = both (ltb x (trays l) && all_below helpers l.racks) (batch_symbols f l many x shares host first budget) g3.0 in
      let numbers = both (ltb x (trays l)) (all_below helpers l.racks) all3.0 in
      record {
        admitted = g1.0;
        shares_long = eqb-true _ _ two.0;
        host_long = eqb-true _ _ two.1;
        spare_long = eqb-true _ _ three.1;
        lost_in = numbers.0;
        below = numbers.1;
        symbols = all3.1;
        rising = g4.0;
        enough = g5.0;
        others = g6.0;
        first_in = g7.0;
      }

  pub told_of : (count : ℕ) → count ≡ min budget (groups l - first) → Told f l many x helpers shares host first count old
  told_of count ec =
      let p = passed_all in
      let many-are : length helpers ≡ l.helpers = eqb-true _ _ p.enough in
      record {
        adm = with_facts f.order 0 l p.admitted;
        help = record {
          lost_in = ltb-true _ _ p.lost_in;
          many = many-are;
          inside = λ k h. below_all helpers l.racks p.below k (omega arith);
          rising = λ k h. rising_all helpers p.rising k (omega arith);
          other = λ k h. absent_all helpers (x / l.size) p.others k (omega arith);
        };
        shares_long = p.shares_long;
        host_long = p.host_long;
        spare_long = p.spare_long;
        within = omega (arith, leb-true first (groups l) p.first_in);
      }

  -- so each codeword's call is accepted
  pub part_accepted : (q : ℕ) → q < many → repair_refusal f l (x ∷ []) helpers (part many q shares) (part many q host) (length (part many q old)) first budget ≡ 0
  unfolding batch_symbols
  part_accepted q hq =
      let p = passed_all in
      let seen = all_holds (λ q. piece_symbols f l (x ∷ []) (part many q shares) (part many q host) first budget) many p.symbols q hq in
      let one = eq-eqb (length (part many q shares)) (traffic l) (part_long many q hq shares (traffic l) p.shares_long) in
      let two = eq-eqb (length (part many q host)) (l.size * layers l) (part_long many q hq host (l.size * layers l) p.host_long) in
      let three = eq-eqb (length (part many q old)) (layers l) (part_long many q hq old (layers l) p.spare_long) in
      one_refusal W l x helpers (part many q shares) (part many q host) (length (part many q old)) first budget
      ∙ simp (p.admitted, one, two, three, p.lost_in, p.below, seen, p.rising, p.enough, p.others, p.first_in)
