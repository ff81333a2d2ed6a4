-- Past the other grounds a repair is refused with 8 exactly when no word has its shares and the host rack's values.
-- Assumes nothing.
use mathlib.Core.Path.{◌≡◌, refl, sym, ap, ap₂, ◌∙◌, subst}
use mathlib.Core.Bool.{Bool, true, false, ◌&&◌}
use mathlib.Core.Logic.{◌↔◌}
use mathlib.Core.List.{List}
use Prim.Native.Nat.{ℕ, zero, suc, ◌+◌, ◌*◌, ◌/◌, ◌%◌, ◌<◌}
use native.Mathlib.Omega.{arith}
use borrow.Author.Tests.{eq-eqb, eqb-true, ltb-true, ltb-false}
use lib.Dec.{eqb, ltb, lit<}
use lib.ListN.{length, get_or, set, get_or-eq_default}
use lib.Seq.{get_or-set_other}
use Rattle.lists.specs.Lists.{table, unless, all_below, strictly_rising, absent}
use Rattle.lists.proofs.Bools.{both}
use Rattle.lists.proofs.Numbered.{below_all}
use Rattle.lists.proofs.Tables.{table_length, table_at}
use Rattle.algebra.specs.Field.{Laws}
use Rattle.algebra.specs.Sum.{sum, pow}
use Rattle.algebra.proofs.Ring.{ring}
use Rattle.algebra.proofs.Sum.{sum_congr, sum_split, sum_is_zero}
use Rattle.nibble.specs.Elem.{Elem, elem, ops}
use Rattle.nibble.proofs.Elem.{laws, elem_same, elem_zero}
use Rattle.box_words.specs.Box.{trays, dimension, racks, size, helpers, point, value, Data, word_of, Word}
use Rattle.box_words.proofs.Words.{word_at, word_symbol}
use Rattle.box_repair.specs.Share.{rack_of, Through, Top}
use Rattle.box_repair.specs.Repair.{others_below, repair_refusal, Repairs, RepairAnswer, Sent}
use Rattle.box_repair.specs.declared.Repaired.{Repaired}
use Rattle.box_repair.specs.Inner.{sum_of}
use Rattle.box_repair.proofs.Tops.{top_sum, top_symbol, top_is, tops_equal, word_sum, word_top}
use Rattle.box_repair.proofs.Grounds.{Repairable, repairable}
use Rattle.box_repair.proofs.Answers.{host_in}

-- another number than this ground's: the test passed
passes : (ok : Bool) (n rest m : ℕ) → ¬ (n ≡ m) → unless ok n rest ≡ m → (ok ≡ true) × (rest ≡ m)
passes true n rest m d e = (refl, e)
passes false n rest m d e = absurd (d e)

-- a refusal that is none of 2 to 6: two helpers out of the racks, and the last ground is left
module _ (lost : ℕ) (hs shares rack : List ℕ) (room m : ℕ) (other : (n : ℕ) → 1 < n → n < 7 → ¬ (n ≡ m)) where
  last_ground : repair_refusal lost hs shares rack room ≡ m → (all_below hs racks ≡ true) × (length hs ≡ helpers) × (unless (eqb (get_or shares 0 0) (get_or shares 1 0)) 8 0 ≡ m)
  unfolding repair_refusal
  last_ground z =
      let p2 = passes (eqb (length shares) helpers && eqb (length rack) size && eqb room 1) 2 _ m (other 2 (lit< tt) (lit< tt)) z in
      let p3 = passes (ltb lost trays && all_below hs racks && all_below shares 16 && others_below (lost % size) rack) 3 _ m (other 3 (lit< tt) (lit< tt)) p2.1 in
      let p4 = passes (strictly_rising hs) 4 _ m (other 4 (lit< tt) (lit< tt)) p3.1 in
      let p5 = passes (eqb (length hs) helpers) 5 _ m (other 5 (lit< tt) (lit< tt)) p4.1 in
      let p6 = passes (absent hs (lost / size)) 6 _ m (other 6 (lit< tt) (lit< tt)) p5.1 in
      let q1 = both (ltb lost trays && all_below hs racks && all_below shares 16) (others_below (lost % size) rack) p3.0 in
      let q2 = both (ltb lost trays && all_below hs racks) (all_below shares 16) q1.0 in
      let q3 = both (ltb lost trays) (all_below hs racks) q2.0 in
      (q3.1, eqb-true _ _ p5.0, p6.1)

-- ---- a polynomial of degree below 4 as data

module _ (e : List ℕ) (long : length e ≡ size) (small_at : (i : ℕ) → i < size → get_or e i 0 < 16) where
  padded : List ℕ
  padded = table (λ t. get_or e t 0) dimension

  padded_at : (t : ℕ) → t < dimension → get_or padded t 0 ≡ get_or e t 0
  unfolding padded
  padded_at t h = table_at _ dimension t h

  beyond : (t : ℕ) → size + t < dimension → get_or padded (size + t) 0 ≡ 0
  beyond t h = padded_at (size + t) h ∙ get_or-eq_default e 0 (omega arith)

  padded_data : Data padded
  unfolding padded
  padded_data = record { long = table_length _ dimension; symbols = record { at = λ i h. go i (subst (λ n. i < n) (table_length _ dimension) h) (ltb i size) refl } }
    where
      go : (i : ℕ) → i < dimension → (b : Bool) → ltb i size ≡ b → get_or padded i 0 < 16
      go i h true t = subst (λ n. n < 16) (sym (padded_at i h)) (small_at i (ltb-true i size t))
      go i h false t = subst (λ n. n < 16) (sym (padded_at i h ∙ get_or-eq_default e 0 (omega (arith, ltb-false i size t)))) (lit< tt)

  nothing : (q : Elem) (t : ℕ) → t < 3 → ops.mul (elem (get_or padded (size + t) 0)) (pow ops q (size + t)) ≡ ops.zero
  nothing q t h = ap (λ n. ops.mul (elem n) (pow ops q (size + t))) (beyond t (omega arith)) ∙ ap (λ z. ops.mul z (pow ops q (size + t))) elem_zero ∙ gone (pow ops q (size + t))
    where
      gone : (a : Elem) → ops.mul ops.zero a ≡ ops.zero
      gone a = let L : Laws ops = laws in simp (ring, L)

  padded_value : (q : Elem) → value dimension padded q ≡ value size e q
  unfolding value
  padded_value q =
      sum_split ops laws size 3 (λ t. ops.mul (elem (get_or padded t 0)) (pow ops q t))
      ∙ ap₂ ops.add (sum_congr ops size _ _ (λ t h. ap (λ n. ops.mul (elem n) (pow ops q t)) (padded_at t (omega arith)))) (sum_is_zero ops laws 3 _ (nothing q))
      ∙ left (sum ops size (λ t. ops.mul (elem (get_or e t 0)) (pow ops q t)))
    where
      left : (a : Elem) → ops.add a ops.zero ≡ a
      left a = let L : Laws ops = laws in simp (ring, L)

-- ---- the theorem

module _ (lost : ℕ) (hs shares rack old new : List ℕ) (r : Repaired) (p : RepairAnswer lost hs shares rack old new r) where
  -- refused with 8: no word
  differing : r.refusal ≡ 8 → (c : List ℕ) → Sent c lost hs shares rack → ⊥
  differing e c s =
      let g = last_ground lost hs shares rack (length old) 8 (λ n l h z. omega arith) (sym p.answer ∙ e) in
      let h0 = below_all hs racks g.0 0 (omega arith) in
      let h1 = below_all hs racks g.0 1 (omega arith) in
      none (tops_equal c s.word (get_or hs 0 0) (get_or hs 1 0) (get_or shares 0 0) (get_or shares 1 0) h0 h1 (s.sent 0 (omega arith)) (s.sent 1 (omega arith))) g.2
    where
      none : get_or shares 0 0 ≡ get_or shares 1 0 → unless (eqb (get_or shares 0 0) (get_or shares 1 0)) 8 0 ≡ 8 → ⊥
      none same z = let y : ◌≡◌ {A = ℕ} 0 8 = sym (ap (λ b. unless b 8 0) (eq-eqb _ _ same)) ∙ z in omega arith

  -- done: the word of the host rack's own polynomial
  module _ (e : r.refusal ≡ 0) where
    passed_all : repair_refusal lost hs shares rack (length old) ≡ 0
    passed_all = sym p.answer ∙ e

    told : Repairable lost shares rack (length old)
    told = repairable lost hs shares rack (length old) passed_all

    written : Repairs lost shares rack new
    written = p.done e

    through : Through (lost / size) (set rack (lost % size) written.value) written.top.polynomial
    through = written.top.through

    host : lost / size < racks
    host = host_in lost told.lost_in

    in_rack : (g : ℕ) → g < size → lost / size * size + g < trays
    in_rack g h = omega (arith, host)

    small_at : (i : ℕ) → i < size → get_or written.top.polynomial i 0 < 16
    small_at i h = through.symbols.at i (subst (λ n. i < n) (sym through.long) h)

    found : List ℕ
    found = padded written.top.polynomial through.long small_at

    word : Word (word_of found)
    unfolding found
    word = record { coefficients = found; given = padded_data written.top.polynomial through.long small_at; is = refl }

    at : (g : ℕ) → g < size → elem (get_or (word_of found) (lost / size * size + g) 0) ≡ elem (get_or (set rack (lost % size) written.value) g 0)
    unfolding found
    at g h =
        word_at found (lost / size * size + g) (in_rack g h)
        ∙ padded_value written.top.polynomial through.long small_at (point (lost / size * size + g))
        ∙ through.at g h

    sound : (g : ℕ) → g < size → ¬ (g ≡ lost % size) → get_or rack g 0 ≡ get_or (word_of found) (lost / size * size + g) 0
    sound g h d = sym (elem_same (word_symbol found (lost / size * size + g) (in_rack g h)) (told.sound.symbols g h d)
        (at g h ∙ ap elem (get_or-set_other rack (lost % size) g written.value 0 d)))

    -- what every rack of it sends
    share_is : elem (get_or shares 0 0) ≡ ops.add (elem (get_or word.coefficients 3 0)) (elem (get_or word.coefficients 6 0))
    unfolding sum_of
    share_is =
        top_sum (lost / size) (set rack (lost % size) written.value) (get_or shares 0 0) host written.top
        ∙ sum_congr ops size _ _ (λ g h. sym (at g h)) ∙ word_sum (word_of found) word (lost / size) host

    first : (i : ℕ) → i < racks → Top i (rack_of i (word_of found)) (get_or shares 0 0)
    first i h = subst (Top i (rack_of i (word_of found))) (elem_same (top_symbol i _ _ there) told.share_symbol_lem (word_top (word_of found) word i _ h there ∙ sym share_is)) there
      where
        there : Top i (rack_of i (word_of found)) (sum_of (rack_of i (word_of found))).val
        there = top_is i h (rack_of i (word_of found)) _ refl

    grounds : (all_below hs racks ≡ true) × (length hs ≡ helpers) × (unless (eqb (get_or shares 0 0) (get_or shares 1 0)) 8 0 ≡ 0)
    grounds = last_ground lost hs shares rack (length old) 0 (λ n l h z. omega arith) passed_all

    alike : (k : ℕ) → k < 2 → get_or shares 0 0 ≡ get_or shares k 0
    alike zero h = refl
    alike (suc zero) h = eqb-true _ _ (passes (eqb (get_or shares 0 0) (get_or shares 1 0)) 8 0 0 (λ z. omega arith) grounds.2).0
    alike (suc (suc k)) h = absurd (omega arith)

    some_word : Sent (word_of found) lost hs shares rack
    some_word = record {
      word = word;
      sent = λ k h. subst (Top (get_or hs k 0) (rack_of (get_or hs k 0) (word_of found))) (alike k (omega (arith, grounds.1))) (first (get_or hs k 0) (below_all hs racks grounds.0 k h));
      sound = sound;
    }

  -- past the other grounds the answer is 8 exactly when no word has the shares and the host rack's values
  pub eight_exactly : (¬ (r.refusal ≡ 0) → r.refusal ≡ 8) → (r.refusal ≡ 8) ↔ ((c : List ℕ) → Sent c lost hs shares rack → ⊥)
  eight_exactly past = (differing, λ none. past (λ e. none _ (some_word e)))
