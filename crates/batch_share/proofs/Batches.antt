-- The part of one codeword: what adding runs of the whole buffers does to it, and what feeding all trays makes of it.
-- Assumes nothing.
use mathlib.Core.Path.{◌≡◌, refl, sym, ap, ap₂, ◌∙◌, subst}
use mathlib.Core.List.{List}
use Prim.Native.Nat.{ℕ, ◌+◌, ◌-◌, ◌*◌, ◌/◌, ◌%◌, ◌<◌, ◌≤◌}
use native.Mathlib.Nat.{one-mul, zero-add, add-zero, add-mul, mul_assoc, mul-pos, mul-le-mul_right, mod-lt, div-add-mod', div-lt_iff_lt-mul, not-suc-le-zero}
use native.Mathlib.Decide.{dec_lt}
use native.Mathlib.Omega.{arith}
use lib.ListN.{length, get_or, get_or-eq_default}
use Rattle.lists.proofs.Numbers.{cell_in}
use Rattle.algebra.proofs.Sum.{sum_congr}
use Rattle.algebra.specs.Coding.{InRange}
use Rattle.algebra.specs.Shape.{Field}
use Rattle.algebra.specs.Plain.{Working}
use Rattle.kernel.specs.Inner.{Run, filled}
use Rattle.kernel.proofs.Rows.{row_before}
use Rattle.layout.specs.declared.Layout.{Layout}
use Rattle.layout.specs.Layout.{layers, groups}
use Rattle.share.specs.Share.{share_of}
use Rattle.share.specs.Inner.{RunsOf, InTrays, layered, TraysAdded, Summing}
use Rattle.share.proofs.Sums.{runs_of, summed}
use Rattle.share.proofs.Parts.{fed_one, partly, partly_none, partly_long, partly_range, partly_all, gather_turn}
use Rattle.share.proofs.Weights.{one_shares}
use Rattle.batch_parts.specs.Parts.{part}
use Rattle.batch_parts.proofs.Parts.{part_long, part_at, part_place, part_range}
use Rattle.batch_share.specs.ShareBatch.{share_batch_refusal, ShareBatchAnswer}
use Rattle.batch_share.specs.Inner.{Gathering, Feeding, Fed, Shared}
use Rattle.batch_share.proofs.Refusals.{accepted}

-- symbol n of codeword q
pub place_is : (n m q a b : ℕ) → n ≡ a + b → n * m + q ≡ a * m + (b * m + q)
place_is n m q a b e = ap (λ y. y * m + q) e ∙ ap (λ y. y + q) (add-mul a b m) ∙ omega arith

-- number i of run k
pub run_place : (k run i m q : ℕ) → (k * run + i) * m + q ≡ k * (run * m) + (i * m + q)
run_place k run i m q = place_is (k * run + i) m q (k * run) i refl ∙ ap (λ y. y + (i * m + q)) (mul_assoc k run m)

-- the same of a tray
tray_place : (g L n w i m q : ℕ) → (g + n * L + (w + i)) * m + q ≡ g * m + n * (L * m) + (w * m + (i * m + q))
tray_place g L n w i m q =
    place_is (g + n * L + (w + i)) m q (g + n * L) (w + i) refl
    ∙ ap₂ ◌+◌ (add-mul g (n * L) m ∙ ap (λ y. g * m + y) (mul_assoc n L m)) (place_is (w + i) m q w i refl)

module _ {A : Type 0} {f : Field A} (W : Working f) (l : Layout) (h many : ℕ) (rack : List ℕ) where
  open f use {ops}
  open f.coding use {elem, size}

  -- what is told of one codeword
  module _ (g m : ℕ) (out : List ℕ) (t : Feeding f l h many rack g m out) where
    abbrev rack_part_lem : (q : ℕ) → q < many → length (part many q rack) ≡ l.size * layers l
    rack_part_lem q hq = part_long many q hq rack (l.size * layers l) t.told.long

    abbrev out_part : (q : ℕ) → q < many → length (part many q out) ≡ groups l
    out_part q hq = part_long many q hq out (groups l) t.told.room

    within_rack : g * layers l + m * layers l ≤ l.size * layers l
    within_rack = omega (arith, mul-le-mul_right (layers l) t.within, add-mul g m (layers l))

    part_summing : (q : ℕ) → q < many → Summing f l h (part many q rack) (g * layers l) m (part many q out)
    part_summing q hq = record {
      adm = t.told.adm;
      long = omega (arith, rack_part_lem q hq, within_rack);
      room = omega (arith, out_part q hq);
      host_in = t.told.host_in;
      some_trays = t.some_trays;
      at_once = t.at_once;
      given = part_range many q hq rack (l.size * layers l) t.told.long f.coding t.told.given;
      held = λ n k. (part_range many q hq out (groups l) t.told.room f.coding t.held).at n (omega (arith, out_part q hq));
    }

    module _ (s run count far : ℕ) (r : RunsOf l h s run count far) where
      abbrev single : InTrays f s run count (part many 0 rack) (g * layers l) far m (part many 0 out)
      single = runs_of l h s run count far t.told.adm.cabinet t.told.host_in r f (part many 0 rack) (g * layers l) m (part many 0 out) (part_summing 0 t.told.some)

      groups_in : count * run ≤ groups l
      groups_in = omega (arith, single.room, out_part 0 t.told.some)

      tray_at : (n : ℕ) → n < m → g * layers l + n * far + far ≤ l.size * layers l
      tray_at n hn = omega (arith, row_before n m (layers l) hn, within_rack, ap (λ (y : ℕ). n * y) r.layers_are, r.layers_are)

      -- products that are numbers
      pub far_in : far * many ≤ length rack
      far_in = rw t.told.long (mul-le-mul_right many (omega (arith, tray_at 0 t.some_trays)))

      pub start_in : g * (far * many) ≤ length rack
      start_in =
          let e : g * (far * many) ≡ g * layers l * many = ap (λ y. g * (y * many)) r.layers_are ∙ sym (mul_assoc g (layers l) many) in
          rw (t.told.long, e) (mul-le-mul_right many (omega (arith, within_rack)))

      pub run_in : run * many ≤ length rack
      run_in =
          let b : run ≤ far = omega (arith, single.whole, row_before 0 (count * s) run (mul-pos single.some_runs single.some_digits)) in
          omega (arith, far_in, mul-le-mul_right many b)

      -- the whole buffers in runs
      pub in_trays : (at gap : ℕ) → gap ≡ far * many → at ≡ g * gap → InTrays f s (run * many) count rack at gap m out
      in_trays at gap e-gap e-at = record {
        some = mul-pos single.some t.told.some;
        some_runs = single.some_runs;
        some_digits = single.some_digits;
        some_trays = t.some_trays;
        whole = e-gap ∙ ap (λ y. y * many) single.whole ∙ mul_assoc (count * s) run many;
        long = long;
        room = rw (t.told.room, sym (mul_assoc count run many)) (mul-le-mul_right many groups_in);
        given = t.told.given;
        held = λ n k. t.held.at n (rw t.told.room (less n k));
        few = single.few;
      }
        where
          less : (n : ℕ) → n < count * (run * many) → n < groups l * many
          less n k = omega (arith, mul-le-mul_right many groups_in, mul_assoc count run many)

          start : at ≡ g * layers l * many
          start = e-at ∙ ap (λ y. g * y) (e-gap ∙ ap (λ y. y * many) r.layers_are) ∙ sym (mul_assoc g (layers l) many)

          trays_long : m * gap ≡ m * layers l * many
          trays_long = ap (λ y. m * y) (e-gap ∙ ap (λ y. y * many) r.layers_are) ∙ sym (mul_assoc m (layers l) many)

          long : at + m * gap ≤ length rack
          long = rw (t.told.long, start, trays_long, sym (add-mul (g * layers l) (m * layers l) many)) (mul-le-mul_right many within_rack)

      -- what is added to the whole is added to each part
      module _ (at gap : ℕ) (e-gap : gap ≡ far * many) (e-at : at ≡ g * gap) (is : List ℕ) (d : TraysAdded f s (run * many) count rack at gap m out is) (q : ℕ) (hq : q < many) where
        is_long : length is ≡ groups l * many
        is_long = d.same ∙ t.told.room

        start : at ≡ g * layers l * many
        start = e-at ∙ ap (λ y. g * y) (e-gap ∙ ap (λ y. y * many) r.layers_are) ∙ sym (mul_assoc g (layers l) many)

        is_at : (k i : ℕ) → k < count → i < run → (xs : List ℕ) → length xs ≡ groups l * many → get_or (part many q xs) (k * run + i) 0 ≡ get_or xs (k * (run * many) + (i * many + q)) 0
        is_at k i hk hi xs e =
            part_at many q hq xs (groups l) e (k * run + i) (omega (arith, cell_in count run k i hk hi, groups_in))
            ∙ ap (λ (n : ℕ). get_or xs n 0) (run_place k run i many q)

        layer_at : (k i n b : ℕ) → k < count → i < run → n < m → b < s →
            layered f s (run * many) rack (at + n * gap) k (i * many + q) b ≡ layered f s run (part many q rack) (g * layers l + n * far) k i b
        unfolding layered
        layer_at k i n b hk hi hn hb = ap elem (sym (
            part_at many q hq rack (l.size * layers l) t.told.long (g * layers l + n * far + ((k * s + b) * run + i))
            (omega (arith, tray_at n hn, single.whole, cell_in (count * s) run (k * s + b) i (cell_in count s k b hk hb) hi))
            ∙ ap (λ (y : ℕ). get_or rack y 0) (tray_place (g * layers l) far n ((k * s + b) * run) i many q
            ∙ ap₂ ◌+◌ (ap₂ ◌+◌ (sym start) (ap (λ y. n * y) (sym e-gap))) (ap (λ y. y + (i * many + q)) (mul_assoc (k * s + b) run many)))))

        pub part_added : TraysAdded f s run count (part many q rack) (g * layers l) far m (part many q out) (part many q is)
        part_added = record {
          same = part_long many q hq is (groups l) is_long ∙ sym (out_part q hq);
          done = λ k i hk hi.
              ap elem (is_at k i hk hi is is_long) ∙ d.done k (i * many + q) hk (cell_in run many i q hi hq)
              ∙ ap₂ ops.add (ap elem (sym (is_at k i hk hi out t.told.room)))
              (sum_congr ops m _ _ (λ n hn. sum_congr ops s _ _ (λ b hb. layer_at k i n b hk hi hn hb)));
          small = λ pos k i hk hi. subst (λ n. n < size) (sym (is_at k i hk hi is is_long)) (d.small pos k (i * many + q) hk (cell_in run many i q hi hq));
          rest = λ n k. go n k (dec_lt n (groups l));
        }
          where
            go : (n : ℕ) → count * run ≤ n → Dec (n < groups l) → get_or (part many q is) n 0 ≡ get_or (part many q out) n 0
            go n k (yes b) =
                part_at many q hq is (groups l) is_long n b
                ∙ d.rest (n * many + q) (omega (arith, mul-le-mul_right many k, mul_assoc count run many))
                ∙ sym (part_at many q hq out (groups l) t.told.room n b)
            go n k (no b) =
                get_or-eq_default (part many q is) 0 (omega (arith, part_long many q hq is (groups l) is_long))
                ∙ sym (get_or-eq_default (part many q out) 0 (omega (arith, out_part q hq)))

      pub fed : (at gap : ℕ) → gap ≡ far * many → at ≡ g * gap → (is : List ℕ) → TraysAdded f s (run * many) count rack at gap m out is → Fed f l h many rack g m out is
      fed at gap e-gap e-at is d = record {
        same = d.same;
        parts = λ q hq x.
            fed_one W l 1 h x (part many q rack) (g * layers l) (part many q out) m (out_part q hq ∙ sym (one-mul (groups l))) (part many q is)
            (summed l h s run count far t.told.adm.cabinet t.told.host_in r W t.told.adm (part many q rack) (g * layers l) m (part many q out) (part many q is) t.some_trays
            (part_added at gap e-gap e-at is d q hq)) (omega arith) (omega arith);
      }

  -- each codeword's share after g trays
  pub record Partly (g : ℕ) (is : List ℕ) : Type 0 where
    pub long : length is ≡ groups l * many
    pub parts : (q : ℕ) → q < many → part many q is ≡ partly f W.field l 1 h 0 (part many q rack) g

  module _ (was : List ℕ) (t : Gathering f l h many rack was) where
    pub partly_start : (n : ℕ) (is : List ℕ) → n ≡ length was → Run (filled 0) was is 0 n → Partly 0 is
    unfolding filled
    partly_start n is en r = record {
      long = r.long ∙ t.room;
      parts = λ q hq.
          let e : length is ≡ groups l * many = r.long ∙ t.room in
          partly_none W l 1 h 0 (part many q rack) (length (part many q was)) (part many q was) (part many q is)
          (part_long many q hq was (groups l) t.room ∙ sym (one-mul (groups l))) refl (record {
            long = part_long many q hq is (groups l) e ∙ sym (part_long many q hq was (groups l) t.room);
            done = λ j hj.
                let k : j < groups l = subst (λ n. j < n) (part_long many q hq was (groups l) t.room) hj in
                ap (λ (i : ℕ). get_or (part many q is) i 0) (zero-add j) ∙ part_at many q hq is (groups l) e j k
                ∙ ap (λ (i : ℕ). get_or is i 0) (sym (zero-add (j * many + q)))
                ∙ r.done (j * many + q) (omega (arith, en, part_place many q hq was (groups l) t.room j k));
            low = λ i hi. absurd (not-suc-le-zero hi);
            high = λ i hi.
                get_or-eq_default (part many q is) 0 (omega (arith, part_long many q hq is (groups l) e, part_long many q hq was (groups l) t.room))
                ∙ sym (get_or-eq_default (part many q was) 0 (omega arith));
          });
    }

    -- what the shares hold are symbols
    partly_held : (g : ℕ) (is : List ℕ) → Partly g is → InRange f.coding is
    partly_held g is p = record {
      at = λ n hn.
          let some : 0 < many = t.some in
          let k : n / many < groups l = (div-lt_iff_lt-mul some).1 (subst (λ y. n < y) p.long hn) in
          subst (λ y. get_or is y 0 < size) (div-add-mod' n many)
          (subst (λ y. y < size) (part_at many (n % many) (mod-lt n some) is (groups l) p.long (n / many) k)
          (subst (λ ys. get_or ys (n / many) 0 < size) (sym (p.parts (n % many) (mod-lt n some)))
          ((partly_range f W.field l 1 h 0 (part many (n % many) rack) g).at (n / many) (omega (arith, partly_long f W.field l 1 h 0 (part many (n % many) rack) g, one-mul (groups l))))));
    }

    pub partly_told : (g m : ℕ) (is : List ℕ) → Partly g is → (0 < m) × (m ≤ l.size - g) × (m ≤ 4) → g < l.size → Feeding f l h many rack g m is
    partly_told g m is p b less = record {
      told = record { adm = t.adm; some = t.some; long = t.long; room = p.long; host_in = t.host_in; given = t.given };
      held = partly_held g is p;
      some_trays = b.0;
      at_once = b.2;
      within = omega (arith, b.1);
    }

    pub partly_end : (g : ℕ) (is : List ℕ) → Partly g is → g ≤ l.size → l.size ≤ g → Shared f l h many rack was is
    partly_end g is p low high = record {
      same = p.long ∙ sym t.room;
      parts = λ q hq. let e : g ≡ l.size = omega arith in p.parts q hq ∙ partly_all f W.field l 1 h 0 (part many q rack) g e ∙ one_shares f l h (part many q rack);
    }

  pub partly_turn : (g m : ℕ) (is new : List ℕ) → Partly g is → Fed f l h many rack g m is new → Partly (g + m) new
  partly_turn g m is new p d = record {
    long = d.same ∙ p.long;
    parts = λ q hq.
        gather_turn W l 1 h 0 (part many q rack) g m (g * layers l) (0 * l.size + g) (part many q is) (part many q new) (sym (add-zero (g * layers l))) refl (p.parts q hq)
        (d.parts q hq (0 * l.size + g));
  }

-- the contract
module _ {A : Type 0} (f : Field A) (l : Layout) (many host helper : ℕ) (rack old : List ℕ) where
  pub answer_refused : (n i j : ℕ) → i ≡ host → j ≡ helper → n ≡ share_batch_refusal f l many i j rack (length old) → ¬ (n ≡ 0) → ShareBatchAnswer f l many host helper rack old old n
  answer_refused n i j ei ej e some = record {
    answer = e ∙ ap₂ (λ x y. share_batch_refusal f l many x y rack (length old)) ei ej;
    unchanged = λ k. refl;
    long = refl;
    done = λ z. absurd (some z);
  }

  pub answer_none : (n i j : ℕ) → i ≡ host → j ≡ helper → n ≡ share_batch_refusal f l many i j rack (length old) → n ≡ 0 → many ≡ 0 → ShareBatchAnswer f l many host helper rack old old 0
  answer_none n i j ei ej e z none = record {
    answer = sym z ∙ e ∙ ap₂ (λ x y. share_batch_refusal f l many x y rack (length old)) ei ej;
    unchanged = λ k. refl;
    long = refl;
    done = λ k q hq. absurd (omega arith);
  }

  pub answer_told : (n i j : ℕ) → n ≡ share_batch_refusal f l many i j rack (length old) → n ≡ 0 → ¬ (many ≡ 0) → Gathering f l i many rack old
  answer_told n i j e z some = accepted f l many i j rack (length old) (sym e ∙ z) (omega arith) old refl

  pub answer_done : (n i j : ℕ) (new : List ℕ) → i ≡ host → j ≡ helper → n ≡ share_batch_refusal f l many i j rack (length old) → n ≡ 0 → Shared f l i many rack old new →
      ShareBatchAnswer f l many host helper rack old new 0
  answer_done n i j new ei ej e z s = record {
    answer = sym z ∙ e ∙ ap₂ (λ x y. share_batch_refusal f l many x y rack (length old)) ei ej;
    unchanged = λ k. absurd (k refl);
    long = s.same;
    done = λ k q hq. s.parts q hq ∙ ap (λ y. share_of f l 0 y (part many q rack)) ei;
  }
