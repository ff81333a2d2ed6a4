-- Writing a block, and block after block.
-- Assumes nothing.
use mathlib.Core.Path.{◌≡◌, refl, sym, ap, ◌∙◌, subst}
use mathlib.Core.List.{List}
use Prim.Native.Nat.{ℕ, ◌+◌, ◌-◌, ◌*◌, ◌<◌, ◌≤◌}
use native.Mathlib.Nat.{add_assoc, mul-le-mul_right, le_trans}
use native.Mathlib.Decide.{ℕ_discrete, dec_lt}
use native.Mathlib.Omega.{arith}
use lib.ListN.{length, get_or}
use Rattle.algebra.specs.Erasure.{zeros, Alike, Places, recover}
use Rattle.algebra.specs.Repair.{restored}
use Rattle.algebra.proofs.Erasure.{fill_at, fill_outside, fill_values, fill_congr, erased_congr, place_cases}
use Rattle.algebra.specs.Shape.{Field}
use Rattle.algebra.specs.Plain.{Working}
use Rattle.kernel.specs.Inner.{Run, copied}
use Rattle.kernel.proofs.Rows.{row_end, row_before, row_in, cell_is}
use Rattle.layout.specs.declared.Layout.{Layout}
use Rattle.layout.specs.Layout.{trays, checks, layers}
use Rattle.blocks.specs.Inner.{Block}
use Rattle.codeword.specs.Codeword.{symbol_at, point_at}
use Rattle.syndrome.specs.Inner.{entry_of, Sums}
use Rattle.restore.specs.Inner.{restored_at, Erasing, RestoredTo, erased_at, Cells, PutBlock, BlockRestored}
use Rattle.solving.specs.Inner.{FoundBlock}
use Rattle.restore.proofs.Solve.{found_erased}

-- ---- a row of what was found
module _ (total w first e : ℕ) (g : ℕ → ℕ) (was is : List ℕ) (inside : first + w ≤ total) (r : Run g was is (e * total + first) w) where
  -- another tray, or another layer of this one, stays
  other_tray : (x j : ℕ) → j < total → ¬ (x ≡ e) → get_or is (x * total + j) 0 ≡ get_or was (x * total + j) 0
  other_tray x j h d = go (dec_lt x e)
    where
      go : Dec (x < e) → get_or is (x * total + j) 0 ≡ get_or was (x * total + j) 0
      go (yes l) = r.low (x * total + j) (let q = row_before x e total l in omega arith)
      go (no l) = r.high (x * total + j) (let q = row_before e x total (omega arith) in omega arith)

  earlier_layer : (x j : ℕ) → j < first → get_or is (x * total + j) 0 ≡ get_or was (x * total + j) 0
  earlier_layer x j h = go (ℕ_discrete x e)
    where
      go : Dec (x ≡ e) → get_or is (x * total + j) 0 ≡ get_or was (x * total + j) 0
      go (yes q) = subst (λ n. get_or is (n * total + j) 0 ≡ get_or was (n * total + j) 0) (sym q) (r.low (e * total + j) (omega arith))
      go (no d) = other_tray x j (omega arith) d

  later_layer : (x j : ℕ) → j < total → first + w ≤ j → get_or is (x * total + j) 0 ≡ get_or was (x * total + j) 0
  later_layer x j h n = go (ℕ_discrete x e)
    where
      go : Dec (x ≡ e) → get_or is (x * total + j) 0 ≡ get_or was (x * total + j) 0
      go (yes q) = subst (λ n. get_or is (n * total + j) 0 ≡ get_or was (n * total + j) 0) (sym q) (r.high (e * total + j) (omega arith))
      go (no d) = other_tray x j h d

pub put_more : (total w first : ℕ) (es found was is new : List ℕ) (k : ℕ) → Cells total w first es was found → k < length es → PutBlock total w first es found was is k →
    Run (copied found (k * w)) is new (get_or es k 0 * total + first) w → PutBlock total w first es found was new (k + 1)
unfolding copied
put_more total w first es found was is new k s hk g r = record {
  long = r.long ∙ g.long;
  here = λ i j h b. go i j h b (ℕ_discrete i k);
  kept = λ x j h n. other_tray total w first (get_or es k 0) _ is new s.inside r x (first + j) (let q = s.inside in omega arith) (n k (omega arith)) ∙ g.kept x j h (λ i l. n i (omega arith));
  before = λ x j h. earlier_layer total w first (get_or es k 0) _ is new s.inside r x j h ∙ g.before x j h;
  after = λ x j h n. later_layer total w first (get_or es k 0) _ is new s.inside r x j h n ∙ g.after x j h n;
}
  where
    go : (i j : ℕ) → i < k + 1 → j < w → Dec (i ≡ k) → get_or new (get_or es i 0 * total + (first + j)) 0 ≡ get_or found (i * w + j) 0
    go i j h b (yes q) =
        subst (λ n. get_or new (get_or es n 0 * total + (first + j)) 0 ≡ get_or found (n * w + j) 0) (sym q)
        (ap (λ n. get_or new n 0) (sym (add_assoc (get_or es k 0 * total) first j)) ∙ r.done j b)
    go i j h b (no d) =
        other_tray total w first (get_or es k 0) _ is new s.inside r (get_or es i 0) (first + j) (let q = s.inside in omega arith) (λ e. d (s.apart i k (omega arith) hk e))
        ∙ g.here i j (omega arith) b

pub cells_of : (l : Layout) (total w first : ℕ) (es c found : List ℕ) → Block l w first → Erasing l total es c → checks l * w ≤ length found → Cells total w first es c found
cells_of l total w first es c found b p h = record {
  apart = p.listed.places.apart;
  trays_in = λ k q.
      let e = row_before (get_or es k 0) (trays l) (layers l) (p.listed.places.inside k q) in
      let t : get_or es k 0 * total ≡ get_or es k 0 * layers l = ap (λ n. get_or es k 0 * n) p.total_is in
      let n = p.long in
      let m = p.total_is in
      omega arith;
  inside = let i = b.inside in let m = p.total_is in omega arith;
  found_long = le_trans (mul-le-mul_right w p.listed.few) h;
}

pub put_in : (total w first : ℕ) (es found was is : List ℕ) (k : ℕ) → Cells total w first es was found → length is ≡ length was → k < length es → get_or es k 0 * total + first + w ≤ length is
put_in total w first es found was is k s e h = let q = s.trays_in k h in let i = s.inside in omega arith

pub put_from : (total w first : ℕ) (es found c : List ℕ) (k : ℕ) → Cells total w first es c found → k < length es → k * w + w ≤ length found
put_from total w first es found c k s h = row_in found (length es) w k s.found_long h

module _ {A : Type 0} {f : Field A} (W : Working f) where
  open f use {ops}
  open f.coding use {elem, size}

  -- ---- a block
  pub block_restored : (l : Layout) (total w first : ℕ) (es c sums found d : List ℕ) → Block l w first → Erasing l total es c → Sums f l w first (length es) c es (trays l) sums →
      FoundBlock f l w first es sums found → PutBlock total w first es found c d (length es) → BlockRestored f l w first es c d
  unfolding symbol_at restored recover erased_at point_at
  block_restored l total w first es c sums found d b p s z put = record {
    long = g.long;
    here = here;
    small = λ k j hk hj. rw (g.here k j hk hj) (z.small k j hk hj);
    kept = λ x j hj n. kept x j hj n (dec_lt j first) (dec_lt j (first + w));
    before = g.before;
    after = g.after;
  }
    where
      g : PutBlock (layers l) w first es found c d (length es)
      g = subst (λ n. PutBlock n w first es found c d (length es)) p.total_is put

      kept : (x j : ℕ) → j < layers l → ((k : ℕ) → k < length es → ¬ (x ≡ get_or es k 0)) → Dec (j < first) → Dec (j < first + w) → get_or d (x * layers l + j) 0 ≡ get_or c (x * layers l + j) 0
      kept x j hj n (yes h) e = g.before x j h
      kept x j hj n (no h) (no e) = g.after x j hj (omega arith)
      kept x j hj n (no h) (yes e) =
          subst (λ i. get_or d (x * layers l + i) 0 ≡ get_or c (x * layers l + i) 0) back (g.kept x (j - first) (omega arith) n)
        where
          back : first + (j - first) ≡ j
          back = omega arith

      here : (x j : ℕ) → x < trays l → j < w → symbol_at f l d x (first + j) ≡ restored_at f l es c x (first + j)
      here x j hx hj =
          place_cases (symbol_at f l d x (first + j) ≡ restored_at f l es c x (first + j)) (entry_of es) (length es) x
          (λ k hk e.
          subst (λ y. symbol_at f l d y (first + j) ≡ restored_at f l es c y (first + j)) (sym e)
          (ap elem (g.here k j hk hj) ∙ cell_is f w found k j ∙ found_erased W l w first es c sums (length es) (omega arith) s j hj found z k hk
          ∙ sym (fill_at (entry_of es) (erased_at f l es c (first + j)) (λ y. symbol_at f l c y (first + j)) (length es) (trays l) p.listed.places k hk)))
          (λ kept.
          ap elem (g.kept x j hj kept)
          ∙ sym (fill_outside (entry_of es) (erased_at f l es c (first + j)) (λ y. symbol_at f l c y (first + j)) (length es) x kept))

  -- ---- block after block
  module _ (l : Layout) (es c : List ℕ) where
    pub restored_none : (w : ℕ) → RestoredTo f l es c (0 * w) c
    restored_none w = record {
      long = refl;
      done = λ x j h b. absurd (omega arith);
      small = λ k j h b. absurd (omega arith);
      kept = λ x j h n. refl;
      rest = λ x j h n. refl;
    }

    -- what is worked out in a layer hangs on that layer alone
    layer_alone : Places (entry_of es) (length es) (trays l) → (d : List ℕ) (j : ℕ) → ((x : ℕ) → x < trays l → symbol_at f l d x j ≡ symbol_at f l c x j) →
        (x : ℕ) → x < trays l → restored_at f l es d x j ≡ restored_at f l es c x j
    unfolding restored recover
    layer_alone p d j same x h =
        fill_values (entry_of es) _ _ (λ y. symbol_at f l d y j) (length es) x
        (λ k b. erased_congr ops _ (trays l) (entry_of es) (length es) p (zeros ops) (zeros ops) (λ y. symbol_at f l d y j) (λ y. symbol_at f l c y j) (λ t q. refl) alike k)
        ∙ fill_congr ops (point_at f l j) (trays l) (entry_of es) (length es) p _ (λ y. symbol_at f l d y j) (λ y. symbol_at f l c y j) alike x h
      where
        alike : Alike (entry_of es) (length es) (trays l) (λ y. symbol_at f l d y j) (λ y. symbol_at f l c y j)
        alike = record { at = λ y b w. same y b }

    pub restored_more : (w q : ℕ) (d e : List ℕ) → Places (entry_of es) (length es) (trays l) → q * w + w ≤ layers l → RestoredTo f l es c (q * w) d → BlockRestored f l w (q * w) es d e →
        RestoredTo f l es c ((q + 1) * w) e
    unfolding symbol_at
    restored_more w q d e p inside r g = record {
      long = g.long ∙ r.long;
      done = λ x j hx hj. go x j hx hj (dec_lt j (q * w));
      small = λ k j hk hj. low k j hk hj (dec_lt j (q * w));
      kept = λ x j hj n. g.kept x j hj n ∙ r.kept x j hj n;
      rest = λ x j hj n. let t = row_end q w in g.after x j hj (omega arith) ∙ r.rest x j hj (omega arith);
    }
      where
        below : (j : ℕ) → j < (q + 1) * w → ¬ (j < q * w) → j - q * w < w
        below j h n = let t = row_end q w in omega arith

        back : (j : ℕ) → ¬ (j < q * w) → q * w + (j - q * w) ≡ j
        back j n = omega arith

        low : (k j : ℕ) → k < length es → j < (q + 1) * w → Dec (j < q * w) → get_or e (get_or es k 0 * layers l + j) 0 < size
        low k j hk hj (yes h) = rw (g.before (get_or es k 0) j h) (r.small k j hk h)
        low k j hk hj (no h) = subst (λ i. get_or e (get_or es k 0 * layers l + i) 0 < size) (back j h) (g.small k (j - q * w) hk (below j hj h))

        go : (x j : ℕ) → x < trays l → j < (q + 1) * w → Dec (j < q * w) → symbol_at f l e x j ≡ restored_at f l es c x j
        go x j hx hj (yes h) = ap elem (g.before x j h) ∙ r.done x j hx h
        go x j hx hj (no h) =
            subst (λ i. symbol_at f l e x i ≡ restored_at f l es c x i) (back j h)
            (g.here x (j - q * w) hx (below j hj h)
            ∙ layer_alone p d (q * w + (j - q * w)) (λ y b. let u = below j hj h in ap elem (r.rest y (q * w + (j - q * w)) (omega arith) (omega arith))) x hx)

    pub restored_end : (w q count : ℕ) (d : List ℕ) → RestoredTo f l es c (q * w) d → q ≤ count → count ≤ q → count * w ≡ layers l → RestoredTo f l es c (layers l) d
    restored_end w q count d r h k e = let u : q ≡ count = omega arith in subst (λ n. RestoredTo f l es c n d) (ap (λ n. n * w) u ∙ e) r
