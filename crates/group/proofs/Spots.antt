-- Runs in a buffer: where their numbers stand, and copies from them and into them.
-- Assumes nothing.
use mathlib.Core.Path.{◌≡◌, refl, sym, ap, ap₂, ◌∙◌, subst}
use mathlib.Core.List.{List}
use Prim.Native.Nat.{ℕ, zero, suc, ◌+◌, ◌-◌, ◌*◌, ◌/◌, ◌%◌, ◌<◌, ◌≤◌}
use native.Mathlib.Nat.{zero-add, zero-mul, add_assoc, mod-lt, div-lt_iff_lt-mul, not-suc-le-zero}
use native.Mathlib.Decide.{dec_lt, ℕ_discrete}
use native.Mathlib.Omega.{arith}
use mir.Val.{Fits}
use mir.Syntax.{w64}
use lib.Arith.{digits_div, digits_mod}
use lib.ListN.{length, get_or}
use Rattle.lists.proofs.Numbers.{cell_same}
use Rattle.kernel.specs.Inner.{Run, copied}
use Rattle.kernel.proofs.Runs.{run_none, run_append}
use Rattle.kernel.proofs.Rows.{row_end, row_before}
use Rattle.layout.specs.declared.Layout.{Layout}
use Rattle.layout.specs.Layout.{layers}
use Rattle.group.specs.Inner.{spot, gathered, Inside, Scattered, InTray, PutRows}

module _ (start run stride : ℕ) where
  -- number k of run c
  pub spot_run : (c k : ℕ) → k < run → spot start run stride (c * run + k) ≡ start + c * stride + k
  unfolding spot
  spot_run c k h = ap₂ (λ x y. start + x * stride + y) (digits_div c h) (digits_mod c h)

  -- the same from another start
  pub spot_from : (b j : ℕ) → spot (b + start) run stride j ≡ b + spot start run stride j
  unfolding spot
  spot_from b j = turn b start (j / run * stride) (j % run)
    where
      turn : (b s x y : ℕ) → b + s + x + y ≡ b + (s + x + y)
      turn b s x y = omega arith

  -- a number of an earlier run stands before run c
  pub spot_before : (c j : ℕ) → 0 < run → run ≤ stride → j < c * run → spot start run stride j < start + c * stride
  unfolding spot
  spot_before c j p q h =
      let k : j / run < c = (div-lt_iff_lt-mul p).1 h in
      let r = row_before (j / run) c stride k in
      let m = mod-lt j p in
      omega arith

  module _ (src : List ℕ) where
    pub gather_none : (was : List ℕ) → Run (gathered src start run stride) was was 0 (0 * run)
    gather_none was = rw (zero-mul run) (run_none (gathered src start run stride) was 0)

    pub gather_more : (c : ℕ) (was is new : List ℕ) → Run (gathered src start run stride) was is 0 (c * run) → Run (copied src (start + c * stride)) is new (c * run) run →
        Run (gathered src start run stride) was new 0 ((c + 1) * run)
    unfolding gathered copied
    gather_more c was is new r n =
        rw (row_end c run)
        (run_append (gathered src start run stride) (copied src (start + c * stride)) was is new 0 (c * run) run r
        (subst (λ k. Run (copied src (start + c * stride)) is new k run) (sym (zero-add (c * run))) n) (λ i h. ap (λ k. get_or src k 0) (sym (spot_run c i h))))

    pub gather_end : (c count : ℕ) (was is : List ℕ) → Run (gathered src start run stride) was is 0 (c * run) → c ≤ count → count ≤ c →
        Run (gathered src start run stride) was is 0 (count * run)
    gather_end c count was is r h k = let e : c ≡ count = omega arith in subst (λ n. Run (gathered src start run stride) was is 0 (n * run)) e r

  module _ (src : List ℕ) (from : ℕ) (was : List ℕ) where
    pub scatter_none : Scattered start run stride (0 * run) src from was was
    scatter_none = record { long = refl; done = λ j h. absurd (let e = zero-mul run in omega arith); other = λ i f. refl }

    pub scatter_more : (count n c : ℕ) (is new : List ℕ) → Inside start run count stride n → Scattered start run stride (c * run) src from was is →
        Run (copied src (from + c * run)) is new (start + c * stride) run → Scattered start run stride ((c + 1) * run) src from was new
    unfolding copied
    scatter_more count n c is new s g r = record {
      long = r.long ∙ g.long;
      done = λ j h. at j h (dec_lt j (c * run));
      other = λ i f. kept i f
          (dec_lt i (start + c * stride)) (dec_lt i (start + c * stride + run));
    }
      where
        last : (j : ℕ) → j < (c + 1) * run → ¬ (j < c * run) → j - c * run < run
        last j h d = let e = row_end c run in omega arith

        at : (j : ℕ) → j < (c + 1) * run → Dec (j < c * run) → get_or new (spot start run stride j) 0 ≡ get_or src (from + j) 0
        at j h (yes k) = r.low (spot start run stride j) (spot_before c j s.some s.apart k) ∙ g.done j k
        at j h (no d) =
            let e : c * run + (j - c * run) ≡ j = omega arith in
            subst (λ y. get_or new (spot start run stride y) 0 ≡ get_or src (from + y) 0) e
            (ap (λ y. get_or new y 0) (spot_run c (j - c * run) (last j h d)) ∙ r.done (j - c * run) (last j h d) ∙ ap (λ y. get_or src y 0) (add_assoc from (c * run) (j - c * run)))

        below : (k : ℕ) → k < run → c * run + k < (c + 1) * run
        below k h = let e = row_end c run in omega arith

        kept : (i : ℕ) → ((j : ℕ) → j < (c + 1) * run → ¬ (i ≡ spot start run stride j)) → Dec (i < start + c * stride) → Dec (i < start + c * stride + run) → get_or new i 0 ≡ get_or was i 0
        kept i f (yes k) d = r.low i k ∙ g.other i (λ j h. f j (let e = row_end c run in omega arith))
        kept i f (no k) (no d) = r.high i (omega arith) ∙ g.other i (λ j h. f j (let e = row_end c run in omega arith))
        kept i f (no k) (yes d) =
            let b : i - (start + c * stride) < run = omega arith in
            let e : i ≡ start + c * stride + (i - (start + c * stride)) = omega arith in
            absurd (f (c * run + (i - (start + c * stride))) (below (i - (start + c * stride)) b) (e ∙ sym (spot_run c (i - (start + c * stride)) b)))

    pub scatter_end : (c count : ℕ) (is : List ℕ) → Scattered start run stride (c * run) src from was is → c ≤ count → count ≤ c → Scattered start run stride (count * run) src from was is
    scatter_end c count is g h k = let e : c ≡ count = omega arith in subst (λ n. Scattered start run stride (n * run) src from was is) e g

-- ---- the runs of a tray
module _ (l : Layout) (w start run count stride : ℕ) (t : InTray l w start run count stride) where
  pub spot_in : (j : ℕ) → j < w → spot start run stride j < layers l
  unfolding spot
  spot_in j h =
      let k : j / run < count = (div-lt_iff_lt-mul t.inside.some).1 (rw t.whole h) in
      let e = t.inside.at (j / run) k in
      let m = mod-lt j t.inside.some in
      omega arith

  runs_some : 0 < count
  runs_some = go count t.whole
    where
      go : (c : ℕ) → c * run ≡ w → 0 < c
      go zero e = absurd (let z = zero-mul run in let p = t.some in omega arith)
      go (suc c) e = omega arith

  -- tray x of some trays
  module _ (x n total : ℕ) (xs : List ℕ) (h : x < n) (e : length xs ≡ n * layers l) (q : total ≡ layers l) where
    tray_end : x * total + layers l ≤ length xs
    tray_end = let b = row_before x n (layers l) h in let t : x * total ≡ x * layers l = ap (λ y. x * y) q in omega arith

    pub tray_fits_2 : Fits w64 (length xs) → Fits w64 (x * total + start)
    tray_fits_2 f = let a = t.inside.at 0 runs_some in let b = tray_end in omega arith

  module _ (found was : List ℕ) where
    pub put_none : (total : ℕ) → PutRows total w start run stride found was was 0
    put_none total = record { long = refl; done = λ i j h. absurd (not-suc-le-zero h); kept = λ i y h f. refl }

    put_next : (i total : ℕ) (is new : List ℕ) → total ≡ layers l → PutRows (layers l) w start run stride found was is i →
        Scattered (i * total + start) run stride (count * run) found (i * w) is new → PutRows (layers l) w start run stride found was new (i + 1)
    put_next i total is new et g r = record {
      long = r.long ∙ g.long;
      done = λ k j h b. at k j h b (ℕ_discrete k i);
      kept = λ k y h f. r.other (k * layers l + y) (λ j b e. f j (rw (sym t.whole) b) (same k y j h b e).1) ∙ g.kept k y h f;
    }
      where
        place : (j : ℕ) → spot (i * total + start) run stride j ≡ i * layers l + spot start run stride j
        place j = spot_from start run stride (i * total) j ∙ ap (λ y. i * y + spot start run stride j) et

        same : (k y j : ℕ) → y < layers l → j < count * run → k * layers l + y ≡ spot (i * total + start) run stride j → (k ≡ i) × (y ≡ spot start run stride j)
        same k y j h b e = cell_same (layers l) k i y (spot start run stride j) h (spot_in j (rw (sym t.whole) b)) (e ∙ place j)

        at : (k j : ℕ) → k < i + 1 → j < w → Dec (k ≡ i) → get_or new (k * layers l + spot start run stride j) 0 ≡ get_or found (k * w + j) 0
        at k j h b (yes q) =
            subst (λ y. get_or new (y * layers l + spot start run stride j) 0 ≡ get_or found (y * w + j) 0) (sym q)
            (ap (λ y. get_or new y 0) (sym (place j)) ∙ r.done j (rw t.whole b))
        at k j h b (no d) =
            r.other (k * layers l + spot start run stride j) (λ y c e. d (same k (spot start run stride j) y (spot_in j b) c e).0) ∙ g.done k j (omega arith) b

    module _ (total : ℕ) (et : total ≡ layers l) where
      pub put_more : (i : ℕ) (is new : List ℕ) → PutRows total w start run stride found was is i → Scattered (i * total + start) run stride (count * run) found (i * w) is new →
          PutRows total w start run stride found was new (i + 1)
      put_more i is new g r =
          subst (λ n. PutRows n w start run stride found was new (i + 1)) (sym et) (put_next i total is new et (subst (λ n. PutRows n w start run stride found was is i) et g) r)

      pub put_end : (i e : ℕ) (is : List ℕ) → PutRows total w start run stride found was is i → i ≤ e → e ≤ i → PutRows (layers l) w start run stride found was is e
      put_end i e is g h k = let q : i ≡ e = omega arith in subst (λ n. PutRows (layers l) w start run stride found was is n) q
          (subst (λ n. PutRows n w start run stride found was is i) et g)
