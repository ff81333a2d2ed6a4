-- A tray and sums in runs: where they lie, and a turn of each loop over them.
-- Assumes nothing.
use mathlib.Core.Path.{◌≡◌, ap, ap₂, ◌∙◌, subst}
use mathlib.Core.List.{List}
use Prim.Native.Nat.{ℕ, ◌+◌, ◌*◌, ◌<◌, ◌≤◌}
use native.Mathlib.Nat.{add_comm, add-mul, mul_assoc}
use native.Mathlib.Decide.{ℕ_discrete}
use native.Mathlib.Omega.{arith}
use lib.ListN.{length, get_or}
use Rattle.lists.proofs.Numbers.{cell_in, cell_same}
use Rattle.algebra.specs.Sum.{sum}
use Rattle.algebra.proofs.Sum.{sum_congr}
use Rattle.algebra.specs.Shape.{Field}
use Rattle.algebra.specs.Plain.{Working}
use Rattle.kernel.specs.Inner.{Run, apart, grid, Gridding, added_grid, Spaced, Spacing, added_spaced}
use Rattle.kernel.proofs.Rows.{row_before, row_end}
use Rattle.share.specs.Inner.{InTrays, AcrossAdded, layered, TraysAdded}

-- m trays
module _ {A : Type 0} {f : Field A} (s run count : ℕ) (symbols : List ℕ) (at far m : ℕ) (sums : List ℕ) (t : InTrays f s run count symbols at far m sums) where
  -- run q of the sums, and where the runs of a tray lie that go to it
  sums_run : (q : ℕ) → q < count → q * run + run ≤ length sums
  sums_run q h = omega (arith, row_before q count run h, t.room)

  tray_runs : (q : ℕ) → q < count → q * s * run + s * run ≤ far
  tray_runs q h = omega (arith, row_before q count (s * run) h, t.whole, mul_assoc count s run, mul_assoc q s run)

  one_run : run ≤ s * run
  one_run = omega (arith, row_before 0 s run t.some_digits)

  one_tray : far ≤ m * far
  one_tray = omega (arith, row_before 0 m far t.some_trays)

  run_in : (q : ℕ) → q < count → at + q * s * run + run ≤ length symbols
  run_in q h = omega (arith, tray_runs q h, one_run, one_tray, t.long)

  -- tray g
  tray_in : (g : ℕ) → g < m → at + g * far + far ≤ length symbols
  tray_in g h = omega (arith, row_before g m far h, t.long)

  -- what the kernel is told of number i of each run
  pub spacing : (i : ℕ) (is : List ℕ) → i < run → AcrossAdded f s run count i symbols at far m sums is → Spacing f is i run count symbols (at + i) (s * run) run s far m
  spacing i is h d = record {
    given = t.given;
    held = λ q l. rw (add_comm i (q * run), d.later q i (omega arith) h) (t.held _ (cell_in count run q i l h));
    some = t.some;
    room = omega (arith, t.room, d.same);
    long = omega (arith, t.long, t.whole, mul_assoc count s run, one_tray, one_run);
    lies = λ q l. record { some = t.some_digits; rows = λ g k. omega (arith, tray_runs q l, mul_assoc q s run, tray_in g k) };
    few = t.few;
  }

  -- what the kernel is told of run q
  pub gridding : (q : ℕ) (is : List ℕ) → q < count → length is ≡ length sums → ((k : ℕ) → q * run ≤ k → get_or is k 0 ≡ get_or sums k 0) →
      Gridding f is (q * run) run symbols (at + q * s * run) run s far m
  gridding q is h e same = record {
    given = t.given;
    held = λ j l. rw (same (q * run + j) (omega arith)) (t.held _ (cell_in count run q j h l));
    room = rw e (sums_run q h);
    long = run_in q h;
    lies = λ j l. record { some = t.some_digits; rows = λ g k. omega (arith, tray_runs q h, tray_in g k) };
    few = t.few;
  }

module _ {A : Type 0} {f : Field A} (W : Working f) where
  open f use {ops}
  open f.coding use {elem, size}

  -- across the runs
  module _ (s run count : ℕ) (symbols : List ℕ) (at far m : ℕ) (was : List ℕ) where
    -- number n of each run
    pub across_more : (n : ℕ) (is new : List ℕ) → n < run → AcrossAdded f s run count n symbols at far m was is →
        Spaced (added_spaced f is n run symbols (at + n) (s * run) run s far m) is new n run count → AcrossAdded f s run count (n + 1) symbols at far m was new
    unfolding added_spaced grid apart layered
    across_more n is new below d r = record {
      same = r.long ∙ d.same;
      done = λ q i h l k. go q i h k (ℕ_discrete i n) l;
      small = λ q i h l k. low q i h k (ℕ_discrete i n) l;
      later = λ q i h l. other q i l (λ e. omega arith) ∙ d.later q i (omega arith) l;
      rest = λ k h. r.other k (λ j b e. omega (arith, cell_in count run j n b below)) ∙ d.rest k h;
    }
      where
        other : (q i : ℕ) → i < run → ¬ (i ≡ n) → get_or new (q * run + i) 0 ≡ get_or is (q * run + i) 0
        other q i l out = r.other (q * run + i) (λ j b e. out (cell_same run q j i n l below (e ∙ add_comm n (j * run))).1)

        place : (q g b : ℕ) → at + n + q * (s * run) + g * far + b * run ≡ at + g * far + ((q * s + b) * run + n)
        place q g b = let e : (q * s + b) * run ≡ q * (s * run) + b * run = add-mul (q * s) b run ∙ ap (λ y. y + b * run) (mul_assoc q s run) in omega arith

        low : (q i : ℕ) → q < count → i < run → Dec (i ≡ n) → i < n + 1 → get_or new (q * run + i) 0 < size
        low q i h k (yes e) l = rw (e, add_comm (q * run) n, r.done q h) (W.field.coded.val_below _)
        low q i h k (no out) l = rw (other q i k out) (d.small q i h (omega arith) k)

        go : (q i : ℕ) → q < count → i < run → Dec (i ≡ n) → i < n + 1 →
            elem (get_or new (q * run + i) 0) ≡ ops.add (elem (get_or was (q * run + i) 0)) (sum ops m (λ g. sum ops s (layered f s run symbols (at + g * far) q i)))
        go q i h k (yes e) l =
            rw e (ap elem (ap (λ k. get_or new k 0) (add_comm (q * run) n) ∙ r.done q h) ∙ W.field.coded.elem_val _
            ∙ ap₂ ops.add (ap elem (ap (λ k. get_or is k 0) (add_comm n (q * run)) ∙ d.later q n (omega arith) below))
            (sum_congr ops m _ _ (λ g x. sum_congr ops s _ _ (λ b y. ap (λ n. elem (get_or symbols n 0)) (place q g b)))))
        go q i h k (no out) l = ap elem (other q i k out) ∙ d.done q i h (omega arith) k

    pub across_end : (n : ℕ) (is : List ℕ) → AcrossAdded f s run count n symbols at far m was is → n ≤ run → run ≤ n → TraysAdded f s run count symbols at far m was is
    across_end n is d h l = record { same = d.same; done = λ q i b c. d.done q i b (omega arith) c; small = λ p q i b c. d.small q i b (omega arith) c; rest = d.rest }

  -- run after run
  module _ (s run : ℕ) (symbols : List ℕ) (at far m : ℕ) (was : List ℕ) where
    pub runs_more : (q : ℕ) (is new : List ℕ) → TraysAdded f s run q symbols at far m was is → Run (added_grid f is (q * run) symbols (at + q * s * run) run s far m) is new (q * run) run →
        TraysAdded f s run (q + 1) symbols at far m was new
    unfolding added_grid grid apart layered
    runs_more q is new d r = record {
      same = r.long ∙ d.same;
      done = λ k i h l. go k i l (ℕ_discrete k q) h;
      small = λ p k i h l. low k i l p (ℕ_discrete k q) h;
      rest = λ n h. let e = row_end q run in r.high n (omega arith) ∙ d.rest n (omega arith);
    }
      where
        place : (g i b : ℕ) → at + q * s * run + i + g * far + b * run ≡ at + g * far + ((q * s + b) * run + i)
        place g i b = let e : (q * s + b) * run ≡ q * s * run + b * run = add-mul (q * s) b run in omega arith

        low : (k i : ℕ) → i < run → 0 < m → Dec (k ≡ q) → k < q + 1 → get_or new (k * run + i) 0 < size
        low k i l p (yes e) h = rw (e, r.done i l) (W.field.coded.val_below _)
        low k i l p (no e) h = rw (r.low (k * run + i) (omega (arith, row_before k q run (omega arith)))) (d.small p k i (omega arith) l)

        go : (k i : ℕ) → i < run → Dec (k ≡ q) → k < q + 1 →
            elem (get_or new (k * run + i) 0) ≡ ops.add (elem (get_or was (k * run + i) 0)) (sum ops m (λ g. sum ops s (layered f s run symbols (at + g * far) k i)))
        go k i l (yes e) h =
            rw e (ap elem (r.done i l) ∙ W.field.coded.elem_val _
            ∙ ap₂ ops.add (ap elem (d.rest (q * run + i) (omega arith)))
            (sum_congr ops m _ _ (λ g n. sum_congr ops s _ _ (λ b k. ap (λ n. elem (get_or symbols n 0)) (place g i b)))))
        go k i l (no e) h = ap elem (r.low (k * run + i) (omega (arith, row_before k q run (omega arith)))) ∙ d.done k i (omega arith) l

    pub runs_end : (q count : ℕ) (is : List ℕ) → TraysAdded f s run q symbols at far m was is → q ≤ count → count ≤ q → TraysAdded f s run count symbols at far m was is
    runs_end q count is d h l = subst (λ n. TraysAdded f s run n symbols at far m was is) (omega arith) d
