-- Sums of numbers that stand so many places apart, and a run to which they are added.
-- Assumes nothing.
use mathlib.Core.Path.{◌≡◌, sym, ap, ap₂, ◌∙◌, subst}
use mathlib.Core.List.{List}
use Prim.Native.Nat.{ℕ, ◌+◌, ◌*◌, ◌/◌, ◌%◌, ◌<◌, ◌≤◌}
use native.Mathlib.Nat.{mul-le-mul, mul_comm, mod-add-div, div-lt_iff_lt-mul, add-mod_right}
use native.Mathlib.Omega.{arith}
use lib.ListN.{length, get_or, set}
use Rattle.algebra.specs.Sum.{sum}
use Rattle.algebra.specs.Shape.{Field}
use Rattle.algebra.specs.Plain.{reduced, Working}
use Rattle.algebra.proofs.Ring.{add_zero, add_assoc}
use Rattle.algebra.proofs.Sum.{sum_zero, sum_add_one}
use Rattle.algebra.proofs.Plain.{laws}
use Rattle.kernel.specs.Inner.{Run, copied, apart, Grid, grid, Gridding, added_grid, Parts}
use Rattle.kernel.proofs.Runs.{run_more, run_append}
use Rattle.kernel.proofs.Rows.{row_before}

module _ {A : Type 0} {f : Field A} (W : Working f) where
  open f use {ops}
  open f.coding use {elem, size}

  -- a sum of none, and of one more
  none : (v : A) (t : ℕ → A) → v ≡ ops.add v (sum ops 0 t)
  none v t = sym (ap (ops.add v) (sum_zero ops t) ∙ add_zero ops (laws W) v)

  more : (v s p : A) (t : ℕ → A) (n : ℕ) → s ≡ ops.add v (sum ops n t) → p ≡ ops.add s (t n) → p ≡ ops.add v (sum ops (n + 1) t)
  more v s p t n e d = d ∙ ap (λ x. ops.add x (t n)) e ∙ add_assoc ops (laws W) v (sum ops n t) (t n) ∙ ap (ops.add v) (sym (sum_add_one ops n t))

  module _ (src : List ℕ) (at gap v : ℕ) where
    pub apart_none : elem v ≡ ops.add (elem v) (apart f src at gap 0)
    unfolding apart
    apart_none = none (elem v) _

    pub apart_more : (s p b : ℕ) → elem s ≡ ops.add (elem v) (apart f src at gap b) → elem p ≡ ops.add (elem s) (elem (get_or src (at + b * gap) 0)) →
        elem p ≡ ops.add (elem v) (apart f src at gap (b + 1))
    unfolding apart
    apart_more s p b = more (elem v) (elem s) (elem p) (λ b. elem (get_or src (at + b * gap) 0)) b

    module _ (n far : ℕ) where
      pub grid_none : elem v ≡ ops.add (elem v) (grid f src at gap n far 0)
      unfolding grid
      grid_none = none (elem v) _

      pub grid_more : (s p g : ℕ) → elem s ≡ ops.add (elem v) (grid f src at gap n far g) → elem p ≡ ops.add (elem s) (apart f src (at + g * far) gap n) →
          elem p ≡ ops.add (elem v) (grid f src at gap n far (g + 1))
      unfolding grid
      grid_more s p g = more (elem v) (elem s) (elem p) (λ g. apart f src (at + g * far) gap n) g

  pub add_grid_more : (was is src : List ℕ) (to from gap n far m j len p q : ℕ) → Run (added_grid f was to src from gap n far m) was is to j → j < len → to + len ≤ length was →
      elem p ≡ ops.add (elem (get_or is (to + j) 0)) (grid f src (from + j) gap n far m) → q ≡ reduced f p → Run (added_grid f was to src from gap n far m) was (set is (to + j) q) to (j + 1)
  unfolding added_grid reduced
  add_grid_more was is src to from gap n far m j len p q r h l e d =
      run_more (added_grid f was to src from gap n far m) was is to j q r (omega arith)
      (d ∙ ap f.coding.val (e ∙ ap (λ (x : ℕ). ops.add (elem x) (grid f src (from + j) gap n far m)) (r.high (to + j) (omega arith))))

-- what is told of the sum at a place: the place is still as it was
module _ {A : Type 0} (f : Field A) (was is src : List ℕ) (to len from gap n far m j : ℕ) where
  pub grid_lies : Gridding f was to len src from gap n far m → j < len → Grid src (from + j) gap n far m
  grid_lies p h = p.lies j h

  pub grid_fits : f.coding.size ≤ 257 → Gridding f was to len src from gap n far m → Run (added_grid f was to src from gap n far m) was is to j → j < len →
      get_or is (to + j) 0 + m * n * f.coding.size < 65536
  grid_fits small p r h = rw (r.high (to + j) (omega arith)) (omega (arith, p.held j h, mul-le-mul p.few small))

  -- a turn that writes to a buffer of its own
  pub block_fits : f.coding.size ≤ 257 → Gridding f was to len src from gap n far m → j < len → get_or was (to + j) 0 + m * n * f.coding.size < 65536
  block_fits small p h = omega (arith, p.held j h, mul-le-mul p.few small)

pub block_more : {A : Type 0} (f : Field A) (was block is src : List ℕ) (to from gap n far m j len p q : ℕ) → Run (added_grid f was to src from gap n far m) block is 0 j → j < len →
    len ≤ length block → f.coding.elem p ≡ f.ops.add (f.coding.elem (get_or was (to + j) 0)) (grid f src (from + j) gap n far m) → q ≡ reduced f p →
    Run (added_grid f was to src from gap n far m) block (set is j q) 0 (j + 1)
unfolding added_grid reduced
block_more f was block is src to from gap n far m j len p q r h l e d =
    subst (λ k. Run (added_grid f was to src from gap n far m) block (set is k q) 0 (j + 1)) (omega arith)
    (run_more (added_grid f was to src from gap n far m) block is 0 j q r (omega arith) (d ∙ ap f.coding.val e))

-- a block that is copied
pub block_copied : (g : ℕ → ℕ) (block is was new : List ℕ) (to len : ℕ) → Run g block is 0 len → Run (copied is 0) was new to len → Run g was new to len
unfolding copied
block_copied g block is was new to len r c = record { long = c.long; done = λ j h. c.done j h ∙ r.done j h; low = c.low; high = c.high }

-- block after block: two multiples of a width are a width apart or more
pub next_part : (j len width : ℕ) → 0 < width → j % width ≡ 0 → Parts len width → j < len → j + width ≤ len
next_part j len width p a b h =
    omega (arith, b.whole p, mod-add-div j width, mod-add-div len width, row_before (j / width) (len / width) width less, mul_comm width (j / width), mul_comm width (len / width))
  where
    less : j / width < len / width
    less = (div-lt_iff_lt-mul p).1 (omega (arith, b.whole p, mod-add-div len width, mul_comm width (len / width)))

pub part_on : (j width : ℕ) → 0 < width → j % width ≡ 0 → (j + width) % width ≡ 0
part_on j width p a = add-mod_right j width ∙ a

module _ {A : Type 0} (f : Field A) (was is src : List ℕ) (to len from gap n far m j : ℕ) where
  -- what the block of a turn is told
  pub block_told : (width : ℕ) → Gridding f was to len src from gap n far m → Run (added_grid f was to src from gap n far m) was is to j → j + width ≤ len →
      Gridding f is (to + j) width src (from + j) gap n far m
  block_told width p r h = record {
    given = p.given;
    held = λ i l. let e : to + j + i ≡ to + (j + i) = omega arith in rw (r.high (to + j + i) (omega arith), e) (p.held (j + i) (omega arith));
    room = rw r.long (omega (arith, p.room));
    long = omega (arith, p.long);
    lies = λ i l. subst (λ k. Grid src k gap n far m) (omega arith) (p.lies (j + i) (omega arith));
    few = p.few;
  }

  pub block_next : (width : ℕ) (new : List ℕ) → Run (added_grid f was to src from gap n far m) was is to j →
      Run (added_grid f is (to + j) src (from + j) gap n far m) is new (to + j) width → Run (added_grid f was to src from gap n far m) was new to (j + width)
  unfolding added_grid
  block_next width new r c = run_append (added_grid f was to src from gap n far m) (added_grid f is (to + j) src (from + j) gap n far m) was is new to j width r c
      (λ i l. ap₂ (λ (x : ℕ) (y : ℕ). f.coding.val (f.ops.add (f.coding.elem x) (grid f src y gap n far m)))
      (r.high (to + j + i) (omega arith) ∙ ap (λ (k : ℕ). get_or was k 0) (omega arith)) (omega arith))

-- the first of a row's places
pub row_first : (src : List ℕ) (at gap n far m g : ℕ) → Grid src at gap n far m → g < m → at + g * far < length src
row_first src at gap n far m g r h = omega (arith, r.rows g h, r.some, row_before 0 n gap r.some)
