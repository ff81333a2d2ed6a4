-- How a run grows by a write.
-- Assumes nothing.
use mathlib.Core.Path.{◌≡◌, refl, sym, ap, ap₂, ◌∙◌}
use mathlib.Core.Bool.{true, false}
use mathlib.Core.List.{List}
use Prim.Native.Nat.{ℕ, ◌+◌, ◌-◌, ◌*◌, ◌<◌, ◌≤◌}
use native.Mathlib.Nat.{not-suc-le-zero, zero-add, mul-le-mul_right}
use native.Mathlib.Decide.{dec_lt, ℕ_discrete}
use native.Mathlib.Omega.{arith}
use borrow.Author.Tests.{eqb-true, eq-eqb}
use lib.Dec.{eqb}
use lib.ListN.{length, get_or, set, length-set}
use lib.Seq.{get_or-set_same, get_or-set_other}
use Rattle.lists.proofs.Bools.{all_holds, all_true, all_false}
use Rattle.algebra.specs.Shape.{Field}
use Rattle.algebra.specs.Plain.{plus, minus, times, reduced, Working}
use Rattle.algebra.proofs.Plain.{elem_reduced, reduced_below, elem_zero, elem_nil}
use Rattle.kernel.specs.Inner.{Run, filled, copied, sampled, added, added_product, added_multiple, shifted, parted, all_zero}

pub run_none : (f : ℕ → ℕ) (was : List ℕ) (to : ℕ) → Run f was was to 0
run_none f was to = record { long = refl; done = λ j h. absurd (not-suc-le-zero h); low = λ i h. refl; high = λ i h. refl }

pub run_more : (f : ℕ → ℕ) (was is : List ℕ) (to j v : ℕ) → Run f was is to j → to + j < length was → v ≡ f j → Run f was (set is (to + j) v) to (j + 1)
run_more f was is to j v r h e = record {
  long = length-set is (to + j) v ∙ r.long;
  done = λ i l. go i l (ℕ_discrete i j);
  low = λ i l. get_or-set_other is (to + j) i v 0 (λ q. omega arith) ∙ r.low i l;
  high = λ i l. get_or-set_other is (to + j) i v 0 (λ q. omega arith) ∙ r.high i (omega arith);
}
  where
    inside : to + j < length is
    inside = let e = r.long in omega arith

    go : (i : ℕ) → i < j + 1 → Dec (i ≡ j) → get_or (set is (to + j) v) (to + i) 0 ≡ f i
    go i l (yes q) = rw q (get_or-set_same is (to + j) v 0 inside ∙ e)
    go i l (no q) = get_or-set_other is (to + j) (to + i) v 0 (λ p. q (omega arith)) ∙ r.done i (omega arith)

-- at the end of a loop
pub run_end : (f : ℕ → ℕ) (was is : List ℕ) (to j len : ℕ) → Run f was is to j → j ≤ len → len ≤ j → Run f was is to len
run_end f was is to j len r h n = rw (sym same) r
  where
    same : j ≡ len
    same = omega arith

-- a run and one behind it
pub run_append : (f g : ℕ → ℕ) (was is new : List ℕ) (to a b : ℕ) → Run f was is to a → Run g is new (to + a) b → ((i : ℕ) → i < b → g i ≡ f (a + i)) → Run f was new to (a + b)
run_append f g was is new to a b r n same = record {
  long = n.long ∙ r.long;
  done = λ j h. go j h (dec_lt j a);
  low = λ i h. n.low i (omega arith) ∙ r.low i h;
  high = λ i h. n.high i (omega arith) ∙ r.high i (omega arith);
}
  where
    go : (j : ℕ) → j < a + b → Dec (j < a) → get_or new (to + j) 0 ≡ f j
    go j h (yes l) = n.low (to + j) (omega arith) ∙ r.done j l
    go j h (no l) =
        ap (λ (x : ℕ). get_or new x 0) place ∙ n.done (j - a) (omega arith) ∙ same (j - a) (omega arith) ∙ ap f index
      where
        place : to + j ≡ to + a + (j - a)
        place = omega arith

        index : a + (j - a) ≡ j
        index = omega arith

-- the step of each kernel: a place not yet written is as it was
pub fill_more : (was is : List ℕ) (to j len v : ℕ) → Run (filled v) was is to j → j < len → to + len ≤ length was → Run (filled v) was (set is (to + j) v) to (j + 1)
unfolding filled
fill_more was is to j len v r h l = run_more (filled v) was is to j v r (omega arith) refl

pub copy_more : (was is src : List ℕ) (to from j len : ℕ) → Run (copied src from) was is to j → j < len → to + len ≤ length was →
    Run (copied src from) was (set is (to + j) (get_or src (from + j) 0)) to (j + 1)
unfolding copied
copy_more was is src to from j len r h l = run_more (copied src from) was is to j _ r (omega arith) refl

pub repeat_more : (was is : List ℕ) (to from j len : ℕ) → Run (copied was from) was is to j → j < len → from + len ≤ to → to + len ≤ length was →
    Run (copied was from) was (set is (to + j) (get_or is (from + j) 0)) to (j + 1)
unfolding copied
repeat_more was is to from j len r h l m = run_more (copied was from) was is to j _ r (omega arith) (r.low (from + j) (omega arith))

pub sample_more : (was is src : List ℕ) (to step j len : ℕ) → Run (sampled src step) was is to j → j < len → to + len ≤ length was →
    Run (sampled src step) was (set is (to + j) (get_or src (j * step) 0)) to (j + 1)
unfolding sampled
sample_more was is src to step j len r h l = run_more (sampled src step) was is to j _ r (omega arith) refl

pub sample_in : {X : Type 0} (src : List X) (step j len : ℕ) → len * step ≤ length src → 0 < step → j < len → j * step < length src
sample_in src step j len h p l =
    let e : (j + 1) * step ≤ len * step = mul-le-mul_right step (omega arith) in
    let q : (j + 1) * step ≡ j * step + step = omega arith in
    omega arith

-- those that work in a field; p and q are what the symbol functions give
module _ {A : Type 0} (f : Field A) where
  pub add_more : (was is src : List ℕ) (to from j len p : ℕ) → Run (added f was to src from) was is to j → j < len → to + len ≤ length was →
      p ≡ plus f (get_or is (to + j) 0) (get_or src (from + j) 0) → Run (added f was to src from) was (set is (to + j) p) to (j + 1)
  unfolding added
  add_more was is src to from j len p r h l e =
      run_more (added f was to src from) was is to j p r (omega arith) (e ∙ ap (λ (x : ℕ). plus f x (get_or src (from + j) 0)) (r.high (to + j) (omega arith)))

  pub product_more : (was is src by : List ℕ) (to from at j len q : ℕ) → Run (added_product f was to src from by at) was is to j → j < len → to + len ≤ length was →
      q ≡ plus f (get_or is (to + j) 0) (times f (get_or src (from + j) 0) (get_or by (at + j) 0)) → Run (added_product f was to src from by at) was (set is (to + j) q) to (j + 1)
  unfolding added_product
  product_more was is src by to from at j len q r h l d =
      run_more (added_product f was to src from by at) was is to j q r (omega arith)
      (d ∙ ap (λ (x : ℕ). plus f x (times f (get_or src (from + j) 0) (get_or by (at + j) 0))) (r.high (to + j) (omega arith)))

  pub multiple_more : (was is src : List ℕ) (to from j len v q : ℕ) → Run (added_multiple f was to src from v) was is to j → j < len → to + len ≤ length was →
      q ≡ plus f (get_or is (to + j) 0) (times f (get_or src (from + j) 0) v) → Run (added_multiple f was to src from v) was (set is (to + j) q) to (j + 1)
  unfolding added_multiple
  multiple_more was is src to from j len v q r h l d =
      run_more (added_multiple f was to src from v) was is to j q r (omega arith) (d ∙ ap (λ (x : ℕ). plus f x (times f (get_or src (from + j) 0) v)) (r.high (to + j) (omega arith)))

  pub shift_more : (was is cw ci by : List ℕ) (to at j len p q : ℕ) → Run (shifted f was to cw by at) was is to j → Run (copied was to) cw ci 0 j → j < len → to + len ≤ length was →
      p ≡ times f (get_or is (to + j) 0) (get_or by (at + j) 0) → q ≡ minus f (get_or ci j 0) p → Run (shifted f was to cw by at) was (set is (to + j) q) to (j + 1)
  unfolding shifted
  shift_more was is cw ci by to at j len p q r s h l e d =
      run_more (shifted f was to cw by at) was is to j q r (omega arith)
      (d ∙ ap₂ (minus f) (s.high j (omega arith)) (e ∙ ap (λ (x : ℕ). times f x (get_or by (at + j) 0)) (r.high (to + j) (omega arith))))

  pub carry_more : (was is cw ci by : List ℕ) (to at j len : ℕ) → Run (shifted f was to cw by at) was is to j → Run (copied was to) cw ci 0 j → j < len → len ≤ length cw →
      Run (copied was to) cw (set ci j (get_or is (to + j) 0)) 0 (j + 1)
  unfolding copied
  carry_more was is cw ci by to at j len r q h l =
      rw (sym (ap (λ (i : ℕ). set ci i (get_or is (to + j) 0)) (zero-add j)))
      (run_more (copied was to) cw ci 0 j _ q (omega arith) (r.high (to + j) (omega arith)))

  pub part_more : (was is src : List ℕ) (to a b j len p q : ℕ) → Run (parted f was to src a b) was is to j → j < len → to + len ≤ length was →
      p ≡ minus f (get_or src (a + j) 0) (get_or src (b + j) 0) → q ≡ times f (get_or is (to + j) 0) p → Run (parted f was to src a b) was (set is (to + j) q) to (j + 1)
  unfolding parted
  part_more was is src to a b j len p q r h l e d =
      run_more (parted f was to src a b) was is to j q r (omega arith) (d ∙ ap₂ (times f) (r.high (to + j) (omega arith)) e)

-- the test for zeros
module _ {A : Type 0} (f : Field A) (xs : List ℕ) (len : ℕ) where
  pub zero_false : (j p : ℕ) → j < len → p ≡ reduced f (get_or xs j 0) → ¬ (p ≡ 0) → false ≡ all_zero f xs len
  unfolding all_zero
  zero_false j p h e d = all_false _ _ j h (λ t. d (e ∙ eqb-true _ _ t))

  pub zero_true : ((j : ℕ) → j < len → reduced f (get_or xs j 0) ≡ 0) → true ≡ all_zero f xs len
  unfolding all_zero
  zero_true g = sym (all_true _ _ (λ j h. eq-eqb _ _ (g j h)))

  zero_each : all_zero f xs len ≡ true → (j : ℕ) → j < len → reduced f (get_or xs j 0) ≡ 0
  unfolding all_zero
  zero_each t j h = eqb-true _ _ (all_holds (λ j. eqb (reduced f (get_or xs j 0)) 0) len t j h)

  module _ (W : Working f) where
    pub zero_all : all_zero f xs len ≡ true → (j : ℕ) → j < len → f.coding.elem (get_or xs j 0) ≡ f.ops.zero
    zero_all t j h = sym (elem_reduced W (get_or xs j 0)) ∙ ap f.coding.elem (zero_each t j h) ∙ elem_zero W

    pub zero_from : ((j : ℕ) → j < len → f.coding.elem (get_or xs j 0) ≡ f.ops.zero) → true ≡ all_zero f xs len
    zero_from g = zero_true (λ j h. elem_nil W _ (reduced_below W (get_or xs j 0)) (elem_reduced W (get_or xs j 0) ∙ g j h))
