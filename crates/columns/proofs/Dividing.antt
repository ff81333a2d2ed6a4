-- The products of differences of all columns, and the quotients, row by row.
-- Assumes nothing.
use mathlib.Core.Path.{◌≡◌, sym, ap, ap₂, ◌∙◌, subst}
use mathlib.Core.List.{List}
use Prim.Native.Nat.{ℕ, ◌+◌, ◌-◌, ◌*◌, ◌<◌, ◌≤◌}
use native.Mathlib.Nat.{add-mul, add_assoc, zero-add, mul-le-mul_right}
use native.Mathlib.Numerals.{add-one}
use native.Mathlib.Decide.{ℕ_discrete, dec_lt}
use native.Mathlib.Omega.{arith}
use lib.ListN.{length, get_or, set}
use Rattle.algebra.specs.Poly.{coeff}
use Rattle.algebra.proofs.Ring.{neg_mul}
use Rattle.algebra.specs.Shape.{Field}
use Rattle.algebra.specs.Plain.{plus, minus, times, Working}
use Rattle.algebra.proofs.Plain.{elem_one, elem_plus, elem_minus, elem_times}
use Rattle.kernel.specs.Inner.{cell, Run, Standing, filled, parted, inverted}
use Rattle.kernel.proofs.Runs.{run_more}
use Rattle.kernel.proofs.Rows.{row_before, cell_other}
use Rattle.columns.specs.Inner.{column, grown, locator, turned, Locator, Turned, Divisors, Quotient, divided, scaled, scaled_by, negated}
use Rattle.columns.proofs.Quotients.{quotient_step, quotient_top, turned_all, turned_first, turned_after, turned_round}

-- ---- some rows written
module _ (g : ℕ → ℕ) (was is : List ℕ) (a n v : ℕ) (r : Run g was is (a * v) (n * v)) where
  rows_done : (x c : ℕ) → x < n → c < v → get_or is ((a + x) * v + c) 0 ≡ g (x * v + c)
  rows_done x c h k =
      ap (λ (i : ℕ). get_or is i 0) (ap (λ (y : ℕ). y + c) (add-mul a x v) ∙ add_assoc (a * v) (x * v) c) ∙ r.done (x * v + c) (let e = row_before x n v h in omega arith)

  rows_below : (y c : ℕ) → y < a → c < v → get_or is (y * v + c) 0 ≡ get_or was (y * v + c) 0
  rows_below y c h k = r.low (y * v + c) (let e = row_before y a v h in omega arith)

-- rows from the first on
module _ (g : ℕ → ℕ) (was is : List ℕ) (n v : ℕ) (r : Run g was is 0 (n * v)) where
  pub first_done : (x c : ℕ) → x < n → c < v → get_or is (x * v + c) 0 ≡ g (x * v + c)
  first_done x c h k = ap (λ (i : ℕ). get_or is i 0) (sym (zero-add (x * v + c))) ∙ r.done (x * v + c) (let e = row_before x n v h in omega arith)

  first_above : (y c : ℕ) → n ≤ y → c < v → get_or is (y * v + c) 0 ≡ get_or was (y * v + c) 0
  first_above y c h k = r.high (y * v + c) (let e = mul-le-mul_right v h in omega arith)

-- the step of each loop
module _ {A : Type 0} (f : Field A) where
  pub divide_more : (was is src by : List ℕ) (to from next at j len p q : ℕ) → Run (divided f src from was next by at) was is to j → j < len → to + len ≤ next → next + len ≤ length was →
      p ≡ times f (get_or is (next + j) 0) (get_or by (at + j) 0) → q ≡ plus f (get_or src (from + j) 0) p → Run (divided f src from was next by at) was (set is (to + j) q) to (j + 1)
  unfolding divided
  divide_more was is src by to from next at j len p q r h b l e d =
      run_more (divided f src from was next by at) was is to j q r (omega arith)
      (d ∙ ap (plus f (get_or src (from + j) 0)) (e ∙ ap (λ (x : ℕ). times f x (get_or by (at + j) 0)) (r.high (next + j) (omega arith))))

  pub scale_more : (was is by : List ℕ) (to at j len p : ℕ) → Run (scaled f was to by at) was is to j → j < len → to + len ≤ length was →
      p ≡ times f (get_or is (to + j) 0) (get_or by (at + j) 0) → Run (scaled f was to by at) was (set is (to + j) p) to (j + 1)
  unfolding scaled
  scale_more was is by to at j len p r h l e =
      run_more (scaled f was to by at) was is to j p r (omega arith) (e ∙ ap (λ (x : ℕ). times f x (get_or by (at + j) 0)) (r.high (to + j) (omega arith)))

  pub scale_by_more : (was is : List ℕ) (to j len x p : ℕ) → Run (scaled_by f was to x) was is to j → j < len → to + len ≤ length was →
      p ≡ times f (get_or is (to + j) 0) x → Run (scaled_by f was to x) was (set is (to + j) p) to (j + 1)
  unfolding scaled_by
  scale_by_more was is to j len x p r h l e =
      run_more (scaled_by f was to x) was is to j p r (omega arith) (e ∙ ap (λ (y : ℕ). times f y x) (r.high (to + j) (omega arith)))

  pub negate_more : (was is src : List ℕ) (to from j len p : ℕ) → Run (negated f src from) was is to j → j < len → to + len ≤ length was →
      p ≡ minus f 0 (get_or src (from + j) 0) → Run (negated f src from) was (set is (to + j) p) to (j + 1)
  unfolding negated
  negate_more was is src to from j len p r h l e = run_more (negated f src from) was is to j p r (omega arith) e

module _ {A : Type 0} {f : Field A} (W : Working f) where
  open f use {ops}
  open f.coding use {elem}
  open W.field use {laws}

  -- ---- the differences
  pub turned_start : (v m : ℕ) (points was is : List ℕ) (one : ℕ) → elem one ≡ ops.neg ops.one → Run (filled one) was is 0 (m * v) → Turned f v m points 1 is
  unfolding cell filled
  turned_start v m points was is one e r = record {
    at = λ i c h k. ap elem (first_done (filled one) was is m v r i c h k) ∙ e ∙ ap ops.neg (sym (turned_first W (column f v points c) i m h));
  }

  parted_is : (was points : List ℕ) (to a b j : ℕ) →
      elem (parted f was to points a b j) ≡ ops.mul (elem (get_or was (to + j) 0)) (ops.add (elem (get_or points (a + j) 0)) (ops.neg (elem (get_or points (b + j) 0))))
  unfolding parted
  parted_is was points to a b j =
      elem_times W (get_or was (to + j) 0) (minus f (get_or points (a + j) 0) (get_or points (b + j) 0))
      ∙ ap (ops.mul (elem (get_or was (to + j) 0))) (elem_minus W (get_or points (a + j) 0) (get_or points (b + j) 0))

  place : (a x v c : ℕ) → a * v + (x * v + c) ≡ (a + x) * v + c
  place a x v c = sym (add_assoc (a * v) (x * v) c) ∙ ap (λ (y : ℕ). y + c) (sym (add-mul a x v))

  module _ (v m k : ℕ) (points was mid is : List ℕ) (low : 0 < k) (high : k < m)
      (r : Run (parted f was 0 points 0 (k * v)) was mid 0 ((m - k) * v))
      (s : Run (parted f mid ((m - k) * v) points ((m - k) * v) 0) mid is ((m - k) * v) (k * v)) where
    module _ (g : Turned f v m points k was) (i c : ℕ) (h : i < m) (l : c < v) where
      P : ℕ → A
      P = column f v points c

      ahead : i < m - k → cell f v is i c ≡ ops.neg (turned f P m i (k + 1))
      unfolding cell column P
      ahead d =
          ap elem (rows_below _ mid is (m - k) k v s i c d l ∙ first_done _ was mid (m - k) v r i c d l)
          ∙ parted_is was points 0 0 (k * v) (i * v + c)
          ∙ ap₂ ops.mul (ap (λ (x : ℕ). elem (get_or was x 0)) (zero-add (i * v + c)) ∙ g.at i c h l)
          (ap₂ (λ x y. ops.add x (ops.neg y)) (ap (λ (x : ℕ). elem (get_or points x 0)) (zero-add (i * v + c)))
          (ap (λ (x : ℕ). elem (get_or points x 0)) (place k i v c ∙ ap (λ (x : ℕ). x * v + c) turn)))
          ∙ neg_mul ops laws _ _ ∙ ap ops.neg (turned_after W P i m k low (omega arith))
        where
          turn : k + i ≡ i + k
          turn = omega arith

      behind : m - k ≤ i → cell f v is i c ≡ ops.neg (turned f P m i (k + 1))
      unfolding cell column P
      behind d =
          ap (λ (x : ℕ). elem (get_or is (x * v + c) 0)) (sym own)
          ∙ ap elem (rows_done _ mid is (m - k) k v s (i + k - m) c (omega arith) l)
          ∙ parted_is mid points ((m - k) * v) ((m - k) * v) 0 ((i + k - m) * v + c)
          ∙ ap₂ ops.mul (ap (λ (x : ℕ). elem (get_or mid x 0)) (place (m - k) (i + k - m) v c ∙ ap (λ (x : ℕ). x * v + c) own)
          ∙ ap elem (first_above _ was mid (m - k) v r i c d l) ∙ g.at i c h l)
          (ap₂ (λ x y. ops.add x (ops.neg y)) (ap (λ (x : ℕ). elem (get_or points x 0)) (place (m - k) (i + k - m) v c ∙ ap (λ (x : ℕ). x * v + c) own))
          (ap (λ (x : ℕ). elem (get_or points x 0)) (zero-add ((i + k - m) * v + c))))
          ∙ neg_mul ops laws _ _ ∙ ap ops.neg (turned_round W P i m k low h (omega arith))
        where
          own : m - k + (i + k - m) ≡ i
          own = omega arith

    pub turn_more : Turned f v m points k was → Turned f v m points (k + 1) is
    unfolding column P
    turn_more g = record { at = λ i c h l. go i c h l (dec_lt i (m - k)) }
      where
        go : (i c : ℕ) → i < m → c < v → Dec (i < m - k) → cell f v is i c ≡ ops.neg (turned f (column f v points c) m i (k + 1))
        go i c h l (yes d) = ahead g i c h l d
        go i c h l (no d) = behind g i c h l (omega arith)

  -- rows of inverses
  inverses_done : (was is : List ℕ) (n v : ℕ) → Standing f (inverted f was 0) was is 0 (n * v) → (x c : ℕ) → x < n → c < v → cell f v is x c ≡ ops.inv (cell f v was x c)
  unfolding cell inverted
  inverses_done was is n v r x c h k =
      ap (λ (i : ℕ). elem (get_or is i 0)) (sym (zero-add (x * v + c))) ∙ r.done (x * v + c) (let e = row_before x n v h in omega arith)
      ∙ ap (λ (i : ℕ). ops.inv (elem (get_or was i 0))) (zero-add (x * v + c))

  pub divisors_of : (v m k : ℕ) (points was is : List ℕ) → Turned f v m points k was → k ≤ m → m ≤ k → Standing f (inverted f was 0) was is 0 (m * v) → Divisors f v m points is
  divisors_of v m k points was is g a b r = record {
    at = λ i c h l. inverses_done was is m v r i c h l ∙ ap ops.inv (g.at i c h l
        ∙ ap ops.neg (ap (turned f (column f v points c) m i) same ∙ turned_all W (column f v points c) i m h));
  }
    where
      same : k ≡ m
      same = omega arith

  -- ---- the quotient
  module _ (v m i : ℕ) (points : List ℕ) (inside : i < m) where
    pub quotient_start : (was is : List ℕ) → Run (filled 1) was is ((m - 1) * v) v → Quotient f v m points i (m - 1) is
    unfolding cell filled
    quotient_start was is r = record {
      at = λ k c a h l.
          (let e : k ≡ m - 1 = omega arith in ap (λ (x : ℕ). elem (get_or is (x * v + c) 0)) e)
          ∙ ap elem (r.done c l) ∙ elem_one W ∙ sym (quotient_top W (column f v points c) i m inside)
          ∙ (let e : m - 1 ≡ k = omega arith in ap (coeff ops (grown f ops.one (column f v points c) i m)) e);
    }

    divided_is : (src : List ℕ) (from : ℕ) (out : List ℕ) (next at j : ℕ) →
        elem (divided f src from out next points at j) ≡ ops.add (elem (get_or src (from + j) 0)) (ops.mul (elem (get_or out (next + j) 0)) (elem (get_or points (at + j) 0)))
    unfolding divided
    divided_is src from out next at j =
        elem_plus W (get_or src (from + j) 0) (times f (get_or out (next + j) 0) (get_or points (at + j) 0))
        ∙ ap (ops.add (elem (get_or src (from + j) 0))) (elem_times W (get_or out (next + j) 0) (get_or points (at + j) 0))

    pub quotient_more : (t : ℕ) (product was is : List ℕ) → t < m → 0 < t → Locator f v m points m product → Quotient f v m points i t was →
        Run (divided f product ((t - 1 + 1) * v) was ((t - 1 + 1) * v) points (i * v)) was is ((t - 1) * v) v → Quotient f v m points i (t - 1) is
    unfolding cell column
    quotient_more t product was is ht lt g q r = record { at = λ k c a h l. go k c a h l (ℕ_discrete k (t - 1)) }
      where
        here : (c : ℕ) → c < v → cell f v is (t - 1) c ≡ coeff ops (grown f ops.one (column f v points c) i m) (t - 1)
        here c l =
            ap elem (r.done c l) ∙ divided_is product ((t - 1 + 1) * v) was ((t - 1 + 1) * v) (i * v) c
            ∙ ap₂ (λ x y. ops.add x (ops.mul y (cell f v points i c))) (g.at (t - 1 + 1) c (omega arith) l ∙ ap (coeff ops (locator f (column f v points c) m)) (add-one (t - 1)))
            (q.at (t - 1 + 1) c (omega arith) (omega arith) l ∙ ap (coeff ops (grown f ops.one (column f v points c) i m)) (add-one (t - 1)))
            ∙ quotient_step W (column f v points c) i m (t - 1) inside

        go : (k c : ℕ) → t - 1 ≤ k → k < m → c < v → Dec (k ≡ t - 1) → cell f v is k c ≡ coeff ops (grown f ops.one (column f v points c) i m) k
        go k c a h l (yes e) = subst (λ x. cell f v is x c ≡ coeff ops (grown f ops.one (column f v points c) i m) x) (sym e) (here c l)
        go k c a h l (no d) = cell_other f _ was is (t - 1) v r k c l d ∙ q.at k c (omega arith) h l

-- ---- rows up to one and from it on
pub two_runs : (v m k : ℕ) → k < m → (m - k) * v + k * v ≤ m * v
two_runs v m k h =
    let e : (m - k + k) * v ≤ m * v = mul-le-mul_right v (let q : m - k + k ≤ m = omega arith in q) in
    let d = add-mul (m - k) k v in
    omega arith
