-- The right sides times the coefficients, row by row, and the unknowns.
-- Assumes nothing.
use mathlib.Core.Path.{◌≡◌, refl, sym, ap, ap₂, ◌∙◌, subst}
use mathlib.Core.List.{List, []}
use Prim.Native.Nat.{ℕ, ◌+◌, ◌*◌, ◌/◌, ◌%◌, ◌<◌, ◌≤◌}
use native.Mathlib.Nat.{mul_comm as times_comm, mul_assoc as times_assoc, zero-mul, zero-add, mod-lt, mul-pos, mul-le-mul_right, le-mul_of_pos_right}
use native.Mathlib.Nat.{not-suc-le-zero, add_assoc, mul-one, div-one, mod-one}
use native.Mathlib.Decide.{ℕ_discrete}
use native.Mathlib.Omega.{arith}
use lib.Arith.{digits_div, mod-mul}
use lib.ListN.{length, get_or}
use Rattle.algebra.specs.Sum.{sum}
use Rattle.algebra.specs.Poly.{coeff}
use Rattle.algebra.specs.Lagrange.{basis, solve}
use Rattle.algebra.proofs.Sum.{sum_zero, sum_suc, sum_add_one, sum_congr, sum_mul_right}
use Rattle.algebra.specs.Shape.{Field}
use Rattle.algebra.specs.Plain.{plus, times, Working}
use Rattle.algebra.proofs.Ring.{mul_neg, neg_mul, mul_assoc, mul_comm, zero_add as zero-plus, mul_one as times-one}
use Rattle.algebra.proofs.Poly.{coeff_head}
use Rattle.algebra.proofs.Lagrange.{basis_zero, basis_same}
use Rattle.algebra.proofs.Plain.{elem_zero, elem_plus, elem_minus, elem_times, plus_below, minus_below, times_below, zero_below}
use Rattle.kernel.specs.Inner.{cell, Run, filled, copied, repeated, added_product, added_multiple}
use Rattle.kernel.proofs.Runs.{run_append}
use Rattle.kernel.proofs.Rows.{row_end, row_other, row_before}
use Rattle.planes.specs.Inner.{Summed}
use Rattle.columns.specs.Inner.{column, Divisors, Quotient, scaled, scaled_by, negated, weighted, stretched, widened}
use Rattle.columns.specs.Inner.{Combined, Divided, RowSolved, Solved, Wholes}
use Rattle.columns.proofs.Quotients.{quotient_basis}
use Rattle.columns.proofs.Dividing.{first_done}

-- the divisor of a row, where all systems are one
pub divisor_at_lem : {X : Type 0} (w v m i : ℕ) (found sums coefs divs : List X) → Wholes w v m found sums coefs → m * v ≤ length divs → i < m → i * v < length divs
divisor_at_lem w v m i found sums coefs divs s l h = let e = row_before i m v h in let o = s.one in omega arith

-- ---- the coefficient of every place
pub spread_more : (coefs : List ℕ) (at run c x : ℕ) (was is new : List ℕ) → Run (stretched coefs at run) was is 0 (c * run) → x ≡ get_or coefs (at + c) 0 → Run (filled x) is new (c * run) run →
    Run (stretched coefs at run) was new 0 ((c + 1) * run)
unfolding stretched filled
spread_more coefs at run c x was is new r e n =
    rw (row_end c run)
    (run_append (stretched coefs at run) (filled (get_or coefs (at + c) 0)) was is new 0 (c * run) run r
    (subst (λ k. Run (filled (get_or coefs (at + c) 0)) is new k run) (sym (zero-add (c * run))) (subst (λ y. Run (filled y) is new (c * run) run) e n))
    (λ i h. ap (λ k. get_or coefs (at + k) 0) (sym (digits_div c h))))

-- runs of one
pub spread_one : (coefs : List ℕ) (at run v : ℕ) (was is : List ℕ) → run ≡ 1 → Run (copied coefs at) was is 0 v → Run (stretched coefs at run) was is 0 (v * run)
unfolding stretched copied
spread_one coefs at run v was is e r = rw (e, mul-one v) (record {
  long = r.long;
  done = λ j h. r.done j h ∙ ap (λ (k : ℕ). get_or coefs (at + k) 0) (sym (div-one j));
  low = r.low;
  high = r.high;
})

pub turned : (v run turns : ℕ) → turns * (v * run) ≡ v * turns * run
turned v run turns = sym (times_assoc turns v run) ∙ ap (λ y. y * run) (times_comm turns v)

period_low : (v run turns : ℕ) → 0 < turns → v * run ≤ v * turns * run
period_low v run turns h = mul-le-mul_right run (le-mul_of_pos_right v h)

pub widen_of : (v run turns : ℕ) (coefs : List ℕ) (at : ℕ) (old mid row : List ℕ) → 0 < run → 0 < v → 0 < turns → Run (stretched coefs at run) old mid 0 (v * run) →
    Run (repeated mid (v * run)) mid row 0 (turns * (v * run)) → Run (widened coefs at v run) old row 0 (v * turns * run)
unfolding stretched repeated widened
widen_of v run turns coefs at old mid row p q o r n = record {
  long = n.long ∙ r.long;
  done = λ j h.
      n.done j (rw (turned v run turns) h) ∙ ap (λ k. get_or mid k 0) (sym (zero-add (j % (v * run))))
      ∙ r.done (j % (v * run)) (mod-lt j (mul-pos q p))
      ∙ ap (λ k. get_or coefs (at + k) 0) (ap (λ k. k / run) (mod-mul j q p) ∙ digits_div (j / run % v) (mod-lt j p));
  low = λ i h. absurd (not-suc-le-zero h);
  high = λ i h. n.high i (rw (turned v run turns) h) ∙ r.high i (let k = period_low v run turns o in omega arith);
}

module _ {A : Type 0} {f : Field A} (W : Working f) where
  open f use {ops}
  open f.coding use {elem, size}
  open W.field use {laws}

  -- ---- a row of columns
  pub columns_more : (was is new : List ℕ) (to v run : ℕ) (sums : List ℕ) (from : ℕ) (coefs : List ℕ) (at c x : ℕ) →
      Run (weighted f was to v run sums from coefs at) was is to (c * run) → x ≡ get_or coefs (at + c % v) 0 →
      Run (added_multiple f is (to + c * run) sums (from + c * run) x) is new (to + c * run) run →
      Run (weighted f was to v run sums from coefs at) was new to ((c + 1) * run)
  unfolding added_multiple weighted
  columns_more was is new to v run sums from coefs at c x r e n =
      rw (row_end c run)
      (run_append (weighted f was to v run sums from coefs at) (added_multiple f is (to + c * run) sums (from + c * run) (get_or coefs (at + c % v) 0)) was is new to (c * run) run r
      (subst (λ y. Run (added_multiple f is (to + c * run) sums (from + c * run) y) is new (to + c * run) run) e n) same)
    where
      same : (i : ℕ) → i < run → added_multiple f is (to + c * run) sums (from + c * run) (get_or coefs (at + c % v) 0) i ≡ weighted f was to v run sums from coefs at (c * run + i)
      same i h =
          ap₂ (λ (x y : ℕ). plus f x (times f y (get_or coefs (at + c % v) 0)))
          (r.high (to + c * run + i) (omega arith) ∙ ap (λ k. get_or was k 0) (add_assoc to (c * run) i))
          (ap (λ k. get_or sums k 0) (add_assoc from (c * run) i))
          ∙ ap (λ (k : ℕ). plus f (get_or was (to + (c * run + i)) 0) (times f (get_or sums (from + (c * run + i)) 0) (get_or coefs (at + k % v) 0))) (sym (digits_div c h))

  pub row_wide : (found is : List ℕ) (to v run turns : ℕ) (sums : List ℕ) (from : ℕ) (coefs : List ℕ) (at : ℕ) (old row : List ℕ) →
      Run (widened coefs at v run) old row 0 (v * turns * run) →
      Run (added_product f found to sums from row 0) found is to (v * turns * run) → Run (weighted f found to v run sums from coefs at) found is to (v * turns * run)
  unfolding widened added_product weighted
  row_wide found is to v run turns sums from coefs at old row r g = record {
    long = g.long;
    done = λ j h. g.done j h ∙ ap (λ (y : ℕ). plus f (get_or found (to + j) 0) (times f (get_or sums (from + j) 0) y)) (r.done j h);
    low = g.low;
    high = g.high;
  }

  -- ---- a row of what is found
  pub combined_none : (w v run i : ℕ) (sums coefs was is : List ℕ) → Run (filled 0) was is (i * w) w → Combined f w v run 0 i sums coefs is is
  unfolding cell filled
  combined_none w v run i sums coefs was is r = record {
    long = refl;
    here = λ j h. ap elem (r.done j h) ∙ elem_zero W ∙ sym (sum_zero ops _);
    small = λ j h. rw (r.done j h) (zero_below W);
    others = λ x j h d. refl;
  }

  weighted_below : (found : List ℕ) (to v run : ℕ) (sums : List ℕ) (from : ℕ) (coefs : List ℕ) (at j : ℕ) → weighted f found to v run sums from coefs at j < size
  unfolding weighted
  weighted_below found to v run sums from coefs at j = plus_below W _ _

  weighted_row : (w v run i n : ℕ) (sums coefs is new : List ℕ) → Run (weighted f is (i * w) v run sums (n * w) coefs (n * v)) is new (i * w) w → (j : ℕ) → j < w →
      cell f w new i j ≡ ops.add (cell f w is i j) (ops.mul (cell f w sums n j) (cell f v coefs n (j / run % v)))
  unfolding cell weighted
  weighted_row w v run i n sums coefs is new r j h =
      ap elem (r.done j h) ∙ elem_plus W (get_or is (i * w + j) 0) (times f (get_or sums (n * w + j) 0) (get_or coefs (n * v + j / run % v) 0))
      ∙ ap (ops.add (elem (get_or is (i * w + j) 0))) (elem_times W (get_or sums (n * w + j) 0) (get_or coefs (n * v + j / run % v) 0))

  pub combined_more : (w v run turns n i : ℕ) (sums coefs was is new : List ℕ) → w ≡ v * turns * run → Combined f w v run n i sums coefs was is →
      Run (weighted f is (i * w) v run sums (n * w) coefs (n * v)) is new (i * w) (v * turns * run) → Combined f w v run (n + 1) i sums coefs was new
  combined_more w v run turns n i sums coefs was is new e g r = record {
    long = r.long ∙ g.long;
    here = λ j h.
        term j h ∙ ap (λ x. ops.add x (ops.mul (cell f w sums n j) (cell f v coefs n (j / run % v)))) (g.here j h)
        ∙ sym (sum_add_one ops n (λ t. ops.mul (cell f w sums t j) (cell f v coefs t (j / run % v))));
    small = λ j h. rw (whole.done j h) (weighted_below is (i * w) v run sums (n * w) coefs (n * v) j);
    others = λ x j h d. row_other _ is new i w whole x j h d ∙ g.others x j h d;
  }
    where
      whole : Run (weighted f is (i * w) v run sums (n * w) coefs (n * v)) is new (i * w) w
      whole = subst (λ k. Run (weighted f is (i * w) v run sums (n * w) coefs (n * v)) is new (i * w) k) (sym e) r

      term : (j : ℕ) → j < w → cell f w new i j ≡ ops.add (cell f w is i j) (ops.mul (cell f w sums n j) (cell f v coefs n (j / run % v)))
      term j h = weighted_row w v run i n sums coefs is new whole j h

  pub combined_end : (w v run m n i : ℕ) (sums coefs was mid is : List ℕ) → Run (filled 0) was mid (i * w) w → Combined f w v run n i sums coefs mid is → n ≤ m → m ≤ n →
      Combined f w v run m i sums coefs was is
  combined_end w v run m n i sums coefs was mid is r g h l =
      let e : n ≡ m = omega arith in
      record {
        long = g.long ∙ r.long;
        here = λ j k. g.here j k ∙ ap (λ b. sum ops b (λ t. ops.mul (cell f w sums t j) (cell f v coefs t (j / run % v)))) e;
        small = g.small;
        others = λ x j k d. g.others x j k d ∙ row_other _ was mid i w r x j k d;
      }

  -- ---- divided
  pub divided_of : (w v run turns i : ℕ) (divs old row was is : List ℕ) → w ≡ v * turns * run → Run (widened divs (i * v) v run) old row 0 (v * turns * run) →
      Run (scaled f was (i * w) row 0) was is (i * w) w → Divided f w v run i divs was is
  unfolding cell widened scaled
  divided_of w v run turns i divs old row was is e r g = record {
    long = g.long;
    here = λ j h.
        ap elem (g.done j h) ∙ elem_times W (get_or was (i * w + j) 0) (get_or row (0 + j) 0)
        ∙ ap (λ (y : ℕ). ops.mul (elem (get_or was (i * w + j) 0)) (elem y)) (r.done j (rw (sym e) h));
    small = λ j h. rw (g.done j h) (times_below W _ _);
    others = λ y j h d. row_other _ was is i w g y j h d;
  }

  neg_swap : (a b : A) → ops.mul a (ops.neg b) ≡ ops.mul (ops.neg a) b
  neg_swap a b = mul_neg ops laws a b ∙ sym (neg_mul ops laws a b)

  -- a right side times a coefficient of the quotient, divided
  term : (s q d b : A) → ops.mul d q ≡ ops.neg b → ops.mul (ops.mul s q) d ≡ ops.mul (ops.neg s) b
  term s q d b e = mul_assoc ops laws s q d ∙ ap (ops.mul s) (mul_comm ops laws q d ∙ e) ∙ neg_swap s b

  module _ (w v run m i : ℕ) (sums points divs coefs was is : List ℕ) (low : 0 < v) (inside : i < m) (g : Divisors f v m points divs) (q : Quotient f v m points i 0 coefs) where
    basis_is : (t j : ℕ) → t < m → ops.mul (cell f v divs i (j / run % v)) (cell f v coefs t (j / run % v)) ≡ ops.neg (coeff ops (basis ops (column f v points (j / run % v)) i m) t)
    basis_is t j h =
        ap₂ ops.mul (g.at i (j / run % v) inside (mod-lt (j / run) low)) (q.at t (j / run % v) (omega arith) h (mod-lt (j / run) low))
        ∙ quotient_basis W (column f v points (j / run % v)) i m t

    pub row_of : (mid : List ℕ) → Combined f w v run m i sums coefs was mid → Divided f w v run i divs mid is → RowSolved f w v run m i sums points was is
    unfolding solve
    row_of mid a d = record {
      long = d.long ∙ a.long;
      here = λ j h.
          d.here j h ∙ ap (λ x. ops.mul x (cell f v divs i (j / run % v))) (a.here j h)
          ∙ sym (sum_mul_right ops laws m (cell f v divs i (j / run % v)) (λ t. ops.mul (cell f w sums t j) (cell f v coefs t (j / run % v))))
          ∙ sum_congr ops m _ _ (λ t l. term (cell f w sums t j) (cell f v coefs t (j / run % v)) (cell f v divs i (j / run % v))
          (coeff ops (basis ops (column f v points (j / run % v)) i m) t) (basis_is t j l));
      small = d.small;
      others = λ x j h e. d.others x j h e ∙ a.others x j h e;
    }

    -- all places with the same points
    module _ (one : v ≡ 1) (coefs' : List ℕ) (x : ℕ) (e : x ≡ get_or divs (i * v) 0) (r : Run (scaled_by f coefs 0 x) coefs coefs' 0 (m * v)) where
      column_is : (j : ℕ) → j / run % v ≡ 0
      column_is j = ap (λ (y : ℕ). j / run % y) one ∙ mod-one (j / run)

      place_is : (t j : ℕ) → 0 + t ≡ t * v + j / run % v
      place_is t j = let b : t * v ≡ t = ap (λ (y : ℕ). t * y) one ∙ mul-one t in let d = column_is j in omega arith

      scaled_is : (t j : ℕ) → t < m → elem (get_or coefs' (0 + t) 0) ≡ ops.mul (cell f v coefs t (j / run % v)) (cell f v divs i (j / run % v))
      unfolding cell scaled_by
      scaled_is t j h =
          ap (λ (y : ℕ). elem (get_or coefs' y 0)) (place_is t j)
          ∙ ap elem (first_done _ coefs coefs' m v r t (j / run % v) h (mod-lt (j / run) low))
          ∙ elem_times W (get_or coefs (0 + (t * v + j / run % v)) 0) x
          ∙ ap₂ (λ (y z : ℕ). ops.mul (elem (get_or coefs y 0)) (elem z)) (zero-add (t * v + j / run % v))
          (e ∙ (let d = column_is j in let k : i * v ≡ i * v + j / run % v = omega arith in ap (λ (y : ℕ). get_or divs y 0) k))

      pub whole_of : Summed f w m i sums coefs' 0 was is → RowSolved f w v run m i sums points was is
      unfolding solve
      whole_of a = record {
        long = a.long;
        here = λ j h.
            a.here j h
            ∙ sum_congr ops m _ _ (λ t l. ap (ops.mul (cell f w sums t j)) (scaled_is t j l)
            ∙ sym (mul_assoc ops laws (cell f w sums t j) (cell f v coefs t (j / run % v)) (cell f v divs i (j / run % v)))
            ∙ term (cell f w sums t j) (cell f v coefs t (j / run % v)) (cell f v divs i (j / run % v)) (coeff ops (basis ops (column f v points (j / run % v)) i m) t) (basis_is t j l));
        small = a.small;
        others = a.others;
      }

  -- ---- all unknowns
  -- one unknown
  pub solved_one : (w v run m n : ℕ) (sums points was is : List ℕ) → m ≡ 1 → n ≤ m → Run (negated f sums 0) was is 0 w → Solved f w v run m sums points is n
  unfolding cell negated solve
  solved_one w v run m n sums points was is e h r = record {
    at = λ i j l k.
        (let z : i ≡ 0 = omega arith in ap (λ (x : ℕ). elem (get_or is (x * w + j) 0)) z) ∙ ap (λ (x : ℕ). elem (get_or is x 0)) (row_first w j) ∙ ap elem (r.done j k)
        ∙ elem_minus W 0 (get_or sums (0 + j) 0) ∙ ap (λ x. ops.add x (ops.neg (elem (get_or sums (0 + j) 0)))) (elem_zero W) ∙ zero-plus ops laws _
        ∙ ap (λ (x : ℕ). ops.neg (elem (get_or sums x 0))) (sym (row_first w j)) ∙ sym (alone (column f v points (j / run % v)) (λ t. ops.neg (elem (get_or sums (t * w + j) 0))))
        ∙ (let z : 0 ≡ i = omega arith in ap₂ (λ (x y : ℕ). sum ops x (λ t. ops.mul (ops.neg (elem (get_or sums (t * w + j) 0)))
        (coeff ops (basis ops (column f v points (j / run % v)) y x) t))) (sym e) z);
    small = λ i j l k. (let z : i * w + j ≡ 0 + j = (let y : i ≡ 0 = omega arith in ap (λ (x : ℕ). x * w + j) y ∙ row_first w j) in rw z (rw (r.done j k) (minus_below W _ _)));
  }
    where
      row_first : (w j : ℕ) → 0 * w + j ≡ 0 + j
      row_first w j = ap (λ (x : ℕ). x + j) (zero-mul w)

      alone : (p b : ℕ → A) → sum ops 1 (λ t. ops.mul (b t) (coeff ops (basis ops p 0 1) t)) ≡ b 0
      alone p b =
          sum_suc ops 0 _ ∙ ap (λ x. ops.add x (ops.mul (b 0) (coeff ops (basis ops p 0 1) 0))) (sum_zero ops _) ∙ zero-plus ops laws _
          ∙ ap (λ l. ops.mul (b 0) (coeff ops l 0)) (basis_same ops p 0 0 refl ∙ basis_zero ops p 0) ∙ ap (ops.mul (b 0)) (coeff_head ops ops.one []) ∙ times-one ops laws (b 0)

  pub solved_more : (w v run m i : ℕ) (sums points was is : List ℕ) → Solved f w v run m sums points was i → RowSolved f w v run m i sums points was is → Solved f w v run m sums points is (i + 1)
  unfolding cell
  solved_more w v run m i sums points was is s g = record { at = λ k j h l. go k j h l (ℕ_discrete k i); small = λ k j h l. low k j h l (ℕ_discrete k i) }
    where
      go : (k j : ℕ) → k < i + 1 → j < w → Dec (k ≡ i) → cell f w is k j ≡ solve ops (column f v points (j / run % v)) m (λ t. ops.neg (cell f w sums t j)) k
      go k j h l (no d) = ap elem (g.others k j l d) ∙ s.at k j (omega arith) l
      go k j h l (yes q) =
          ap (λ n. cell f w is n j) q ∙ g.here j l ∙ ap (solve ops (column f v points (j / run % v)) m (λ t. ops.neg (cell f w sums t j))) (sym q)

      low : (k j : ℕ) → k < i + 1 → j < w → Dec (k ≡ i) → get_or is (k * w + j) 0 < size
      low k j h l (no d) = rw (g.others k j l d) (s.small k j (omega arith) l)
      low k j h l (yes q) = rw q (g.small j l)
