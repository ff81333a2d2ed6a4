-- The systems solved, and the host's sums written row by row and weight after weight.
-- Assumes nothing.
use mathlib.Core.Path.{◌≡◌, refl, sym, ap, ap₂, ◌∙◌, subst}
use mathlib.Core.List.{List}
use Prim.Native.Nat.{ℕ, ◌+◌, ◌*◌, ◌/◌, ◌%◌, ◌<◌, ◌≤◌}
use native.Mathlib.Nat.{mod-lt, not-suc-le-zero, mul-one, mul-le-mul, le_refl, le_trans}
use native.Mathlib.Decide.{ℕ_discrete}
use native.Mathlib.Omega.{arith}
use mir.Val.{Fits}
use mir.Syntax.{w32}
use lib.ListN.{length, get_or}
use Rattle.lists.proofs.Numbers.{cell_in}
use Rattle.algebra.specs.Sum.{pow}
use Rattle.algebra.specs.Lagrange.{solve}
use Rattle.algebra.specs.Points.{point}
use Rattle.algebra.proofs.Ring.{zero_add, mul_comm, neg_mul}
use Rattle.algebra.proofs.Lagrange.{solve_congr}
use Rattle.algebra.specs.Shape.{Field}
use Rattle.algebra.specs.Plain.{plus, minus, times, Working}
use Rattle.algebra.proofs.Plain.{elem_zero, elem_plus, elem_minus, elem_times}
use Rattle.kernel.specs.Inner.{cell, Run, filled, added_multiple}
use Rattle.kernel.proofs.Rows.{row_before, cell_is, cell_other}
use Rattle.columns.specs.Inner.{column, Systems, Solved}
use Rattle.layout.specs.declared.Layout.{Layout}
use Rattle.layout.specs.Layout.{digits, parity_racks, tray_limit, Cabinet}
use Rattle.codeword.specs.Codeword.{shape_of}
use Rattle.blocks.specs.Inner.{room_limit}
use Rattle.sums.specs.Inner.{unknown_point, right_side, sum_at, Chosen, Cycle, PointsTo, Workspace, FoundSums, RowTimes, Weighing, Weighed, SidesTo, SumsTo}
use Rattle.sums.proofs.Steps.{digits_under, sums_high}
use Rattle.sums.proofs.Points.{columns_in}
use Rattle.sums.proofs.Formula.{solved_is}

-- a row lies within all of them
module _ (l : Layout) (h w e m : ℕ) (found sums : List ℕ) (g : Weighing l h w e m found sums) where
  module _ (a s : ℕ) (ha : a < s) (es : s ≡ digits l) where
    row_number : m * s + a < e * digits l
    row_number = rw es (cell_in e (digits l) m a g.weight_in (rw (sym es) ha))

    row_small : m * s + a < tray_limit
    row_small = let q = sums_high l g.adm e g.few in omega (arith, row_number)

    pub row_fits : Fits w32 (m * s)
    row_fits = record { fits = omega (arith, row_small) }

    pub row_fits_2 : Fits w32 (m * s + a)
    row_fits_2 = record { fits = omega (arith, row_small) }

    pub sums_row : (is : List ℕ) → length is ≡ length sums → (m * s + a) * w + w ≤ length is
    sums_row is k = rw k (le_trans (row_before (m * s + a) (e * digits l) w row_number) g.sums_long)

    pub found_row : a * w + w ≤ length found
    found_row = le_trans (row_before a (parity_racks l) w (let d = digits_under l g.adm in omega arith)) g.found_long

-- ---- places
module _ {A : Type 0} {f : Field A} (W : Working f) where
  open f use {ops}
  open f.coding use {elem}
  open W.field use {laws}

  module _ (l : Layout) (h w first : ℕ) (helpers : List ℕ) (v run : ℕ) (g : (Cycle f) l h w first helpers v run) where
    pub points_room : (n : ℕ) (sides found points coefs row points' : List ℕ) → n ≡ parity_racks l → Workspace l w sides found points coefs row → length points' ≡ length points →
        n * v ≤ length points'
    points_room n sides found points coefs row points' en k e = rw (en, e) (le_trans (mul-le-mul (le_refl (parity_racks l)) (columns_in W l h w first helpers v run g)) k.points_long)

    pub systems_of : (n : ℕ) (sides found points coefs row row' : List ℕ) → n ≡ parity_racks l → Workspace l w sides found points coefs row → length row' ≡ length row →
        Systems w v run 1 n found sides coefs row'
    systems_of n sides found points coefs row row' en k e = record {
      run_low = g.run_low;
      columns_low = g.columns_low;
      turns_low = omega arith;
      width = g.width ∙ ap (λ y. y * run) (sym (mul-one v));
      found_long = rw en k.found_long;
      sums_long = rw en k.sides_long;
      coefs_long = rw en (le_trans (mul-le-mul (le_refl (parity_racks l)) (columns_in W l h w first helpers v run g)) k.coefs_long);
      row_long = rw e k.row_long;
    }

    pub points_few : (n : ℕ) (sides found points coefs row : List ℕ) → n ≡ parity_racks l → Workspace l w sides found points coefs row → n * v ≤ room_limit
    points_few n sides found points coefs row en k = rw en (le_trans (mul-le-mul (le_refl (parity_racks l)) (columns_in W l h w first helpers v run g)) k.few)

    pub found_of : (n s : ℕ) (sides points found : List ℕ) → Cabinet l → n ≡ parity_racks l → s ≡ digits l → PointsTo f l h first helpers v run (parity_racks l) points →
        Solved f w v run n sides points found s → FoundSums f l h w first helpers sides found
    unfolding column
    found_of n s sides points found a en es p z = record {
      at = λ i j hi hj.
          let k : i < parity_racks l = (let d = digits_under l a in omega arith) in
          z.at i j (rw es hi) hj ∙ ap (λ k. solve ops (column f v points (j / run % v)) k (λ t. ops.neg (cell f w sides t j)) i) en
          ∙ solve_congr ops (column f v points (j / run % v)) (unknown_point f l h (first + j) helpers) i (parity_racks l) k
          (λ k q. p.at k (j / run % v) q (mod-lt (j / run) g.columns_low) ∙ g.alike k j q hj) (λ t. ops.neg (cell f w sides t j)) (λ t. ops.neg (cell f w sides t j)) (λ t q. refl);
    }

    pub first_under : (n s : ℕ) → Cabinet l → n ≡ parity_racks l → s ≡ digits l → s ≤ n
    first_under n s a en es = rw (en, es) (digits_under l a)

  pub times_of : (w q a v : ℕ) (found was mid is : List ℕ) → Run (filled 0) was mid (q * w) w → Run (added_multiple f mid (q * w) found (a * w) v) mid is (q * w) w → RowTimes f w q a v found was is
  unfolding filled added_multiple
  times_of w q a v found was mid is z r = record {
    long = r.long ∙ z.long;
    here = λ j h.
        sym (cell_is f w is q j) ∙ ap elem (r.done j h ∙ ap (λ (y : ℕ). plus f y (times f (get_or found (a * w + j) 0) v)) (z.done j h))
        ∙ elem_plus W 0 (times f (get_or found (a * w + j) 0) v) ∙ ap₂ ops.add (elem_zero W) (elem_times W (get_or found (a * w + j) 0) v) ∙ zero_add ops laws _ ∙ mul_comm ops laws _ _
        ∙ ap (ops.mul (elem v)) (cell_is f w found a j);
    others = λ x j h d. cell_other f _ mid is q w r x j h d ∙ cell_other f _ was mid q w z x j h d;
  }

  module _ (l : Layout) (h w m : ℕ) (found was : List ℕ) where
    pub weighed_none : (Weighed f) l h w m 0 found was was
    weighed_none = record { long = refl; done = λ a j q. absurd (not-suc-le-zero q); kept = λ x j q k. refl }

    pub weighed_more : (a s v x p : ℕ) (is new : List ℕ) → s ≡ digits l → elem p ≡ pow ops (point (shape_of f l) h a 0) m → elem x ≡ ops.inv (elem p) → v ≡ minus f 0 x →
        Weighed f l h w m a found was is → RowTimes f w (m * s + a) a v found is new → Weighed f l h w m (a + 1) found was new
    weighed_more a s v x p is new es ep ex ev g r = record {
      long = r.long ∙ g.long;
      done = λ b j hb hj. go b j hb hj (ℕ_discrete b a);
      kept = λ x j hx hj. r.others x j hj (λ e. let z = here in omega arith) ∙ g.kept x j hx hj;
    }
      where
        factor : elem v ≡ ops.neg (elem x)
        factor = ap elem ev ∙ elem_minus W 0 x ∙ ap (λ y. ops.add y (ops.neg (elem x))) (elem_zero W) ∙ zero_add ops laws _

        here : m * s + a ≡ m * digits l + a
        here = ap (λ n. m * n + a) es

        go : (b j : ℕ) → b < a + 1 → j < w → Dec (b ≡ a) → cell f w new (m * digits l + b) j ≡ ops.mul (ops.neg (ops.inv (pow ops (point (shape_of f l) h b 0) m))) (cell f w found b j)
        go b j hb hj (yes e) =
            subst (λ n. cell f w new (m * digits l + n) j ≡ ops.mul (ops.neg (ops.inv (pow ops (point (shape_of f l) h n 0) m))) (cell f w found n j)) (sym e)
            (ap (λ n. cell f w new n j) (sym here) ∙ r.here j hj ∙ ap (λ y. ops.mul y (cell f w found a j)) (factor ∙ ap ops.neg (ex ∙ ap ops.inv ep)))
        go b j hb hj (no d) = r.others (m * digits l + b) j hj (λ e. d (let z = here in omega arith)) ∙ g.done b j (omega arith) hj

    pub weighed_end : (a s : ℕ) (is : List ℕ) → Weighed f l h w m a found was is → a ≤ s → s ≤ a → s ≡ digits l → Weighed f l h w m (digits l) found was is
    weighed_end a s is g p q e = let t : a ≡ digits l = omega arith in subst (λ n. Weighed f l h w m n found was is) t g

  -- weight after weight
  module _ (l : Layout) (h w first : ℕ) (helpers shares : List ℕ) (e : ℕ) where
    pub weights_none : (sums : List ℕ) → SumsTo f l h w first helpers shares e 0 sums
    weights_none sums = record { at = λ m a j q. absurd (not-suc-le-zero q) }

    pub weights_more : (m : ℕ) (sides found was is : List ℕ) → Chosen l h helpers → SidesTo f l h w first helpers shares e m l.helpers sides → FoundSums f l h w first helpers sides found →
        Weighed f l h w m (digits l) found was is → SumsTo f l h w first helpers shares e m was → SumsTo f l h w first helpers shares e (m + 1) is
    unfolding right_side
    weights_more m sides found was is ch s z g t = record { at = λ n a j hn ha hj. go n a j hn ha hj (ℕ_discrete n m) }
      where
        sum_is : (a j : ℕ) → a < digits l → j < w → cell f w is (m * digits l + a) j ≡ ops.neg (sum_at f l h (first + j) helpers shares e m a)
        sum_is a j ha hj =
            let k : a < parity_racks l = (let d = digits_under l ch.adm in omega arith) in
            g.done a j ha hj
            ∙ neg_mul ops laws _ _ ∙ ap (λ y. ops.neg (ops.mul (ops.inv (pow ops (point (shape_of f l) h a 0) m)) y))
            (z.at a j ha hj ∙ solve_congr ops (unknown_point f l h (first + j) helpers) (unknown_point f l h (first + j) helpers) a (parity_racks l) k (λ i q. refl)
            (λ t. ops.neg (cell f w sides t j)) (λ t. ops.neg (right_side f l h (first + j) helpers shares e m t)) (λ t q. ap ops.neg (s.at t j q hj)))
            ∙ ap ops.neg (solved_is W l h (first + j) helpers ch shares e m a ha)

        go : (n a j : ℕ) → n < m + 1 → a < digits l → j < w → Dec (n ≡ m) → cell f w is (n * digits l + a) j ≡ ops.neg (sum_at f l h (first + j) helpers shares e n a)
        go n a j hn ha hj (yes q) = subst (λ n. cell f w is (n * digits l + a) j ≡ ops.neg (sum_at f l h (first + j) helpers shares e n a)) (sym q) (sum_is a j ha hj)
        go n a j hn ha hj (no d) = g.kept (n * digits l + a) j (cell_in m (digits l) n a (omega arith) ha) hj ∙ t.at n a j (omega arith) ha hj

    pub weights_end : (m : ℕ) (sums : List ℕ) → SumsTo f l h w first helpers shares e m sums → e ≤ m → SumsTo f l h w first helpers shares e e sums
    weights_end m sums g q = record { at = λ n a j hn ha hj. g.at n a j (omega arith) ha hj }
