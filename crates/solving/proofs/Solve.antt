-- A block solved: the symbols found are those that the checks determine.
-- Assumes nothing.
use mathlib.Core.Path.{◌≡◌, refl, sym, ap, ap₂, ◌∙◌}
use mathlib.Core.List.{List}
use Prim.Native.Nat.{ℕ, zero, suc, ◌+◌, ◌*◌, ◌/◌, ◌%◌, ◌^◌, ◌<◌, ◌≤◌}
use native.Mathlib.Nat.{mod-lt, mul-le-mul, mul-le-mul_right, le_trans}
use native.Mathlib.Omega.{arith}
use lib.Dec.{eqb}
use lib.ListN.{length, get_or}
use Rattle.algebra.specs.Poly.{coeff}
use Rattle.algebra.specs.Lagrange.{factor, basis, solve}
use Rattle.algebra.proofs.Sum.{sum_congr}
use Rattle.algebra.proofs.Lagrange.{basis_zero, basis_suc}
use Rattle.algebra.specs.Shape.{Field}
use Rattle.algebra.specs.Plain.{Working}
use Rattle.kernel.specs.Inner.{cell}
use Rattle.columns.specs.Inner.{column, Systems, Solved}
use Rattle.layout.specs.declared.Layout.{Layout}
use Rattle.layout.specs.Layout.{digits, Cabinet}
use Rattle.codeword.specs.Codeword.{point_at}
use Rattle.blocks.specs.Inner.{room_limit, Block, Steady}
use Rattle.blocks.proofs.Cycles.{run_low, columns_low, turns_low, width_is, columns_in}
use Rattle.syndrome.specs.Inner.{Listed}
use Rattle.solving.specs.Inner.{ListedPoints, Workspace, FoundBlock}
use Rattle.solving.proofs.Runs.{cycle_points}

pub systems_of : (l : Layout) (w : ℕ) (es : List ℕ) (e run v turns : ℕ) (sums found points coefs row new : List ℕ) → Cabinet l → Listed l es → w ≡ digits l ^ e → Steady l es e run v turns →
    Workspace l w sums found points coefs row → length new ≡ length row → Systems w v run turns (length es) found sums coefs new
systems_of l w es e run v turns sums found points coefs row new a k ew s g q = record {
  run_low = run_low l es e w run v turns a ew s;
  columns_low = columns_low l es e w run v turns a ew s;
  turns_low = turns_low l es e w run v turns a ew s;
  width = width_is l es e w run v turns a ew s;
  found_long = le_trans (mul-le-mul_right w k.few) g.found_long;
  sums_long = le_trans (mul-le-mul_right w k.few) g.sums_long;
  coefs_long = le_trans (mul-le-mul k.few (columns_in l es e w run v turns a ew s)) g.coefs_long;
  row_long = rw q g.row_long;
}

pub points_room : (l : Layout) (w : ℕ) (es : List ℕ) (e run v turns : ℕ) (sums found points new coefs row : List ℕ) → Cabinet l → Listed l es → w ≡ digits l ^ e → Steady l es e run v turns →
    Workspace l w sums found points coefs row → length new ≡ length points → length es * v ≤ length new
points_room l w es e run v turns sums found points new coefs row a k ew s g q =
    rw q (le_trans (mul-le-mul k.few (columns_in l es e w run v turns a ew s)) g.points_long)

pub points_few : (l : Layout) (w : ℕ) (es : List ℕ) (e run v turns : ℕ) (sums found points coefs row : List ℕ) → Cabinet l → Listed l es → w ≡ digits l ^ e → Steady l es e run v turns →
    Workspace l w sums found points coefs row → length es * v ≤ room_limit
points_few l w es e run v turns sums found points coefs row a k ew s g = le_trans (mul-le-mul k.few (columns_in l es e w run v turns a ew s)) g.few

module _ {A : Type 0} {f : Field A} (W : Working f) where
  open f use {ops}
  open W.field use {laws}

  -- a solution hangs on the points and the right sides below m
  basis_same : (p q : ℕ → A) (i n : ℕ) → ((x : ℕ) → x < n → p x ≡ q x) → i < n → (m : ℕ) → m ≤ n → basis ops p i m ≡ basis ops q i m
  basis_same p q i n e hi zero h = basis_zero ops p i ∙ sym (basis_zero ops q i)
  basis_same p q i n e hi (suc m) h =
      basis_suc ops p i m ∙ ap₂ (λ x y. factor ops (eqb m i) x y (basis ops p i m)) (e i hi) (e m (omega arith))
      ∙ ap (factor ops (eqb m i) (q i) (q m)) (basis_same p q i n e hi m (omega arith)) ∙ sym (basis_suc ops q i m)

  pub solve_same : (m : ℕ) (p q b d : ℕ → A) → ((x : ℕ) → x < m → p x ≡ q x) → ((t : ℕ) → t < m → b t ≡ d t) → (k : ℕ) → k < m → solve ops p m b k ≡ solve ops q m d k
  unfolding solve
  solve_same m p q b d e g k h =
      sum_congr ops m _ _ (λ t l. ap₂ ops.mul (g t l) (ap (λ y. coeff ops y t) (basis_same p q k m e h m (omega arith))))

  pub found_of : (l : Layout) (w first : ℕ) (es : List ℕ) (e run v turns : ℕ) (sums points found : List ℕ) → Block l w first → w ≡ digits l ^ e → Steady l es e run v turns →
      ListedPoints f l first es v run (length es) points → Solved f w v run (length es) sums points found (length es) → FoundBlock f l w first es sums found
  unfolding column
  found_of l w first es e run v turns sums points found b ew s g z = record {
    small = λ k j h c. z.small k j h c;
    at = λ k j h c.
        z.at k j h c
        ∙ solve_same (length es) (column f v points (j / run % v)) (λ i. point_at f l (first + j) (get_or es i 0)) (λ t. ops.neg (cell f w sums t j)) (λ t. ops.neg (cell f w sums t j))
        (λ i q. g.at i (j / run % v) q (mod-lt (j / run) (columns_low l es e w run v turns b.adm ew s)) ∙ cycle_points W l es e w first run v turns b ew s i q j c) (λ t q. refl) k h;
  }
