-- One system for the sums of all weights: its rows are u blocks wide.
-- Assumes nothing.
use mathlib.Core.Path.{◌≡◌, sym, ap, ◌∙◌, subst}
use mathlib.Core.List.{List}
use Prim.Native.Nat.{ℕ, ◌+◌, ◌*◌, ◌/◌, ◌%◌, ◌^◌, ◌<◌, ◌≤◌}
use native.Mathlib.Nat.{le-mul_of_pos_right, mul_comm, mul_assoc, mul-pos, add-mul, mod-lt, add-mul-div_left, add-mul-mod_self_left}
use native.Mathlib.Omega.{arith}
use mir.Val.{Fits}
use mir.Syntax.{w64}
use lib.ListN.{length, get_or}
use Rattle.algebra.specs.Sum.{pow}
use Rattle.algebra.specs.Shape.{Field}
use Rattle.algebra.specs.Plain.{Working}
use Rattle.kernel.specs.Inner.{cell}
use Rattle.kernel.proofs.Rows.{row_before}
use Rattle.columns.specs.Inner.{column, Systems, Solved}
use Rattle.layout.specs.declared.Layout.{Layout}
use Rattle.layout.specs.Layout.{digits}
use Rattle.layout.proofs.Facts.{bounds}
use Rattle.codeword.specs.Codeword.{point_at}
use Rattle.blocks.specs.Inner.{Block, Steady}
use Rattle.blocks.proofs.Cycles.{run_low, columns_low, width_is}
use Rattle.solving.proofs.Runs.{cycle_points}
use Rattle.solving.proofs.Solve.{solve_same}
use Rattle.rack_solving.specs.Inner.{Wide, WholeRacks, RackPoints, weighted_sum, WeightedSums}
use Rattle.rack_solving.proofs.Lists.{first_in}

-- ---- the widths
module _ (u w n v run turns : ℕ) (ys sums points coefs wide : List ℕ) (s : Wide u w n v run turns ys sums points coefs wide) where
  pub systems_wide : Systems (u * w) v run (turns * u) n ys sums coefs wide
  systems_wide = record {
    run_low = s.run_low;
    columns_low = s.columns_low;
    turns_low = mul-pos s.turns_low s.some;
    width = ap (λ y. u * y) s.width ∙ sym (mul_assoc u (v * turns) run) ∙ ap (λ y. y * run) (mul_comm u (v * turns) ∙ mul_assoc v turns u);
    found_long = s.ys_long;
    sums_long = s.sums_long;
    coefs_long = s.coefs_long;
    row_long = s.wide_long;
  }

  pub points_in : n * v ≤ length points
  points_in = s.points_long

  pub points_few : n * v ≤ 1536
  points_few = s.few

  -- so many turns lie in a row
  pub turns_fit : Fits w64 (length wide) → Fits w64 (turns * u)
  turns_fit f =
      let q : turns * u ≤ u * w = subst (λ y. turns * u ≤ y) turned (le-mul_of_pos_right (turns * u) (mul-pos s.columns_low s.run_low)) in
      let t = s.wide_long in
      omega arith
    where
      turned : turns * u * (v * run) ≡ u * w
      turned = ap (λ y. y * (v * run)) (mul_comm turns u) ∙ mul_assoc u turns (v * run)
          ∙ ap (λ y. u * y) (sym (mul_assoc turns v run) ∙ ap (λ y. y * run) (mul_comm turns v) ∙ sym s.width)

-- the columns of a block are those of every block of a row
column_same : (m w v turns run j : ℕ) → w ≡ v * turns * run → 0 < v → 0 < run → (m * w + j) / run % v ≡ j / run % v
column_same m w v turns run j e p r =
    ap (λ y. y / run % v) spot ∙ ap (λ y. y % v) (add-mul-div_left j (m * (v * turns)) r)
    ∙ ap (λ y. (j / run + y) % v) (sym (mul_assoc m v turns) ∙ ap (λ y. y * turns) (mul_comm m v) ∙ mul_assoc v m turns)
    ∙ add-mul-mod_self_left (j / run) v (m * turns)
  where
    spot : m * w + j ≡ j + run * (m * (v * turns))
    spot = (let q : m * w ≡ run * (m * (v * turns)) = ap (λ y. m * y) e ∙ sym (mul_assoc m (v * turns) run) ∙ mul_comm (m * (v * turns)) run in omega arith)

module _ {A : Type 0} {f : Field A} (W : Working f) (l : Layout) (w first : ℕ) (es : List ℕ) (n e run v turns : ℕ) (b : Block l w first) (ew : w ≡ digits l ^ e) (s : Steady l es e run v turns)
    (r : WholeRacks l.size n es) (points : List ℕ) (g : RackPoints f l first es v run n points) (sums ys : List ℕ) where
  open f use {ops}
  open f.coding use {elem}

  place_at : (xs : List ℕ) (i m j : ℕ) → cell f w xs (i * l.size + m) j ≡ cell f (l.size * w) xs i (m * w + j)
  unfolding cell
  place_at xs i m j =
      ap (λ k. elem (get_or xs k 0))
      (let q : (i * l.size + m) * w ≡ i * (l.size * w) + m * w = add-mul (i * l.size) m w ∙ ap (λ y. y + m * w) (mul_assoc i l.size w) in omega arith)

  points_at : (m j k : ℕ) → k < n → j < w → column f v points ((m * w + j) / run % v) k ≡ pow ops (point_at f l (first + j) (get_or es (k * l.size) 0)) l.size
  unfolding column
  points_at m j k h hj =
      ap (cell f v points k)
      (column_same m w v turns run j (width_is l es e w run v turns b.adm ew s) (columns_low l es e w run v turns b.adm ew s) (run_low l es e w run v turns b.adm ew s))
      ∙ g.at k (j / run % v) h (mod-lt (j / run) (columns_low l es e w run v turns b.adm ew s))
      ∙ ap (λ y. pow ops y l.size) (cycle_points W l es e w first run v turns b ew s (k * l.size) (first_in l.size n es r k h (bounds l b.adm).size_low) j hj)

  pub weighted_solved : Solved f (l.size * w) v run n sums points ys n → WeightedSums f l w first es n sums ys
  unfolding weighted_sum
  weighted_solved z = record {
    at = λ i m j hi hm hj.
        place_at ys i m j ∙ z.at i (m * w + j) hi (let q = row_before m l.size w hm in omega arith)
        ∙ solve_same W n (column f v points ((m * w + j) / run % v)) (λ k. pow ops (point_at f l (first + j) (get_or es (k * l.size) 0)) l.size) _ _
        (λ k h. points_at m j k h hj)
        (λ t h. ap ops.neg (sym (place_at sums t m j) ∙ ap (λ y. cell f w sums (y + m) j) (mul_comm t l.size))) i hi;
  }
