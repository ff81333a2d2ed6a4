-- Runs of layers in which the points of the trays listed stay.
-- Assumes nothing.
use mathlib.Core.Path.{◌≡◌, sym, ap, ap₂, ◌∙◌, subst}
use mathlib.Core.List.{List}
use Prim.Native.Nat.{ℕ, ◌+◌, ◌*◌, ◌/◌, ◌%◌, ◌^◌, ◌<◌, ◌≤◌}
use native.Mathlib.Nat.{mul_comm, mul_assoc, mul-pos, mul-div_cancel, add_assoc, add-mul, add-mul-div_left, div-add-mod', mod-lt, mod-mod, mul-le-mul, le_trans, not-suc-le-zero}
use native.Mathlib.Decide.{ℕ_discrete, dec_lt}
use native.Mathlib.Omega.{arith}
use mir.Val.{Fits}
use mir.Syntax.{w64}
use lib.Arith.{digits_div, mod-mul}
use lib.ListN.{length, get_or}
use Rattle.algebra.specs.Shape.{Field}
use Rattle.algebra.specs.Plain.{Working}
use Rattle.kernel.specs.Inner.{cell, Run, sampled}
use Rattle.kernel.proofs.Rows.{row_before, row_in, cell_is, cell_other}
use Rattle.layout.specs.declared.Layout.{Layout}
use Rattle.layout.specs.Layout.{trays, digits}
use Rattle.codeword.specs.Codeword.{point_at}
use Rattle.blocks.specs.Inner.{Block, Steady}
use Rattle.blocks.proofs.Digits.{same_block}
use Rattle.blocks.proofs.Cycles.{run_low, columns_low, period_is, whole, width_is, period_in, columns_in}
use Rattle.syndrome.specs.Inner.{Listed, TrayPoints}
use Rattle.syndrome.proofs.Digits.{point_run, point_cycle}
use Rattle.solving.specs.Inner.{Columns, ListedPoints, Workspace}

-- the layers of a run have the same points
pub same_run : (run a j : ℕ) → 0 < run → (a * run + j / run * run) / run ≡ (a * run + j) / run
same_run run a j p = side (j / run * run) ∙ ap (λ y. y + a) (mul-div_cancel (j / run) p) ∙ sym (side j)
  where
    side : (x : ℕ) → (a * run + x) / run ≡ x / run + a
    side x = (let e : a * run + x ≡ x + run * a = (let q = mul_comm a run in omega arith) in ap (λ y. y / run) e) ∙ add-mul-div_left x a p

-- ---- room
pub columns_of : (l : Layout) (w first : ℕ) (es : List ℕ) (e run v turns : ℕ) (sums found points coefs row : List ℕ) → Block l w first → Listed l es → w ≡ digits l ^ e → Steady l es e run v turns →
    Workspace l w sums found points coefs row → Columns l w first es v run points row
columns_of l w first es e run v turns sums found points coefs row b k ew s g = record {
  block = b;
  listed = k;
  width = period_in l es e w run v turns b.adm ew s;
  run_low = run_low l es e w run v turns b.adm ew s;
  points_long = le_trans (mul-le-mul k.few (columns_in l es e w run v turns b.adm ew s)) g.points_long;
  row_long = g.row_long;
}

module _ {A : Type 0} {f : Field A} (W : Working f) where
  open f.coding use {elem}

  -- ---- the points of the trays listed
  pub listed_more : (l : Layout) (w first : ℕ) (es : List ℕ) (v run k : ℕ) (row was is : List ℕ) → v * run ≤ w → 0 < run → ListedPoints f l first es v run k was →
      TrayPoints f l w first (get_or es k 0) row → Run (sampled row run) was is (k * v) v → ListedPoints f l first es v run (k + 1) is
  unfolding sampled
  listed_more l w first es v run k row was is e low g p r = record { at = λ i c h b. go i c h b (ℕ_discrete i k) }
    where
      go : (i c : ℕ) → i < k + 1 → c < v → Dec (i ≡ k) → cell f v is i c ≡ point_at f l (first + c * run) (get_or es i 0)
      go i c h b (yes q) =
          subst (λ n. cell f v is n c ≡ point_at f l (first + c * run) (get_or es n 0)) (sym q)
          (sym (cell_is f v is k c) ∙ ap elem (r.done c b) ∙ p.at (c * run) (let q = row_before c v run b in omega arith))
      go i c h b (no d) = cell_other f _ was is k v r i c b d ∙ g.at i c (omega arith) b

  -- and so have those of every turn
  module _ (l : Layout) (es : List ℕ) (e w first run v turns : ℕ) (b : Block l w first) (ew : w ≡ digits l ^ e) (s : Steady l es e run v turns) (i : ℕ) (hi : i < length es) where
    run_points : (j : ℕ) → point_at f l (first + j / run * run) (get_or es i 0) ≡ point_at f l (first + j) (get_or es i 0)
    run_points j =
        point_run W l b.adm (get_or es i 0) (first + j / run * run) (first + j) s.bottom run s.run_is (s.low.at i hi)
        (subst (λ k. (k + j / run * run) / run ≡ (k + j) / run) (sym start) (same_run run (b.number * (v * turns)) j (run_low l es e w run v turns b.adm ew s)))
      where
        start : first ≡ b.number * (v * turns) * run
        start = b.first_is ∙ ap (λ y. b.number * y) (width_is l es e w run v turns b.adm ew s) ∙ sym (mul_assoc b.number (v * turns) run)

    -- the layer of the first turn that a layer is alike with
    turn_points : (j : ℕ) → j < w → point_at f l (first + j % (v * run)) (get_or es i 0) ≡ point_at f l (first + j) (get_or es i 0)
    turn_points j hj = go (dec_lt (get_or es i 0 / l.size) e)
      where
        cycles : (k : ℕ) → first + k ≡ (b.number * turns + k / (v * run)) * digits l ^ s.top + k % (v * run)
        cycles k =
            ap₂ ◌+◌ start (sym (div-add-mod' k (v * run))) ∙ sym (add_assoc (b.number * turns * (v * run)) (k / (v * run) * (v * run)) (k % (v * run)))
            ∙ ap (λ y. y + k % (v * run)) (sym (add-mul (b.number * turns) (k / (v * run)) (v * run)))
            ∙ ap (λ y. (b.number * turns + k / (v * run)) * y + k % (v * run)) (period_is l es e w run v turns b.adm ew s)
          where
            start : first ≡ b.number * turns * (v * run)
            start = b.first_is ∙ ap (λ y. b.number * y) (whole l es e w run v turns b.adm ew s) ∙ sym (mul_assoc b.number turns (v * run))

        low_part : (k : ℕ) → get_or es i 0 / l.size < s.top → point_at f l (first + k) (get_or es i 0) ≡ point_at f l (k % (v * run)) (get_or es i 0)
        low_part k h = point_cycle W l b.adm (get_or es i 0) (first + k) (k % (v * run)) (b.number * turns + k / (v * run)) s.top h (cycles k)

        pos : 0 < v * run
        pos = mul-pos (columns_low l es e w run v turns b.adm ew s) (run_low l es e w run v turns b.adm ew s)

        below : j % (v * run) < w
        below = let m = mod-lt j pos in let p = period_in l es e w run v turns b.adm ew s in omega arith

        quotient : (k : ℕ) → k < w → (first + k) / w ≡ first / w
        quotient k h = subst (λ y. (y + k) / w ≡ y / w) (sym b.first_is) (same_block w b.number k h)

        go : Dec (get_or es i 0 / l.size < e) → point_at f l (first + j % (v * run)) (get_or es i 0) ≡ point_at f l (first + j) (get_or es i 0)
        go (yes h) =
            let t = s.high.at i hi h in
            low_part (j % (v * run)) t ∙ ap (λ y. point_at f l y (get_or es i 0)) (mod-mod j (v * run)) ∙ sym (low_part j t)
        go (no h) =
            point_run W l b.adm (get_or es i 0) (first + j % (v * run)) (first + j) e w ew (omega arith) (quotient (j % (v * run)) below ∙ sym (quotient j hj))

    pub cycle_points : (j : ℕ) → j < w → point_at f l (first + j / run % v * run) (get_or es i 0) ≡ point_at f l (first + j) (get_or es i 0)
    cycle_points j hj =
        ap (λ y. point_at f l (first + y * run) (get_or es i 0)) (sym place) ∙ run_points (j % (v * run)) ∙ turn_points j hj
      where
        place : j % (v * run) / run ≡ j / run % v
        place =
            ap (λ k. k / run) (mod-mul j (columns_low l es e w run v turns b.adm ew s) (run_low l es e w run v turns b.adm ew s))
            ∙ digits_div (j / run % v) (mod-lt j (run_low l es e w run v turns b.adm ew s))
