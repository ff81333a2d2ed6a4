-- A helper's part in the residues of a block, and helper after helper.
-- Assumes nothing.
use mathlib.Core.Path.{◌≡◌, refl, sym, ap, ap₂, ◌∙◌, subst}
use mathlib.Core.List.{List}
use Prim.Native.Nat.{ℕ, zero, suc, ◌+◌, ◌*◌, ◌<◌, ◌≤◌}
use native.Mathlib.Nat.{zero-add, add_assoc, mul-one}
use native.Mathlib.Omega.{arith}
use mir.Val.{Fits}
use mir.Syntax.{w64}
use lib.ListN.{length, get_or}
use Rattle.algebra.specs.Sum.{sum, pow}
use Rattle.algebra.specs.Shape.{Field}
use Rattle.algebra.specs.Plain.{plus, times, Working}
use Rattle.algebra.specs.Lagrange.{check}
use Rattle.algebra.specs.Points.{point}
use Rattle.algebra.specs.Layers.{digit, layer_of}
use Rattle.algebra.specs.Group.{group_point}
use Rattle.algebra.specs.Repair.{helper_place}
use Rattle.algebra.specs.Locate.{gaps, residue, helper_point, unknown_point, gap, residue_at}
use Rattle.algebra.proofs.Ring.{zero_add as nothing-add, mul_comm}
use Rattle.algebra.proofs.Sum.{sum_zero, sum_add_one}
use Rattle.algebra.proofs.Skip.{skip_unskip, join_add}
use Rattle.algebra.proofs.Plain.{laws, elem_zero, elem_plus, elem_times}
use Rattle.kernel.specs.Inner.{cell, Run, filled, copied, added_product}
use Rattle.kernel.proofs.Rows.{row_before, cell_is, cell_other}
use Rattle.layout.specs.declared.Layout.{Layout}
use Rattle.layout.specs.Layout.{digits, groups, parity_racks, tray_limit, layer_limit, Cabinet}
use Rattle.layout.proofs.Facts.{bounds}
use Rattle.codeword.specs.Codeword.{shape_of}
use Rattle.blocks.specs.Inner.{Block}
use Rattle.syndrome.specs.Inner.{Terms}
use Rattle.rule.specs.Rule.{shared_symbol}
use Rattle.sums.specs.Inner.{helper_at, place_point, unknown_point as placed, Chosen, Pointed, PointsTo, RackPowers}
use Rattle.sums.proofs.Steps.{rack_point_lem}
use Rattle.sums.proofs.Sides.{width_pos}
use Rattle.locating.specs.Inner.{GapsTo, point_of, gap_of, part_of, residue_of, Pointing, OwnPoints, Sharing, ShareGaps, BlockRoom, PartAdded, PartsTo}

-- ---- places of a block
module _ (l : Layout) (h w first : ℕ) (helpers shares sides points cur prod row : List ℕ) (g : BlockRoom l h w first helpers shares sides points cur prod row) where
  pub work_next : (sides' points' cur' prod' row' : List ℕ) → length sides' ≡ length sides → length points' ≡ length points → length cur' ≡ length cur →
      length prod' ≡ length prod → length row' ≡ length row →
      BlockRoom l h w first helpers shares sides' points' cur' prod' row'
  work_next sides' points' cur' prod' row' es ep ec eq er = record {
    chosen = g.chosen;
    block = g.block;
    shares_long = g.shares_long;
    sides_long = rw es g.sides_long;
    points_long = rw ep g.points_long;
    cur_long = rw ec g.cur_long;
    prod_long = rw eq g.prod_long;
    row_long = rw er g.row_long;
  }

  pub work_helper : (k : ℕ) → k < length helpers → k < l.helpers
  work_helper k q = rw (sym g.chosen.many) q

  -- the points of the unknowns, a column for each group
  pub work_pointed : Pointed l h w first helpers w 1 points row
  work_pointed = record {
    chosen = g.chosen;
    block = g.block;
    run_low = omega arith;
    width = sym (mul-one w);
    points_long = let t = g.points_long in omega arith;
    row_long = g.row_long;
  }

module _ {A : Type 0} (f : Field A) (l : Layout) (h w first : ℕ) (helpers shares : List ℕ) (k : ℕ) (points cur prod : List ℕ)
    (g : Sharing f l h w first helpers shares k points cur prod) where
  pub gap_groups : (n : ℕ) → n ≡ groups l → n ≤ layer_limit
  gap_groups n e = omega (arith, (bounds l g.adm).groups_high)

  pub gap_first : (n : ℕ) → n ≡ groups l → first < n
  gap_first n e = let p = width_pos l w first g.block in let i = g.block.inside in omega arith

  pub gap_few : k < tray_limit
  gap_few = let b = bounds l g.adm in omega (arith, g.helper_in, g.adm.helpers_high)

module _ {A : Type 0} {f : Field A} (W : Working f) where
  open f use {ops}
  open f.coding use {elem}

  -- ---- points
  gaps_congr : (a b : ℕ → A) (m : ℕ) (x y : A) → ((q : ℕ) → q < m → a q ≡ b q) → x ≡ y → gaps ops a m x ≡ gaps ops b m y
  unfolding gaps
  gaps_congr a b zero x y h e = refl
  gaps_congr a b (suc m) x y h e = ap₂ ops.mul (gaps_congr a b m x y (λ q l. h q (omega arith)) e) (ap₂ (λ u v. ops.add u (ops.neg v)) e (h m (omega arith)))

  -- a row of the k-th helper's points
  pub row_points : (l : Layout) (h w first k : ℕ) (helpers row : List ℕ) → Chosen l h helpers → k < l.helpers → RackPowers f l h w first (get_or helpers k 0) l.size row →
      (j : ℕ) → j < w → elem (get_or row j 0) ≡ point_of f l h helpers (first + j) k
  unfolding point_of helper_point group_point helper_place
  row_points l h w first k helpers row ch q r j hj =
      r.at j hj
      ∙ ap (λ y. pow ops y l.size) (rack_point_lem W l ch.adm (get_or helpers k 0) (layer_of (digits l) h (first + j) 0))
      ∙ ap (λ i. pow ops (point (shape_of f l) i (digit (digits l) (layer_of (digits l) h (first + j) 0) i) 0) l.size) (sym (skip_unskip h (get_or helpers k 0) (ch.other k q)))
      ∙ sym (join_add (digits l) _ _ _)

  placed_is : (l : Layout) (h p : ℕ) (helpers : List ℕ) (i : ℕ) → placed f l h p helpers i ≡ unknown_point (shape_of f l) h (helper_at helpers) l.helpers (parity_racks l) p i
  unfolding placed place_point unknown_point
  placed_is l h p helpers i = refl

  -- the points of the unknowns stay where another row is written
  pub points_stay : (l : Layout) (h w first n : ℕ) (helpers row points points' : List ℕ) → n ≡ parity_racks l → PointsTo f l h first helpers w 1 (parity_racks l) points →
      Run (copied row 0) points points' (n * w) w → PointsTo f l h first helpers w 1 (parity_racks l) points'
  points_stay l h w first n helpers row points points' en p r = record {
    at = λ i c hi hc. cell_other f (copied row 0) points points' n w r i c hc (λ e. omega arith) ∙ p.at i c hi hc;
  }

  -- ---- the part of a helper
  module _ (l : Layout) (h w first : ℕ) (helpers points row : List ℕ) (g : Pointing f l h w first helpers points row) (k : ℕ) (inside : k < l.helpers) where
    pub own_points : (n : ℕ) (row' points' : List ℕ) → n ≡ parity_racks l → RackPowers f l h w first (get_or helpers k 0) l.size row' → Run (copied row' 0) points points' (n * w) w →
        OwnPoints f l h w first helpers k points' row'
    unfolding copied
    own_points n row' points' en rp cp =
        let own : (j : ℕ) → j < w → elem (get_or row' j 0) ≡ point_of f l h helpers (first + j) k = row_points l h w first k helpers row' g.chosen inside rp in
        record {
          unknowns = points_stay l h w first n helpers row' points points' en g.unknowns cp;
          own = λ j hj. sym (cell_is f w points' (parity_racks l) j) ∙ ap (λ y. elem (get_or points' (y * w + j) 0)) (sym en) ∙ ap elem (cp.done j hj)
              ∙ ap (λ y. elem (get_or row' y 0)) (zero-add j) ∙ own j hj;
          row_at = own;
        }

  module _ (l : Layout) (h w first : ℕ) (helpers shares : List ℕ) (k : ℕ) (points cur prod : List ℕ) (g : Sharing f l h w first helpers shares k points cur prod) where
    pub share_gaps : (n total at : ℕ) (cur' prod' prod'' : List ℕ) → n ≡ parity_racks l → total ≡ groups l → at ≡ k * total + first → GapsTo f w n points n cur' →
        Run (filled 0) prod prod' 0 w → Run (added_product f prod' 0 shares at cur' 0) prod' prod'' 0 w → ShareGaps f l h w first helpers shares k prod''
    unfolding filled added_product shared_symbol gap_of gap point_of
    share_gaps n total at cur' prod' prod'' en et ea gp fl ad = record { at = value }
      where
        place : (j : ℕ) → at + j ≡ k * groups l + (first + j)
        place j = ap (λ y. y + j) (ea ∙ ap (λ y. k * y + first) et) ∙ add_assoc (k * groups l) first j

        gap_at : (j : ℕ) → j < w → elem (get_or cur' j 0) ≡ gap_of f l h helpers (first + j) k
        gap_at j hj = gp.at j hj ∙ ap (λ m. gaps ops (λ q. cell f w points q j) m (cell f w points m j)) en ∙ gaps_congr _ _ (parity_racks l) _ _ low (g.own j hj)
          where
            low : (q : ℕ) → q < parity_racks l → cell f w points q j ≡ unknown_point (shape_of f l) h (helper_at helpers) l.helpers (parity_racks l) (first + j) q
            low q hq = g.unknowns.at q j hq hj ∙ ap (λ y. placed f l h (first + y) helpers q) (mul-one j) ∙ placed_is l h (first + j) helpers q

        value : (j : ℕ) → j < w → elem (get_or prod'' j 0) ≡ ops.mul (gap_of f l h helpers (first + j) k) (elem (get_or shares (k * groups l + (first + j)) 0))
        value j hj =
            ap (λ i. elem (get_or prod'' i 0)) (sym (zero-add j)) ∙ ap elem (ad.done j hj ∙ ap (λ y. plus f y (times f (get_or shares (at + j) 0) (get_or cur' (0 + j) 0))) (fl.done j hj))
            ∙ elem_plus W 0 (times f (get_or shares (at + j) 0) (get_or cur' (0 + j) 0)) ∙ ap₂ ops.add (elem_zero W) (elem_times W (get_or shares (at + j) 0) (get_or cur' (0 + j) 0))
            ∙ nothing-add ops (laws W) _ ∙ mul_comm ops (laws W) _ _
            ∙ ap₂ ops.mul (ap (λ i. elem (get_or cur' i 0)) (zero-add j) ∙ gap_at j hj) (ap (λ y. elem (get_or shares y 0)) (place j))

  -- what `own_points` and `share_gaps` are told
  module _ (l : Layout) (h w first : ℕ) (helpers shares sides points cur prod row : List ℕ) (g : BlockRoom l h w first helpers shares sides points cur prod row) where
    pub sharing_of : (k : ℕ) (points' row' : List ℕ) → k < l.helpers → length points' ≡ length points → OwnPoints f l h w first helpers k points' row' →
        Sharing f l h w first helpers shares k points' cur prod
    sharing_of k points' row' q e o = record {
      adm = g.chosen.adm;
      block = g.block;
      helper_in = q;
      shares_long = g.shares_long;
      unknowns = o.unknowns;
      own = o.own;
      points_long = rw e g.points_long;
      cur_long = g.cur_long;
      prod_long = g.prod_long;
    }

  pub part_added : (l : Layout) (h w first : ℕ) (helpers shares : List ℕ) (k : ℕ) (points row prod was is : List ℕ) → OwnPoints f l h w first helpers k points row →
      ShareGaps f l h w first helpers shares k prod → Terms f w 2 row prod was is → PartAdded f l h w first helpers shares k was is
  unfolding part_of
  part_added l h w first helpers shares k points row prod was is o s tm = record {
    at = λ t j ht hj. tm.at t j ht hj ∙ ap (ops.add (cell f w was t j)) (ap₂ (λ a b. ops.mul (pow ops a t) b) (o.row_at j hj) (s.at j hj));
  }

  -- ---- helper after helper
  module _ (l : Layout) (h w first : ℕ) (helpers shares : List ℕ) where
    pub parts_none : (was is : List ℕ) → Run (filled 0) was is 0 (2 * w) → PartsTo f l h w first helpers shares 0 is
    unfolding filled
    parts_none was is r = record {
      at = λ t j ht hj.
          sym (cell_is f w is t j) ∙ ap (λ i. elem (get_or is i 0)) (sym (zero-add (t * w + j)))
          ∙ ap elem (r.done (t * w + j) (let e = row_before t 2 w ht in omega arith)) ∙ elem_zero W ∙ sym (sum_zero ops _);
    }

    pub parts_more : (k : ℕ) (was is : List ℕ) → PartsTo f l h w first helpers shares k was → PartAdded f l h w first helpers shares k was is →
        PartsTo f l h w first helpers shares (k + 1) is
    parts_more k was is s g = record {
      at = λ t j ht hj.
          g.at t j ht hj ∙ ap (λ y. ops.add y (part_of f l h helpers shares (first + j) t k)) (s.at t j ht hj)
          ∙ sym (sum_add_one ops k (part_of f l h helpers shares (first + j) t));
    }

    pub parts_end : (k n : ℕ) (sides : List ℕ) → PartsTo f l h w first helpers shares k sides → k ≤ n → n ≤ k → n ≡ l.helpers → PartsTo f l h w first helpers shares l.helpers sides
    parts_end k n sides s a b c = let q : k ≡ l.helpers = omega arith in subst (λ y. PartsTo f l h w first helpers shares y sides) q s

  -- the parts of all helpers make the residue
  pub parts_residue : (l : Layout) (h p t : ℕ) (helpers shares : List ℕ) → sum ops l.helpers (part_of f l h helpers shares p t) ≡ residue_of f l h helpers shares p t
  unfolding part_of residue_of residue_at residue check point_of gap_of gap
  parts_residue l h p t helpers shares = refl
