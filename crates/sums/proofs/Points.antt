-- The points of the unknowns in a block, and the columns that stand for its groups.
-- Assumes nothing.
use mathlib.Core.Path.{◌≡◌, sym, ap, ap₂, ◌∙◌, subst}
use mathlib.Core.List.{List}
use Prim.Native.Nat.{ℕ, ◌+◌, ◌-◌, ◌*◌, ◌/◌, ◌%◌, ◌<◌, ◌≤◌}
use native.Mathlib.Nat.{mul-one, div-one, mod-eq_of_lt, not-suc-le-zero, le-mul_of_pos_right, le_refl, le_trans, mul-le-mul}
use native.Mathlib.Decide.{ℕ_discrete}
use native.Mathlib.Omega.{arith}
use lib.ListN.{length, get_or}
use Rattle.algebra.specs.Sum.{pow}
use Rattle.algebra.specs.Points.{point}
use Rattle.algebra.specs.Layers.{layer_of}
use Rattle.algebra.specs.Group.{skip, unskip, free, group_point}
use Rattle.algebra.specs.Repair.{helper_place}
use Rattle.algebra.proofs.Skip.{skip_other, join_low, join_high}
use Rattle.algebra.proofs.Free.{free_below, free_low}
use Rattle.algebra.specs.Shape.{Field}
use Rattle.algebra.specs.Plain.{Working}
use Rattle.kernel.specs.Inner.{cell, Run, filled, sampled}
use Rattle.kernel.proofs.Rows.{row_before, cell_is, cell_other}
use Rattle.layout.specs.declared.Layout.{Layout}
use Rattle.layout.specs.Layout.{digits, parity_racks, tray_limit, Cabinet}
use Rattle.layout.proofs.Facts.{bounds}
use Rattle.layout.proofs.Numbers.{total_plain}
use Rattle.codeword.specs.Codeword.{shape_of, point_at}
use Rattle.sums.specs.Inner.{helper_at, place_point, unknown_point, Chosen, Groups, RackPowers, Cycle, Pointed, PointsTo, PointRow, Workspace}
use Rattle.sums.proofs.Steps.{rack_point_lem, other_in}
use Rattle.sums.proofs.Sides.{width_pos}

pub unknown_below : (l : Layout) (h : ℕ) (helpers : List ℕ) (x s n i : ℕ) → Cabinet l → l.errors ≡ 0 → x ≡ free (helper_place s h (helper_at helpers)) n i →
    n ≡ l.helpers → i < parity_racks l → x < digits l + (l.racks - 1)
unknown_below l h helpers x s n i a z e en k = omega (arith, e, free_below (helper_place s h (helper_at helpers)) (parity_racks l) n i k, en, total_plain l a z)

module _ {A : Type 0} {f : Field A} (W : Working f) where
  open f use {ops}
  open f.coding use {elem}

  module _ (l : Layout) (a : Cabinet l) (h : ℕ) where
    -- the host's points are alike in all groups
    host_point : (p x : ℕ) → x < digits l → place_point f l h p x ≡ pow ops (point (shape_of f l) h x 0) l.size
    unfolding place_point group_point
    host_point p x k = join_low (digits l) _ _ x k

    pub point_host : (q x : ℕ) (e : A) → x < digits l → e ≡ pow ops (point (shape_of f l) h x 0) l.size → e ≡ place_point f l h q x
    point_host q x e k ee = ee ∙ sym (host_point q x k)

    pub point_other : (p x s i : ℕ) (e : A) → s ≤ x → s ≡ digits l → i ≡ skip h (x - s) → e ≡ pow ops (point_at f l (layer_of (digits l) h p 0) (i * l.size))
        l.size → e ≡ place_point f l h p x
    unfolding place_point group_point
    point_other p x s i e k es ei ee =
        ee ∙ ap (λ n. pow ops (point_at f l (layer_of (digits l) h p 0) (n * l.size)) l.size) (ei ∙ ap (λ n. skip h (x - n)) es)
        ∙ ap (λ y. pow ops y l.size) (rack_point_lem W l a (skip h (x - digits l)) (layer_of (digits l) h p 0))
        ∙ sym (join_high (digits l) _ _ x (omega arith))

  module _ (l : Layout) (h : ℕ) (helpers : List ℕ) where
    unknown_is : (p x s n i : ℕ) → x ≡ free (helper_place s h (helper_at helpers)) n i → s ≡ digits l → n ≡ l.helpers → place_point f l h p x ≡ unknown_point f l h p helpers i
    unfolding unknown_point
    unknown_is p x s n i e es en = ap (place_point f l h p) (e ∙ ap₂ (λ b m. free (helper_place b h (helper_at helpers)) m i) es en)

    module _ (w first v run : ℕ) (points row : List ℕ) (g : Pointed l h w first helpers v run points row) (i x s : ℕ) (es : s ≡ digits l)
        (ex : x ≡ free (helper_place s h (helper_at helpers)) (length helpers) i) where
      a : Cabinet l
      a = g.chosen.adm

      at_group : (p : ℕ) → place_point f l h p x ≡ unknown_point f l h p helpers i
      at_group p = unknown_is p x s (length helpers) i ex es g.chosen.many

      pub host_row : (p : ℕ) (is : List ℕ) → x < s → elem p ≡ pow ops (point (shape_of f l) h x 0) l.size → Run (filled p) points is (i * v) v →
          PointRow f l h first helpers v run i points is
      unfolding filled
      host_row p is k ep z = record {
        here = λ c q. sym (cell_is f v is i c) ∙ ap elem (z.done c q) ∙ point_host l a h (first + c * run) x (elem p) (omega arith) ep ∙ at_group (first + c * run);
        others = λ y c q d. cell_other f _ points is i v z y c q d;
      }

      pub other_row : (r : ℕ) (new is : List ℕ) → s ≤ x → r ≡ skip h (x - s) → RackPowers f l h w first r l.size new → Run (sampled new run) points is (i * v) v →
          PointRow f l h first helpers v run i points is
      unfolding sampled
      other_row r new is k er p z = record {
        here = λ c q.
            sym (cell_is f v is i c) ∙ ap elem (z.done c q)
            ∙ point_other l a h (first + c * run) x s r (elem (get_or new (c * run) 0)) k es er (p.at (c * run) (within c q)) ∙ at_group (first + c * run);
        others = λ y c q d. cell_other f _ points is i v z y c q d;
      }
        where
          within : (c : ℕ) → c < v → c * run < w
          within c q = let e = row_before c v run q in let t = g.width in let o = g.run_low in omega arith

  pub points_none : (l : Layout) (h first : ℕ) (helpers : List ℕ) (v run : ℕ) (points : List ℕ) → PointsTo f l h first helpers v run 0 points
  points_none l h first helpers v run points = record { at = λ i c q. absurd (not-suc-le-zero q) }

  pub points_more : (l : Layout) (h first : ℕ) (helpers : List ℕ) (v run i : ℕ) (was is : List ℕ) → PointsTo f l h first helpers v run i was → PointRow f l h first helpers v run i was is →
      PointsTo f l h first helpers v run (i + 1) is
  points_more l h first helpers v run i was is g r = record { at = λ x c q k. go x c q k (ℕ_discrete x i) }
    where
      go : (x c : ℕ) → x < i + 1 → c < v → Dec (x ≡ i) → cell f v is x c ≡ unknown_point f l h (first + c * run) helpers x
      go x c q k (yes e) = subst (λ n. cell f v is n c ≡ unknown_point f l h (first + c * run) helpers n) (sym e) (r.here c k)
      go x c q k (no d) = r.others x c k d ∙ g.at x c (omega arith) k

  pub points_end : (l : Layout) (h first : ℕ) (helpers : List ℕ) (v run i n : ℕ) (points : List ℕ) → PointsTo f l h first helpers v run i points → i ≤ n → n ≤ i → n ≡ parity_racks l →
      PointsTo f l h first helpers v run (parity_racks l) points
  points_end l h first helpers v run i n points g a b c = let q : i ≡ parity_racks l = omega arith in subst (λ y. PointsTo f l h first helpers v run y points) q g

  -- no more columns than groups
  pub columns_in : (l : Layout) (h w first : ℕ) (helpers : List ℕ) (v run : ℕ) → Cycle f l h w first helpers v run → v ≤ w
  columns_in l h w first helpers v run g = let e = g.width in let m = le-mul_of_pos_right v g.run_low in omega arith

  module _ (l : Layout) (h w first : ℕ) (helpers : List ℕ) (g : Chosen l h helpers) (b : Groups l w first) where
    -- a column for each group
    pub single : (Cycle f) l h w first helpers w 1
    single = record {
      columns_low = width_pos l w first b;
      run_low = omega arith;
      width = sym (mul-one w);
      alike = λ i j hi hj. ap (λ n. unknown_point f l h (first + n) helpers i) (mul-one (j / 1 % w) ∙ ap (λ n. n % w) (div-one j) ∙ mod-eq_of_lt hj);
    }

    -- one column for all, where every other rack helps: then each unknown is the host's
    module _ (e : l.helpers + 1 ≡ l.racks) where
      own : (i : ℕ) → i < parity_racks l → i < digits l
      own i k = let t = total_plain l g.adm g.plain in omega arith

      place : (i : ℕ) → i < parity_racks l → free (helper_place (digits l) h (helper_at helpers)) l.helpers i < digits l
      unfolding helper_place
      place i k = rw (free_low (λ n. digits l + unskip h (helper_at helpers n)) l.helpers i (λ n q. let t = own i k in omega arith)) (own i k)

      alike : (i p q : ℕ) → i < parity_racks l → unknown_point f l h p helpers i ≡ unknown_point f l h q helpers i
      unfolding unknown_point
      alike i p q k = host_point l g.adm h p _ (place i k) ∙ sym (host_point l g.adm h q _ (place i k))

      pub one_column : (Cycle f) l h w first helpers 1 w
      one_column = record {
        columns_low = omega arith;
        run_low = width_pos l w first b;
        width = omega arith;
        alike = λ i j hi hj. alike i (first + j / w % 1 * w) (first + j) hi;
      }

  pub pointed_of : (l : Layout) (h w first : ℕ) (helpers : List ℕ) (v run : ℕ) (sides found points coefs row : List ℕ) → Chosen l h helpers → Groups l w first →
      Cycle f l h w first helpers v run →
      Workspace l w sides found points coefs row → Pointed l h w first helpers v run points row
  pointed_of l h w first helpers v run sides found points coefs row ch b g k = record {
    chosen = ch;
    block = b;
    run_low = g.run_low;
    width = g.width;
    points_long = le_trans (mul-le-mul (le_refl (parity_racks l)) (columns_in l h w first helpers v run g)) k.points_long;
    row_long = k.row_long;
  }

-- ---- places
module _ (l : Layout) (h w first : ℕ) (helpers : List ℕ) (v run : ℕ) (points row : List ℕ) (g : Pointed l h w first helpers v run points row) where
  pub pointed_layout : Cabinet l
  pointed_layout = g.chosen.adm

  module _ (i : ℕ) (hi : i < parity_racks l) where
    module _ (x s : ℕ) (es : s ≡ digits l) (ex : x ≡ free (helper_place s h (helper_at helpers)) (length helpers) i) where
      below : x < digits l + (l.racks - 1)
      below = unknown_below l h helpers x s (length helpers) i pointed_layout g.chosen.plain ex g.chosen.many hi

      pub other_high : s ≤ x → x - s ≤ 2 * tray_limit
      other_high k = let b = bounds l pointed_layout in omega (arith, below)

      module _ (r : ℕ) (k : s ≤ x) (er : r ≡ skip h (x - s)) where
        pub other_rack : r < l.racks
        other_rack = other_in l pointed_layout h x s r es k below er

        pub other_not : ¬ (r ≡ h)
        other_not e = skip_other h (x - s) (sym er ∙ e)

      pub host_digit_lem : x < s → x < digits l
      host_digit_lem k = rw (sym es) k
