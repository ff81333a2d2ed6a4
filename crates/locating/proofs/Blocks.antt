-- The residues of all groups, block after block, and whether they point to a helper.
-- Assumes nothing.
use mathlib.Core.Path.{◌≡◌, sym, ap, ◌∙◌, subst}
use mathlib.Core.List.{List}
use Prim.Native.Nat.{ℕ, ◌+◌, ◌-◌, ◌*◌, ◌<◌, ◌≤◌}
use native.Mathlib.Nat.{zero-mul, one-mul, mul-le-mul_right}
use native.Mathlib.Decide.{dec_lt}
use native.Mathlib.Omega.{arith}
use mir.Val.{Fits}
use mir.Syntax.{w32}
use lib.ListN.{length, get_or, replicate, length-replicate}
use Rattle.algebra.specs.Shape.{Field}
use Rattle.algebra.specs.Plain.{Working}
use Rattle.kernel.specs.Inner.{Run, copied}
use Rattle.kernel.proofs.Rows.{cell_is, row_end}
use Rattle.layout.specs.declared.Layout.{Layout}
use Rattle.layout.specs.Layout.{layers, groups, parity_racks, tray_limit, layer_limit, Cabinet}
use Rattle.layout.proofs.Facts.{bounds}
use Rattle.layout.proofs.Numbers.{whole_low, parity_low}
use Rattle.blocks.specs.Inner.{block_limit, room_limit, Block, Allowed}
use Rattle.blocks.proofs.Room.{room_of, row_of, room_long, row_long}
use Rattle.sums.specs.Inner.{Chosen, RackPowers}
use Rattle.pieces.proofs.Blocks.{groups_under, groups_of}
use Rattle.locating.specs.Inner.{point_of, residue_of, BlockRoom, PartsTo, Kept, Rooms, Sent, PointsAt, RowAgrees}
use Rattle.locating.proofs.Parts.{row_points, parts_residue}

-- ---- room
pub rooms : Rooms (replicate layer_limit 0) (replicate layer_limit 0) room_of room_of row_of row_of row_of
rooms = record { zeroth_long = wide; first_long = wide; sides_long = all; points_long = all; cur_long = row; prod_long = row; row_long = row }
  where
    wide : layer_limit ≤ length (replicate {A = ℕ} layer_limit 0)
    wide = rw (length-replicate {A = ℕ} layer_limit 0) (omega arith)

    all : room_limit ≤ length room_of
    all = rw room_long (omega arith)

    row : block_limit ≤ length row_of
    row = rw row_long (omega arith)

pub groups_in : (l : Layout) (room room' : List ℕ) → Cabinet l → layer_limit ≤ length room → length room' ≡ length room → groups l ≤ length room'
groups_in l room room' a q e = omega (arith, (bounds l a).groups_high)

-- ---- all blocks
pub rows_few : (l : Layout) (n : ℕ) → Cabinet l → n ≡ parity_racks l → n + 1 ≤ tray_limit
rows_few l n a e = let b = bounds l a in omega (arith, whole_low l a)

pub rows_fit : (l : Layout) (n : ℕ) → Cabinet l → n ≡ parity_racks l → Fits w32 (n + 1)
rows_fit l n a e = record { fits = omega (arith, rows_few l n a e) }

pub within_layers : (l : Layout) (p n : ℕ) → n ≡ groups l → p ≤ n → p + (n - p) ≤ layers l
within_layers l p n e q = omega (arith, groups_under l)

module _ (l : Layout) (h : ℕ) (helpers shares zeroth first sides points cur prod row : List ℕ) (g : Sent l h helpers shares) (r : Rooms zeroth first sides points cur prod row) where
  pub working_of : (p w n total : ℕ) (sides' points' cur' prod' row' : List ℕ) → n ≡ parity_racks l → total ≡ groups l → p < total → Block l w p → Allowed p (total - p) (n + 1) w →
      length sides' ≡ length sides → length points' ≡ length points → length cur' ≡ length cur → length prod' ≡ length prod → length row' ≡ length row →
      BlockRoom l h w p helpers shares sides' points' cur' prod' row'
  working_of p w n total sides' points' cur' prod' row' en et q b a es ep ec ed er =
      let one : 1 ≤ parity_racks l = parity_low l g.chosen.adm in
      let rows : 2 ≤ n + 1 = omega arith in
      let two : 2 * w ≤ (n + 1) * w = mul-le-mul_right w rows in
      let all : (n + 1) * w ≡ n * w + w = row_end n w in
      let same : n * w ≡ parity_racks l * w = ap (λ y. y * w) en in
      let t = a.fits in
      let s = a.small in
      record {
        chosen = g.chosen;
        block = groups_of l p (total - p) (n + 1) w (omega arith) b a;
        shares_long = g.shares_long;
        sides_long = omega (arith, r.sides_long);
        points_long = omega (arith, r.points_long);
        cur_long = omega (arith, r.cur_long);
        prod_long = omega (arith, r.prod_long);
        row_long = omega (arith, r.row_long);
      }

pub block_in : (l : Layout) (p w n total : ℕ) (room room' : List ℕ) → Cabinet l → total ≡ groups l → p < total → Allowed p (total - p) n w →
    layer_limit ≤ length room → length room' ≡ length room → p + w ≤ length room'
block_in l p w n total room room' adm et q a long e = let t = a.within in omega (arith, (bounds l adm).groups_high)

module _ {A : Type 0} {f : Field A} (W : Working f) where
  open f use {ops}
  open f.coding use {elem}

  -- ---- the residues of a block
  module _ (l : Layout) (h : ℕ) (helpers shares : List ℕ) where
    -- the run of residues t that was copied to the place at
    run_at : (at w t from : ℕ) (sides was is : List ℕ) → from ≡ t * w → t < 2 → PartsTo f l h w at helpers shares l.helpers sides → Run (copied sides from) was is at w →
        (p : ℕ) → at ≤ p → p < at + w → elem (get_or is p 0) ≡ residue_of f l h helpers shares p t
    unfolding copied
    run_at at w t from sides was is ef ht s r p low high =
        let j = p - at in
        let hj : j < w = omega arith in
        let here : at + j ≡ p = omega arith in
        ap (λ n. elem (get_or is n 0)) (sym here)
        ∙ ap elem (r.done j hj)
        ∙ ap (λ n. elem (get_or sides (n + j) 0)) ef
        ∙ cell_is f w sides t j
        ∙ s.at t j ht hj
        ∙ parts_residue W l h (at + j) t helpers shares
        ∙ ap (λ n. residue_of f l h helpers shares n t) here

    pub kept_more : (at w : ℕ) (sides zeroth first zeroth' first' : List ℕ) → Kept f l h helpers shares at zeroth first → PartsTo f l h w at helpers shares l.helpers sides →
        Run (copied sides 0) zeroth zeroth' at w → Run (copied sides w) first first' at w → Kept f l h helpers shares (at + w) zeroth' first'
    kept_more at w sides zeroth first zeroth' first' k s a b = record {
      zeroth_at = λ p q. go_zeroth p q (dec_lt p at);
      first_at = λ p q. go_first p q (dec_lt p at);
    }
      where
        go_zeroth : (p : ℕ) → p < at + w → Dec (p < at) → elem (get_or zeroth' p 0) ≡ residue_of f l h helpers shares p 0
        go_zeroth p q (yes c) = ap elem (a.low p c) ∙ k.zeroth_at p c
        go_zeroth p q (no c) = run_at at w 0 0 sides zeroth zeroth' (sym (zero-mul w)) (omega arith) s a p (omega arith) q

        go_first : (p : ℕ) → p < at + w → Dec (p < at) → elem (get_or first' p 0) ≡ residue_of f l h helpers shares p 1
        go_first p q (yes c) = ap elem (b.low p c) ∙ k.first_at p c
        go_first p q (no c) = run_at at w 1 w sides first first' (sym (one-mul w)) (omega arith) s b p (omega arith) q

    pub kept_end : (p n : ℕ) (zeroth first : List ℕ) → Kept f l h helpers shares p zeroth first → p ≤ n → n ≤ p → n ≡ groups l → Kept f l h helpers shares (groups l) zeroth first
    kept_end p n zeroth first k a b c = let e : p ≡ groups l = omega arith in subst (λ y. Kept f l h helpers shares y zeroth first) e k

  -- ---- whether the residues point to a helper
  module _ (l : Layout) (h : ℕ) (helpers zeroth first : List ℕ) (k : ℕ) where
    module _ (ch : Chosen l h helpers) (inside : k < l.helpers) (p w : ℕ) (row : List ℕ) (r : RackPowers f l h w p (get_or helpers k 0) l.size row) where
      pub located_more : RowAgrees f zeroth first p w row → PointsAt f l h helpers zeroth first k p → PointsAt f l h helpers zeroth first k (p + w)
      located_more a g n q = go (dec_lt n p)
        where
          go : Dec (n < p) → elem (get_or first n 0) ≡ ops.mul (point_of f l h helpers n k) (elem (get_or zeroth n 0))
          go (yes c) = g n c
          go (no c) =
              let j = n - p in
              let hj : j < w = omega arith in
              let here : p + j ≡ n = omega arith in
              subst (λ y. elem (get_or first y 0) ≡ ops.mul (point_of f l h helpers y k) (elem (get_or zeroth y 0))) here
              (a j hj ∙ ap (λ y. ops.mul y (elem (get_or zeroth (p + j) 0))) (row_points W l h w p k helpers row ch inside r j hj))

      pub located_not : p + w ≤ groups l → ¬ (RowAgrees f zeroth first p w row) → ¬ (PointsAt f l h helpers zeroth first k (groups l))
      located_not q n g = n (λ j hj. g (p + j) (omega arith) ∙ ap (λ y. ops.mul y (elem (get_or zeroth (p + j) 0))) (sym (row_points W l h w p k helpers row ch inside r j hj)))
