-- The systems by which the right multipliers are found, and their solution.
-- Assumes nothing.
use mathlib.Core.Path.{◌≡◌, refl, sym, ap, ap₂, subst, ◌∙◌}
use mathlib.Core.List.{List}
use Prim.Native.Nat.{ℕ, ◌+◌, ◌-◌, ◌*◌, ◌/◌, ◌%◌, ◌<◌, ◌≤◌}
use native.Mathlib.Nat.{le_trans, mul-le-mul_left, mod-one, mod-lt, mul-one, one-mul, pow-zero, div-le_self, not-suc-le-zero}
use native.Mathlib.Decide.{ℕ_discrete}
use native.Mathlib.Omega.{arith}
use lib.Dec.{leb, leb→le}
use lib.ListN.{length, get_or}
use Rattle.lists.proofs.Computed.{all_below_lem}
use Rattle.lists.proofs.Numbers.{cell_in}
use Rattle.algebra.specs.Sum.{pow}
use Rattle.algebra.specs.Lagrange.{solve}
use Rattle.algebra.specs.Layers.{layer_of}
use Rattle.algebra.specs.Group.{skip, unskip}
use Rattle.algebra.specs.Repair.{helper_place}
use Rattle.algebra.specs.Shape.{Field}
use Rattle.algebra.specs.Plain.{Working}
use Rattle.algebra.proofs.Ring.{mul_one as times-one, zero_add as zero-plus}
use Rattle.algebra.proofs.Lagrange.{solve_congr}
use Rattle.algebra.proofs.Skip.{skip_unskip}
use Rattle.kernel.specs.Inner.{Run, filled, cell}
use Rattle.columns.specs.Inner.{column, Systems, Solved}
use Rattle.layout.specs.declared.Layout.{Layout}
use Rattle.layout.specs.Layout.{trays, digits, layers, parity_racks, tray_limit, Cabinet}
use Rattle.layout.proofs.Facts.{bounds}
use Rattle.layout.proofs.Numbers.{total_plain, digits_small, whole_low}
use Rattle.codeword.specs.Codeword.{point_at}
use Rattle.blocks.specs.Inner.{block_limit, room_limit}
use Rattle.blocks.proofs.Room.{room_of, row_of, room_long, row_long}
use Rattle.syndrome.specs.Inner.{Room, Terms}
use Rattle.sums.specs.Inner.{place_point, unknown_point, Groups, Pointed, PointsTo}
use Rattle.sums.proofs.Steps.{digits_under, unknowns_high}
use Rattle.sums.proofs.Points.{point_other}
use Rattle.card.specs.Inner.{solved_factor, right_multiplier}
use Rattle.multipliers.specs.Inner.{Grouped, Space, Rooms, helper_point, HelperPoints, PowerSides, Multipliers}

-- R·d symbols fit a room: R + d is at most 63
product_high : (a b : ℕ) → a + b ≤ 63 → a * b ≤ 992
product_high a b h =
    le_trans (mul-le-mul_left a (rest a b h))
    (leb→le (a * (63 - a)) 992 (all_below_lem (λ a. leb (a * (63 - a)) 992) 64 tt a (omega arith)))
  where
    rest : (a b : ℕ) → a + b ≤ 63 → b ≤ 63 - a
    rest a b h = omega arith

pub sides_room : (l : Layout) → Cabinet l → l.errors ≡ 0 → parity_racks l * l.helpers ≤ room_limit
sides_room l a e =
    let b = bounds l a in
    let q = product_high (parity_racks l) l.helpers (omega (arith, total_plain l a e, digits_small l a)) in
    omega arith

module _ (l : Layout) (h p : ℕ) (helpers : List ℕ) (g : Grouped l h p helpers) where
  few_helpers : l.helpers ≤ tray_limit
  few_helpers = let b = bounds l g.chosen.adm in omega (arith, g.chosen.adm.helpers_high)

  pub helper_tray : (k : ℕ) → k < length helpers → get_or helpers k 0 * l.size < trays l
  helper_tray k q =
      let a = g.chosen.adm in
      let c = cell_in l.racks l.size (get_or helpers k 0) 0 (g.chosen.inside k (omega (arith, g.chosen.many))) (bounds l a).size_low in
      omega arith

  pub size_under : l.size ≤ tray_limit
  size_under = let b = bounds l g.chosen.adm in omega arith

  -- ---- rooms
  pub block_of : Groups l 1 p
  block_of = record {
    block = record { adm = g.chosen.adm; power = 0; power_in = omega arith; width = sym (pow-zero (digits l)); number = p; first_is = sym (mul-one p); inside = under };
    inside = omega (arith, g.inside);
  }
    where
      under : p + 1 ≤ layers l
      under = omega (arith, g.inside, div-le_self (layers l) (digits l))

  pub pointed_one : (points row : List ℕ) → room_limit ≤ length points → block_limit ≤ length row → Pointed l h 1 p helpers 1 1 points row
  pointed_one points row hp hr = record {
    chosen = g.chosen;
    block = block_of;
    run_low = omega arith;
    width = refl;
    points_long = rw (mul-one (parity_racks l)) (omega (arith, unknowns_high l g.chosen.adm));
    row_long = omega arith;
  }

  module _ (found sides points coefs row cur : List ℕ) (m : Rooms found sides points coefs row cur) where
    pub space_of : (row' : List ℕ) → length row' ≡ length row → Space l sides row' cur
    space_of row' e = record {
      sides_long = le_trans (sides_room l g.chosen.adm g.chosen.plain) m.sides_long;
      row_long = omega (arith, few_helpers, m.row_long);
      cur_long = omega (arith, few_helpers, m.cur_long);
    }

    pub systems_one : (n : ℕ) (sides' row' : List ℕ) → n ≡ parity_racks l → length sides' ≡ length sides → length row' ≡ length row →
        Systems l.helpers 1 l.helpers 1 n found sides' coefs row'
    systems_one n sides' row' en es er = rw en (record {
      run_low = omega (arith, g.chosen.adm.helpers_low, whole_low l g.chosen.adm);
      columns_low = omega arith;
      turns_low = omega arith;
      width = sym (one-mul l.helpers);
      found_long = le_trans (sides_room l g.chosen.adm g.chosen.plain) m.found_long;
      sums_long = rw es (le_trans (sides_room l g.chosen.adm g.chosen.plain) m.sides_long);
      coefs_long = rw (mul-one (parity_racks l)) (omega (arith, unknowns_high l g.chosen.adm, m.coefs_long));
      row_long = omega (arith, few_helpers, m.row_long);
    })

    pub points_room : (n : ℕ) (points' : List ℕ) → n ≡ parity_racks l → length points' ≡ length points → n * 1 ≤ length points'
    points_room n points' en e = rw (mul-one n) (omega (arith, unknowns_high l g.chosen.adm, m.points_long))

  pub points_few : (n : ℕ) → n ≡ parity_racks l → n * 1 ≤ room_limit
  points_few n en = rw (mul-one n) (omega (arith, unknowns_high l g.chosen.adm))

  pub digits_first : (n s : ℕ) → n ≡ parity_racks l → s ≡ digits l → s ≤ n
  digits_first n s en es = omega (arith, digits_under l g.chosen.adm)

module _ (l : Layout) (sides row cur : List ℕ) (g : Space l sides row cur) (n : ℕ) (en : n ≡ parity_racks l) where
  pub room_of_lem : (sides' row' cur' : List ℕ) → length sides' ≡ length sides → length row' ≡ length row → length cur' ≡ length cur → Room l.helpers n sides' cur' row'
  room_of_lem sides' row' cur' es er ec = record { sums_long = rw (en, es) g.sides_long; cur_long = rw ec g.cur_long; row_long = rw er g.row_long }

module _ {A : Type 0} {f : Field A} (W : Working f) (l : Layout) (h p : ℕ) (helpers : List ℕ) where
  open f use {ops}
  open f.coding use {elem, size}
  open W.field use {laws}

  -- ---- the points of the helpers
  pub points_none : (row : List ℕ) → HelperPoints f l h p helpers 0 row
  points_none row = record { at = λ k q. absurd (not-suc-le-zero q) }

  module _ (g : Grouped l h p helpers) where
    point_is : (j k v : ℕ) → j ≡ layer_of (digits l) h p 0 → k < length helpers → elem v ≡ pow ops (point_at f l j (get_or helpers k 0 * l.size)) l.size → elem v ≡ helper_point f l h p helpers k
    unfolding helper_place
    point_is j k v ej hk ev =
        point_other W l g.chosen.adm h p (digits l + unskip h (get_or helpers k 0)) (digits l) (get_or helpers k 0) (elem v) (omega arith) refl
        (sym (ap (skip h) (less (digits l) _) ∙ skip_unskip h (get_or helpers k 0) (g.chosen.other k (omega (arith, g.chosen.many)))))
        (ev ∙ ap (λ n. pow ops (point_at f l n (get_or helpers k 0 * l.size)) l.size) ej)
      where
        less : (s n : ℕ) → s + n - s ≡ n
        less s n = omega arith

    pub points_more : (j k v : ℕ) (was is : List ℕ) → j ≡ layer_of (digits l) h p 0 → k < length helpers → elem v ≡ pow ops (point_at f l j (get_or helpers k 0 * l.size)) l.size →
        Run (filled v) was is k 1 → HelperPoints f l h p helpers k was → HelperPoints f l h p helpers (k + 1) is
    unfolding filled
    points_more j k v was is ej hk ev r q = record { at = λ i hi. go i hi (ℕ_discrete i k) }
      where
        go : (i : ℕ) → i < k + 1 → Dec (i ≡ k) → elem (get_or is i 0) ≡ helper_point f l h p helpers i
        go i hi (yes e) = ap (λ n. elem (get_or is n 0)) (here i e) ∙ ap elem (r.done 0 (omega arith)) ∙ point_is j k v ej hk ev ∙ ap (helper_point f l h p helpers) (sym e)
          where
            here : (i : ℕ) → i ≡ k → i ≡ k + 0
            here i e = omega arith
        go i hi (no d) = ap elem (r.low i (omega arith)) ∙ q.at i (omega arith)

    pub points_end : (k : ℕ) (row : List ℕ) → HelperPoints f l h p helpers k row → k ≤ length helpers → length helpers ≤ k → HelperPoints f l h p helpers l.helpers row
    points_end k row q a b = record { at = λ i hi. q.at i (omega (arith, g.chosen.many)) }

  -- ---- the right sides
  pub sides_of : (n : ℕ) (row cur nil is cur₀ sides₀ : List ℕ) → n ≡ parity_racks l → HelperPoints f l h p helpers l.helpers row → Run (filled 1) cur₀ cur 0 l.helpers →
      Run (filled 0) sides₀ nil 0 (n * l.helpers) → Terms f l.helpers n row cur nil is → PowerSides f l h p helpers is
  unfolding filled cell
  sides_of n row cur nil is cur₀ sides₀ en pts one none t = record {
    at = λ y k hy hk.
        let hn : y < n = rw en hy in
        t.at y k hn hk
        ∙ ap₂ (λ a b. ops.add (elem a) (ops.mul (pow ops (elem (get_or row k 0)) y) (elem b)))
        (ap (λ i. get_or nil i 0) (sym (none_before (y * l.helpers + k))) ∙ none.done (y * l.helpers + k) (cell_in n l.helpers y k hn hk))
        (ap (λ i. get_or cur i 0) (sym (none_before k)) ∙ one.done k hk)
        ∙ ap₂ (λ a b. ops.add a (ops.mul (pow ops (elem (get_or row k 0)) y) b)) W.zero_is W.one_is
        ∙ zero-plus ops laws _ ∙ times-one ops laws _ ∙ ap (λ e. pow ops e y) (pts.at k hk);
  }
    where
      none_before : (n : ℕ) → 0 + n ≡ n
      none_before n = omega arith

  -- ---- what is found is the right multipliers
  pub multipliers_of : Grouped l h p helpers → (n s : ℕ) (sides points found : List ℕ) → n ≡ parity_racks l → s ≡ digits l → PointsTo f l h p helpers 1 1 (parity_racks l) points →
      PowerSides f l h p helpers sides → Solved f l.helpers 1 l.helpers n sides points found s → Multipliers f l h p helpers found
  unfolding right_multiplier solved_factor unknown_point place_point column
  multipliers_of g n s sides points found en es pts sd sol = record {
    at = λ b k hb hk.
        sol.at b k (rw es hb) hk
        ∙ subst (λ m. solve ops (column f 1 points (k / l.helpers % 1)) m (λ t. ops.neg (cell f l.helpers sides t k)) b ≡ right_multiplier f l h helpers p b k) (sym en)
        (solve_congr ops _ _ b (parity_racks l) (omega (arith, digits_under l g.chosen.adm))
        (λ i hi. pts.at i (k / l.helpers % 1) hi (mod-lt (k / l.helpers) (omega arith)) ∙ ap (λ q. unknown_point f l h q helpers i) (here (k / l.helpers)))
        _ _ (λ t ht. ap ops.neg (sd.at t k ht hk)));
    small = λ b k hb hk. sol.small b k (rw es hb) hk;
  }
    where
      here : (n : ℕ) → p + n % 1 * 1 ≡ p
      here n = omega (arith, mod-one n)

-- ---- the arrays to begin with
pub rooms : (found : List ℕ) → room_limit ≤ length found → Rooms found room_of room_of room_of row_of row_of
rooms found h = record { found_long = h; sides_long = all; points_long = all; coefs_long = all; row_long = row; cur_long = row }
  where
    all : room_limit ≤ length room_of
    all = rw room_long (omega arith)

    row : block_limit ≤ length row_of
    row = rw row_long (omega arith)
