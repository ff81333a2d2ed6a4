-- What a piece looks at, in all codewords: the tests of the whole buffers hold where those of each part do.
-- Assumes nothing.
use mathlib.Core.Path.{◌≡◌, refl, sym, ap, ap₂, ◌∙◌, subst}
use mathlib.Core.Bool.{Bool, true, false, cond, not, ◌&&◌, false≢true}
use mathlib.Core.List.{List, [], ◌∷◌}
use Prim.Native.Nat.{ℕ, ◌+◌, ◌-◌, ◌*◌, ◌/◌, ◌%◌, ◌^◌, ◌<◌, ◌≤◌, min}
use native.Mathlib.Nat.{one-mul, add-mul, mul_assoc, mul_comm, mul-pos, mul-le-mul_right, mod-lt, pow-le-pow_right, le_of_lt, le_trans}
use native.Mathlib.Nat.{div-add-mod', div-div-eq-div-mul, div-lt_iff_lt-mul, le-div_iff_mul-le, div-le_self}
use native.Mathlib.Omega.{arith}
use lib.Arith.{digits_div}
use lib.ListN.{length, get_or}
use Rattle.lists.specs.Lists.{all, absent}
use Rattle.lists.proofs.Bools.{both, and_true, told_false, told_true, not_true_false, all_true, all_holds, all_same, all_false}
use Rattle.lists.proofs.Numbers.{cell_in}
use Rattle.algebra.specs.Shape.{Field}
use Rattle.layout.specs.declared.Layout.{Layout}
use Rattle.layout.specs.Layout.{digits, layers, groups}
use Rattle.kernel.proofs.Rows.{row_before}
use Rattle.layout.proofs.Facts.{bounds, rack_in}
use Rattle.layout.proofs.Numbers.{whole_low}
use Rattle.range.specs.Range.{symbol_rows}
use Rattle.range.proofs.Symbols.{symbols_true, rows_true, rows_all}
use Rattle.seen.specs.Seen.{sound_symbols, piece_symbols}
use Rattle.seen.specs.Inner.{block_layer, group_symbols, tray_symbols, Places}
use Rattle.seen.specs.Inner as seen
use Rattle.seen.proofs.Groups.{same_test, groups_all, groups_true}
use Rattle.seen.proofs.Trays.{places_told, tray_sound}
use Rattle.seen.proofs.Piece.{piece_left}
use Rattle.batch_parts.specs.Parts.{part}
use Rattle.batch_parts.proofs.Parts.{part_long, part_at}
use Rattle.batch_share.proofs.Batches.{place_is, run_place}
use Rattle.batch_repair.specs.RepairBatch.{batch_symbols}
use Rattle.batch_repair.specs.Inner.{Wide, Looking, host_seen}

-- a layer of a group, in runs of many
scaled : (s unit p a m q : ℕ) → 0 < unit → q < m → block_layer s (unit * m) (p * m + q) a ≡ block_layer s unit p a * m + q
unfolding block_layer
scaled s unit p a m q pos hq =
    ap₂ (λ n r. (n * s + a) * (unit * m) + r) quotient rest ∙ sym (run_place (p / unit * s + a) unit (p % unit) m q)
  where
    quotient : (p * m + q) / (unit * m) ≡ p / unit
    quotient = ap (λ (n : ℕ). (p * m + q) / n) (mul_comm unit m) ∙ sym (div-div-eq-div-mul (p * m + q) m unit) ∙ ap (λ (n : ℕ). n / unit) (digits_div p hq)

    rest : (p * m + q) % (unit * m) ≡ p % unit * m + q
    rest =
        let a : (p * m + q) / (unit * m) * (unit * m) + (p * m + q) % (unit * m) ≡ p * m + q = div-add-mod' (p * m + q) (unit * m) in
        let b : (p * m + q) / (unit * m) * (unit * m) ≡ p / unit * (unit * m) = ap (λ (n : ℕ). n * (unit * m)) quotient in
        let c : p / unit * (unit * m) + (p % unit * m + q) ≡ p * m + q =
        sym (run_place (p / unit) unit (p % unit) m q) ∙ ap (λ (n : ℕ). n * m + q) (div-add-mod' p unit) in
        omega arith

module _ {A : Type 0} (f : Field A) (many : ℕ) (some : 0 < many) where
  open f.coding use {size}

  -- ---- rows of the shares
  module _ (xs : List ℕ) (rows width : ℕ) (long : length xs ≡ rows * width * many) (first count : ℕ) (within : first + count ≤ width) where
    place : (r k q : ℕ) → (r * width + first + k) * many + q ≡ r * (width * many) + first * many + (k * many + q)
    place r k q =
        place_is (r * width + first + k) many q (r * width + first) k refl
        ∙ ap (λ (y : ℕ). y + (k * many + q)) (add-mul (r * width) first many ∙ ap (λ (y : ℕ). y + first * many) (mul_assoc r width many))

    inside : (r k : ℕ) → r < rows → k < count → r * width + first + k < rows * width
    inside r k hr hk = let e : r * width + (first + k) < rows * width = cell_in rows width r (first + k) hr (omega arith) in omega arith

    pub rows_parts : symbol_rows f xs rows (width * many) (first * many) (count * many) ≡ true → (q : ℕ) → q < many → symbol_rows f (part many q xs) rows width first count ≡ true
    rows_parts t q hq = sym (rows_true f (part many q xs) rows width first count rows (omega arith) (λ r hr. sym (symbols_true f (part many q xs) (r * width + first) count (λ k hk.
        subst (λ n. n < size) (sym (part_at many q hq xs (rows * width) long (r * width + first + k) (inside r k hr hk) ∙ ap (λ (n : ℕ). get_or xs n 0) (place r k q)))
        (rows_all f xs rows (width * many) (first * many) (count * many) t r (k * many + q) hr (cell_in count many k q hk hq))))))

    pub parts_rows : ((q : ℕ) → q < many → symbol_rows f (part many q xs) rows width first count ≡ true) → symbol_rows f xs rows (width * many) (first * many) (count * many) ≡ true
    parts_rows t = sym (rows_true f xs rows (width * many) (first * many) (count * many) rows (omega arith) (λ r hr. sym (symbols_true f xs (r * (width * many) + first * many) (count * many) (λ n hn.
        let k = n / many in
        let q = n % many in
        let hq : q < many = mod-lt n some in
        let hk : k < count = (div-lt_iff_lt-mul some).1 hn in
        subst (λ y. get_or xs (r * (width * many) + first * many + y) 0 < size) (div-add-mod' n many)
        (subst (λ y. y < size) (part_at many q hq xs (rows * width) long (r * width + first + k) (inside r k hr hk) ∙ ap (λ (y : ℕ). get_or xs y 0) (place r k q))
        (rows_all f (part many q xs) rows width first count (t q hq) r k hr hk))))))

  -- ---- groups of a tray
  module _ (host : List ℕ) (n : ℕ) (long : length host ≡ n * many) (at s unit first count : ℕ)
      (places : (q : ℕ) → q < many → Places (part many q host) at s unit (first + count)) where
    spot : (p a q : ℕ) → q < many → at * many + block_layer s (unit * many) (p * many + q) a ≡ (at + block_layer s unit p a) * many + q
    spot p a q hq =
        ap (λ (y : ℕ). at * many + y) (scaled s unit p a many q (places 0 some).unit_pos hq)
        ∙ omega (arith, add-mul at (block_layer s unit p a) many)

    there : (p a q : ℕ) (hq : q < many) → p < first + count → a < s → get_or (part many q host) (at + block_layer s unit p a) 0 ≡ get_or host (at * many + block_layer s (unit * many) (p * many + q) a) 0
    there p a q hq hp ha =
        part_at many q hq host n long (at + block_layer s unit p a) (omega (arith, (places q hq).inside p a hp ha, part_long many q hq host n long))
        ∙ ap (λ (y : ℕ). get_or host y 0) (sym (spot p a q hq))

    groups_parts : group_symbols f host (at * many) s (unit * many) (first * many) (count * many) ≡ true → (q : ℕ) → q < many → group_symbols f (part many q host) at s unit first count ≡ true
    groups_parts t q hq = groups_true f (part many q host) at s unit first count (λ p a low high ha.
        subst (λ y. y < size) (sym (there p a q hq high ha))
        (groups_all f host (at * many) s (unit * many) (first * many) (count * many) t (p * many + q) a
        (omega (arith, mul-le-mul_right many low))
        (omega (arith, cell_in (first + count) many p q high hq, add-mul first count many)) ha))

    parts_groups : ((q : ℕ) → q < many → group_symbols f (part many q host) at s unit first count ≡ true) → group_symbols f host (at * many) s (unit * many) (first * many) (count * many) ≡ true
    parts_groups t = groups_true f host (at * many) s (unit * many) (first * many) (count * many) (λ n a low high ha.
        let p = n / many in
        let q = n % many in
        let hq : q < many = mod-lt n some in
        let hp : p < first + count = (div-lt_iff_lt-mul some).1 (omega (arith, add-mul first count many)) in
        let lp : first ≤ p = (le-div_iff_mul-le some).1 low in
        subst (λ y. get_or host (at * many + block_layer s (unit * many) y a) 0 < size) (div-add-mod' n many)
        (subst (λ y. y < size) (there p a q hq hp ha) (groups_all f (part many q host) at s unit first count (t q hq) p a lp hp ha)))

    -- the whole buffer's places
    pub places_wide : Places host (at * many) s (unit * many) (first * many + count * many)
    places_wide = record {
      unit_pos = mul-pos (places 0 some).unit_pos some;
      digits_pos = (places 0 some).digits_pos;
      inside = λ y a hy ha.
          let hp : y / many < first + count = (div-lt_iff_lt-mul some).1 (omega (arith, add-mul first count many)) in
          let hq : y % many < many = mod-lt y some in
          subst (λ z. at * many + block_layer s (unit * many) z a < length host) (div-add-mod' y many)
          (rw (spot (y / many) a (y % many) hq, long) (cell_in n many (at + block_layer s unit (y / many) a) (y % many)
          (omega (arith, (places (y % many) hq).inside (y / many) a hp ha, part_long many (y % many) hq host n long)) hq));
      long =
          let b : at + (first + count) * s ≤ n = omega (arith, (places 0 some).long, part_long many 0 some host n long) in
          let e : (first * many + count * many) * s ≡ (first + count) * s * many =
          ap (λ (y : ℕ). y * s) (sym (add-mul first count many)) ∙ mul_assoc (first + count) many s ∙ ap (λ (y : ℕ). (first + count) * y) (mul_comm many s)
          ∙ sym (mul_assoc (first + count) s many) in
          omega (arith, mul-le-mul_right many b, add-mul at ((first + count) * s) many, e, long);
    }

    pub tray_parts : (lost : List ℕ) (tray : ℕ) →
        tray_symbols f lost tray host (at * many) s (unit * many) (first * many) (count * many) ≡ all (λ q. tray_symbols f lost tray (part many q host) at s unit first count) many
    unfolding tray_symbols
    tray_parts lost tray = go (absent lost tray)
      where
        go : (b : Bool) → cond b (group_symbols f host (at * many) s (unit * many) (first * many) (count * many)) true
            ≡ all (λ q. cond b (group_symbols f (part many q host) at s unit first count) true) many
        go true = same_test _ _ (λ t. all_true _ many (λ q hq. groups_parts t q hq)) (λ t. parts_groups (λ q hq. all_holds (λ q. group_symbols f (part many q host) at s unit first count) many t q hq))
        go false = sym (all_true _ many (λ q hq. refl))

-- ---- the host racks
module _ {A : Type 0} (f : Field A) (l : Layout) (many x : ℕ) (host : List ℕ) (first count : ℕ) (t : Looking l many x host first count) where
  abbrev h : ℕ
  h = x / l.size

  pub host_in : x / l.size < l.racks
  host_in = rack_in l t.adm x t.lost_in

  part_looking : (q : ℕ) → q < many → seen.Looking l h (part many q host) first count
  part_looking q hq = record {
    adm = t.adm;
    host_in = host_in;
    host_long = part_long many q hq host (l.size * layers l) t.host_long;
    within = t.within;
  }

  -- what the test of a tray answers
  pub tray_is : (g total s unit at wide : ℕ) (r : Bool) → g < l.size → total ≡ layers l → s ≡ digits l → unit ≡ digits l ^ (x / l.size) → at ≡ g * (total * many) → wide ≡ unit * many →
      r ≡ tray_symbols f (x ∷ []) (x / l.size * l.size + g) host at s wide (first * many) (count * many) →
      r ≡ all (λ q. sound_symbols f l (x ∷ []) (x / l.size) (part many q host) first count g) many
  tray_is g total s unit at wide r hg et es eu ea ew e =
      e
      ∙ ap₂ (λ a w. tray_symbols f (x ∷ []) (x / l.size * l.size + g) host a s w (first * many) (count * many)) (ea ∙ sym (mul_assoc g total many)) ew
      ∙ tray_parts f many t.some host (l.size * layers l) t.host_long (g * total) s unit first count
      (λ q hq. places_told l h (part many q host) first count (part_looking q hq) g total s unit et es eu hg) (x ∷ []) (x / l.size * l.size + g)
      ∙ same
    where
      same : all (λ q. tray_symbols f (x ∷ []) (x / l.size * l.size + g) (part many q host) (g * total) s unit first count) many
          ≡ all (λ q. sound_symbols f l (x ∷ []) (x / l.size) (part many q host) first count g) many
      same = all_same _ _ many (λ q hq. tray_sound f l (x ∷ []) h (part many q host) first count (part_looking q hq) g total s unit _ et es eu refl)

  -- where the trays lie
  pub places_so : (g total s unit at wide : ℕ) → g < l.size → total ≡ layers l → s ≡ digits l → unit ≡ digits l ^ (x / l.size) → at ≡ g * (total * many) → wide ≡ unit * many →
      Places host at s wide (first * many + count * many)
  places_so g total s unit at wide hg et es eu ea ew =
      rw (ea ∙ sym (mul_assoc g total many), ew) (places_wide f many t.some host (l.size * layers l) t.host_long (g * total) s unit first count
      (λ q hq. places_told l h (part many q host) first count (part_looking q hq) g total s unit et es eu hg))

  -- products that are numbers
  pub total_in : (n : ℕ) → n ≤ layers l → n * many ≤ length host
  total_in n e =
      let b : layers l ≤ l.size * layers l = omega (arith, row_before 0 l.size (layers l) (bounds l t.adm).size_low) in
      rw t.host_long (mul-le-mul_right many (le_trans e b))

  pub unit_below : (n : ℕ) → n ≡ digits l ^ (x / l.size) → n ≤ layers l
  unit_below n e = rw e (pow-le-pow_right (bounds l t.adm).digits_low (le_of_lt host_in))

  pub groups_below : (n : ℕ) → n ≤ first + count → n ≤ layers l
  groups_below n e = omega (arith, t.within, div-le_self (layers l) (digits l))

  pub start_in : (g total : ℕ) → g < l.size → total ≡ layers l → g * (total * many) ≤ length host
  start_in g total hg et =
      let b : g * layers l ≤ l.size * layers l = mul-le-mul_right (layers l) (le_of_lt hg) in
      rw (ap (λ (y : ℕ). g * (y * many)) et ∙ sym (mul_assoc g (layers l) many), t.host_long) (mul-le-mul_right many b)

  pub hosts_false : (g : ℕ) (r : Bool) → g < l.size → r ≡ all (λ q. sound_symbols f l (x ∷ []) (x / l.size) (part many q host) first count g) many → r ≡ false →
      false ≡ host_seen f l many x host first count
  unfolding host_seen
  hosts_false g r hg e n = all_false _ l.size g hg (λ z. false≢true (sym n ∙ e ∙ z))

  pub hosts_true : (g : ℕ) → l.size ≤ g → ((i : ℕ) → i < g → all (λ q. sound_symbols f l (x ∷ []) (x / l.size) (part many q host) first count i) many ≡ true) →
      true ≡ host_seen f l many x host first count
  unfolding host_seen
  hosts_true g hg s = sym (all_true _ l.size (λ i hi. s i (omega arith)))

-- ---- all that is looked at
module _ {A : Type 0} (f : Field A) (l : Layout) (many x : ℕ) (shares host : List ℕ) (first budget : ℕ) where
  abbrev left : ℕ
  left = min budget (groups l - first)

  -- one codeword's test
  piece_both : (ys zs : List ℕ) → piece_symbols f l (x ∷ []) ys zs first budget ≡
      (symbol_rows f ys l.helpers (groups l) first left && all (sound_symbols f l (x ∷ []) (x / l.size) zs first left) l.size)
  unfolding piece_symbols
  piece_both ys zs = ap (λ d. symbol_rows f ys d (groups l) first left && all (sound_symbols f l (x ∷ []) (x / l.size) zs first left) l.size) (one-mul l.helpers)

  pub batch_none : many ≡ 0 → true ≡ batch_symbols f l many x shares host first budget
  unfolding batch_symbols
  batch_none e = sym (all_true _ many (λ q hq. absurd (omega arith)))

  pub batch_left : (total : ℕ) → total ≡ groups l → total ≤ first → true ≡ batch_symbols f l many x shares host first budget
  unfolding batch_symbols
  batch_left total et k = sym (all_true _ many (λ q hq. sym (piece_left f l (x ∷ []) (part many q shares) (part many q host) first budget total et k)))

  -- products that are numbers
  pub shares_in : Wide l many x shares host → (n : ℕ) → n ≤ groups l → n * many ≤ length shares
  shares_in w n e =
      let b : groups l ≤ l.helpers * groups l = omega (arith, row_before 0 l.helpers (groups l) (omega (arith, w.adm.helpers_low, whole_low l w.adm))) in
      rw w.shares_long (mul-le-mul_right many (le_trans e b))

  pub rows_room : (total count : ℕ) → first + count ≤ total → first * many + count * many ≤ total * many
  rows_room total count h = rw (sym (add-mul first count many)) (mul-le-mul_right many h)

  pub rows_long : Wide l many x shares host → (total : ℕ) → total ≡ groups l → length shares ≡ l.helpers * (total * many)
  rows_long w total e = w.shares_long ∙ mul_assoc l.helpers (groups l) many ∙ ap (λ (y : ℕ). l.helpers * (y * many)) (sym e)

  pub batch_looking : (total count : ℕ) → Wide l many x shares host → ¬ (many ≡ 0) → total ≡ groups l → count ≡ min budget (total - first) → first < total → Looking l many x host first count
  batch_looking total count w some et ec low = record { adm = w.adm; some = omega arith; lost_in = w.lost_in; host_long = w.host_long; within = omega arith }

  module _ (w : Wide l many x shares host) (some : ¬ (many ≡ 0)) (total count : ℕ) (et : total ≡ groups l) (ec : count ≡ min budget (total - first)) (low : first < total)
      (b : Bool) (eb : b ≡ symbol_rows f shares l.helpers (total * many) (first * many) (count * many)) where
    positive : 0 < many
    positive = omega arith

    count_is : count ≡ min budget (groups l - first)
    count_is = ec ∙ ap (λ (y : ℕ). min budget (y - first)) et

    within : first + count ≤ groups l
    within = omega arith

    rows_are : b ≡ symbol_rows f shares l.helpers (groups l * many) (first * many) (count * many)
    rows_are = eb ∙ ap (λ (y : ℕ). symbol_rows f shares l.helpers (y * many) (first * many) (count * many)) et

    each : batch_symbols f l many x shares host first budget ≡ true → (q : ℕ) → q < many →
        (symbol_rows f (part many q shares) l.helpers (groups l) first count && all (sound_symbols f l (x ∷ []) (x / l.size) (part many q host) first count) l.size) ≡ true
    unfolding batch_symbols
    each t q hq =
        ap (λ n. symbol_rows f (part many q shares) l.helpers (groups l) first n && all (sound_symbols f l (x ∷ []) (x / l.size) (part many q host) first n) l.size) count_is
        ∙ sym (piece_both (part many q shares) (part many q host))
        ∙ all_holds (λ q. piece_symbols f l (x ∷ []) (part many q shares) (part many q host) first budget) many t q hq

    pub batch_false : not b ≡ true → false ≡ batch_symbols f l many x shares host first budget
    batch_false n = not_true_false _ (λ t. false≢true (sym (told_false rows_are n) ∙
        parts_rows f many positive shares l.helpers (groups l) w.shares_long first count within
        (λ q hq. (both _ (all (sound_symbols f l (x ∷ []) (x / l.size) (part many q host) first count) l.size) (each t q hq)).0)))

    pub batch_told : not b ≡ false → (r : Bool) → r ≡ host_seen f l many x host first count → r ≡ batch_symbols f l many x shares host first budget
    unfolding host_seen batch_symbols
    batch_told n r er = er ∙ same_test _ _
        (λ t. all_true _ many (λ q hq.
        piece_both (part many q shares) (part many q host)
        ∙ ap (λ n. symbol_rows f (part many q shares) l.helpers (groups l) first n && all (sound_symbols f l (x ∷ []) (x / l.size) (part many q host) first n) l.size) (sym count_is)
        ∙ and_true _ _ (rows_parts f many positive shares l.helpers (groups l) w.shares_long first count within (told_true rows_are n) q hq)
        (all_true _ l.size (λ g hg. all_holds (λ q. sound_symbols f l (x ∷ []) (x / l.size) (part many q host) first count g) many
        (all_holds (λ g. all (λ q. sound_symbols f l (x ∷ []) (x / l.size) (part many q host) first count g) many) l.size t g hg) q hq))))
        (λ t. all_true _ l.size (λ g hg. all_true _ many (λ q hq.
        all_holds (sound_symbols f l (x ∷ []) (x / l.size) (part many q host) first count) l.size
        (both (symbol_rows f (part many q shares) l.helpers (groups l) first count) _ (each t q hq)).1 g hg)))
