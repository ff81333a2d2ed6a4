-- The symbols of whole racks from their sums of all weights.
-- Assumes nothing.
use mathlib.Core.Path.{◌≡◌, refl, sym, ap, ap₂, ◌∙◌, subst}
use mathlib.Core.List.{List}
use Prim.Native.Nat.{ℕ, zero, suc, ◌+◌, ◌-◌, ◌*◌, ◌/◌, ◌%◌, ◌^◌, ◌<◌, ◌≤◌}
use native.Mathlib.Nat.{mul_comm as times_comm, add-mul as plus_mul, mul-pos, mul-le-mul_left, le_trans, div-add-mod', mod-lt, div-lt_iff_lt-mul}
use native.Mathlib.Decide.{ℕ_discrete}
use native.Mathlib.Omega.{arith}
use mir.Val.{Fits}
use mir.Syntax.{w8}
use lib.Arith.{digits_mod}
use lib.ListN.{length, get_or}
use Rattle.algebra.specs.Below.{below}
use Rattle.algebra.specs.Sum.{sum, pow}
use Rattle.algebra.specs.Layers.{digit}
use Rattle.algebra.specs.Lagrange.{Distinct, solve}
use Rattle.algebra.specs.Shape.{Field, Fits as Suits}
use Rattle.algebra.specs.Cabinet.{layer_point}
use Rattle.algebra.specs.Points.{point, tray_point, place, opposite}
use Rattle.algebra.specs.Plain.{Working}
use Rattle.algebra.proofs.Sum.{sum_congr}
use Rattle.algebra.proofs.Pow.{pow_add, pow_mul, one_pow}
use Rattle.algebra.proofs.Racks.{symbols_solved}
use Rattle.algebra.proofs.Points.{point_split, trays_distinct, powers_apart, places_distinct}
use Rattle.symbol.specs.Arithmetic.{◌⊕◌}
use Rattle.symbol.specs.Elem.{gf256, ops as byteOps}
use Rattle.symbol.proofs.Working.{working}
use Rattle.kernel.specs.Inner.{cell, Run, copied}
use Rattle.kernel.proofs.Rows.{row_before, cell_is, cell_other}
use Rattle.weigh.specs.Inner.{weight, weighted_term, Weighed}
use Rattle.layout.specs.declared.Layout.{Layout}
use Rattle.layout.specs.Layout.{Cabinet, digits}
use Rattle.layout.proofs.Facts.{bounds, rack_in}
use Rattle.codeword.specs.Codeword.{shape_of, point_at}
use Rattle.syndrome.specs.Inner.{Listed}
use Rattle.rack_checks.specs.Inner.{Small}
use Rattle.rack_checks.proofs.Numbers.{divides_small}
use Rattle.rack_checks.proofs.Above.{fits_of}
use Rattle.solving.specs.Inner.{FoundBlock}
use Rattle.rack_solving.specs.Inner.{Bytes, WholeRacks, weighted_sum, WeightedSums, lowering, Lowered, RackFound, RacksFound}
use Rattle.rack_solving.proofs.Lists.{first_in, entry_in, rack_of_lem, place_is}

-- ---- opposite places
pub opposite_none : (u m : ℕ) → m ≡ 0 → 0 ≡ opposite u m
unfolding opposite
opposite_none u zero e = refl
opposite_none u (suc m) e = absurd (omega arith)

pub opposite_some : (u m : ℕ) → ¬ (m ≡ 0) → u - m ≡ opposite u m
unfolding opposite
opposite_some u zero d = absurd (d refl)
opposite_some u (suc m) d = refl

opposite_below : (u m : ℕ) → m < u → opposite u m < u
unfolding opposite
opposite_below u zero h = h
opposite_below u (suc m) h = omega arith

opposite_twice : (u m : ℕ) → m < u → opposite u (opposite u m) ≡ m
opposite_twice u m h = go (ℕ_discrete m 0)
  where
    go : Dec (m ≡ 0) → opposite u (opposite u m) ≡ m
    go (yes e) = ap (opposite u) (sym (opposite_none u m e)) ∙ sym (opposite_none u 0 refl) ∙ sym e
    go (no d) = ap (opposite u) (sym (opposite_some u m d)) ∙ sym (opposite_some u (u - m) (λ e. omega arith)) ∙ (let q : u - (u - m) ≡ m = omega arith in q)

opposite_apart : (u m n : ℕ) → m < u → n < u → ¬ (n ≡ m) → ¬ (opposite u n ≡ opposite u m)
opposite_apart u m n h k d e = d (sym (opposite_twice u n k) ∙ ap (opposite u) e ∙ opposite_twice u m h)

-- ---- the sums of a weight over the rows of a rack
module _ (u w from m : ℕ) (ys row : List ℕ) where
  pub last_more : Weighed gf256 u m ys from w w row → Weighed gf256 u (m + 1 - 1) ys from w w row
  last_more = let q : m ≡ m + 1 - 1 = omega arith in subst (λ n. Weighed gf256 u n ys from w w row) q

-- ---- the places of a rack
module _ {A : Type 0} (f : Field A) (u w i : ℕ) (ys : List ℕ) where
  open f use {ops}
  open f.coding use {elem}

  pub places_more : (m g : ℕ) (was is new row : List ℕ) → m < u → g ≡ opposite u m → RackFound f u w i ys was is m → Weighed f u m ys (i * u * w) w w row →
      Run (copied row 0) is new (i * u * w + g * w) w → RackFound f u w i ys was new (m + 1)
  unfolding copied
  places_more m g was is new row hm eg r z c = record {
    at = λ n j h b. go n j h b (ℕ_discrete n m);
    before = λ k j h b. cell_other f (copied row 0) is new (i * u + g) w turned k j b (λ e. omega arith) ∙ r.before k j h b;
  }
    where
      spot : i * u * w + g * w ≡ (i * u + g) * w
      spot = sym (plus_mul (i * u) g w)

      turned : Run (copied row 0) is new ((i * u + g) * w) w
      turned = subst (λ y. Run (copied row 0) is new y w) spot c

      go : (n j : ℕ) → n < m + 1 → j < w → Dec (n ≡ m) → cell f w new (i * u + opposite u n) j ≡ sum ops u (weighted_term f u n ys (i * u * w) w j)
      go n j h b (yes e) =
          subst (λ x. cell f w new (i * u + opposite u x) j ≡ sum ops u (weighted_term f u x ys (i * u * w) w j)) (sym e)
          (ap (λ y. cell f w new (i * u + y) j) (sym eg) ∙ sym (cell_is f w new (i * u + g) j) ∙ ap elem (turned.done j b)
          ∙ ap (λ y. elem (get_or row y 0)) (let q : 0 + j ≡ j = omega arith in q) ∙ z.at j b)
      go n j h b (no d) =
          cell_other f (copied row 0) is new (i * u + g) w turned (i * u + opposite u n) j b
          (λ e. opposite_apart u m n hm (omega arith) d (let q : opposite u n ≡ g = omega arith in q ∙ eg))
          ∙ r.at n j (omega arith) b

-- ---- the racks
module _ {A : Type 0} (f : Field A) (u w : ℕ) (ys : List ℕ) where
  pub racks_more : (i : ℕ) (was is : List ℕ) → RacksFound f u w i ys was → RackFound f u w i ys was is u → RacksFound f u w (i + 1) ys is
  racks_more i was is g r = record { at = λ n m j h k b. go n m j h k b (ℕ_discrete n i) }
    where
      go : (n m j : ℕ) → n < i + 1 → m < u → j < w → Dec (n ≡ i) → cell f w is (n * u + opposite u m) j ≡ sum f.ops u (weighted_term f u m ys (n * u * w) w j)
      go n m j h k b (yes e) = subst (λ x. cell f w is (x * u + opposite u m) j ≡ sum f.ops u (weighted_term f u m ys (x * u * w) w j)) (sym e) (r.at m j k b)
      go n m j h k b (no d) =
          r.before (n * u + opposite u m) j (let q = row_before n i u (omega arith) in let o = opposite_below u m k in omega arith) b ∙ g.at n m j (omega arith) k b

pub bytes_of : (xs : List ℕ) → ((i : ℕ) → Fits w8 (get_or xs i 0)) → Bytes xs
bytes_of xs f = record { at = λ i. (f i).fits }

-- ---- a layer
module _ {A : Type 0} {f : Field A} (W : Working f) (l : Layout) (w first : ℕ) (es : List ℕ) (n : ℕ) (a : Cabinet l) (k : Listed l es) (r : WholeRacks l.size n es)
    (divides : l.size * (f.order / l.size) ≡ f.order) (ones : sum f.ops l.size (λ m. f.ops.one) ≡ f.ops.one) (j : ℕ) where
  open f use {ops, root, order}
  open f.coding use {elem}
  open W.field use {laws}
  open ops use {mul as ◌⊗◌, one as 𝟙}

  infixl 70 ◌⊗◌
  suits : Suits (shape_of f l)
  suits = fits_of W l 0 0 0 es es a divides

  -- the points of the trays listed, and of the racks
  pts : ℕ → A
  pts x = point_at f l j (get_or es x 0)

  rack : ℕ → ℕ
  rack i = get_or es (i * l.size) 0 / l.size

  digit_low : (i : ℕ) → i < l.racks → digit (digits l) j i < digits l
  unfolding digit
  digit_low i h = mod-lt (j / digits l ^ i) (bounds l a).digits_low

  point_is : (i g : ℕ) → i < n → g < l.size → pts (i * l.size + g) ≡ point (shape_of f l) (rack i) (digit (digits l) j (rack i)) g
  unfolding pts rack point_at layer_point tray_point
  point_is i g h b = ap₂ (λ x y. point (shape_of f l) x (digit (digits l) j x) y) (rack_of_lem l.size n es r i g h b) (place_is l.size n es r i g h b)

  first_is : (i : ℕ) → i < n → pts (i * l.size) ≡ point (shape_of f l) (rack i) (digit (digits l) j (rack i)) 0
  unfolding pts
  first_is i h = (let q : i * l.size ≡ i * l.size + 0 = omega arith in ap (λ x. point_at f l j (get_or es x 0)) q) ∙ point_is i 0 h (bounds l a).size_low

  split : (i g : ℕ) → i < n → g < l.size → pts (i * l.size + g) ≡ pts (i * l.size) ⊗ pow ops (pow ops root (order / l.size)) g
  split i g h b =
      point_is i g h b ∙ point_split (shape_of f l) suits (rack i) (digit (digits l) j (rack i)) g ∙ ap (λ y. y ⊗ pow ops (pow ops root (order / l.size)) g) (sym (first_is i h))

  full : pow ops (pow ops root (order / l.size)) l.size ≡ 𝟙
  full = sym (pow_mul ops laws root (order / l.size) l.size) ∙ ap (pow ops root) (times_comm (order / l.size) l.size ∙ divides) ∙ W.field.root.full

  different : Distinct pts (n * l.size)
  unfolding pts point_at layer_point
  different = record {
    apart = λ x y hx hy e.
        let ix = subst (λ m. x < m) (sym r.long) hx in
        let iy = subst (λ m. y < m) (sym r.long) hy in
        k.places.apart x y ix iy ((trays_distinct (shape_of f l) suits (digit (digits l) j) digit_low).apart (get_or es x 0) (get_or es y 0) (k.places.inside x ix) (k.places.inside y iy) e);
  }

  rack_low : (i : ℕ) → i < n → rack i < l.racks
  unfolding rack
  rack_low i h = rack_in l a (get_or es (i * l.size) 0) (k.places.inside (i * l.size) (first_in l.size n es r i h (bounds l a).size_low))

  racks_apart : (x y : ℕ) → x < n → y < n → rack x ≡ rack y → x ≡ y
  unfolding rack
  racks_apart x y hx hy e =
      let s = (bounds l a).size_low in
      let entry : (i : ℕ) → i < n → get_or es (i * l.size) 0 ≡ get_or es (i * l.size) 0 / l.size * l.size = λ i h.
      sym (div-add-mod' (get_or es (i * l.size) 0) l.size) ∙ ap (λ v. get_or es (i * l.size) 0 / l.size * l.size + v) (r.racks.at i h).begins
      ∙ (let q : get_or es (i * l.size) 0 / l.size * l.size + 0 ≡ get_or es (i * l.size) 0 / l.size * l.size = omega arith in q) in
      let same : x * l.size ≡ y * l.size = k.places.apart (x * l.size) (y * l.size) (first_in l.size n es r x hx s) (first_in l.size n es r y hy s)
      (entry x hx ∙ ap (λ v. v * l.size) e ∙ sym (entry y hy)) in
      go same (ℕ_discrete x y)
    where
      go : x * l.size ≡ y * l.size → Dec (x ≡ y) → x ≡ y
      go q (yes e) = e
      go q (no d) = absurd (later x y (λ b. omega (arith, row_before x y l.size b, (bounds l a).size_low)) (λ b. omega (arith, row_before y x l.size b, (bounds l a).size_low)) d)
        where
          later : (p q : ℕ) → ¬ (p < q) → ¬ (q < p) → ¬ (p ≡ q) → ⊥
          later p q a b c = c (omega arith)

  powers : Distinct (λ i. pow ops (pts (i * l.size)) l.size) n
  powers = record {
    apart = λ x y hx hy e.
        racks_apart x y hx hy
        (powers_apart (shape_of f l) suits (rack x) (digit (digits l) j (rack x)) 0 (rack y) (digit (digits l) j (rack y)) 0 (rack_low x hx) (digit_low (rack x) (rack_low x hx)) (rack_low y hy)
        (digit_low (rack y) (rack_low y hy)) (ap (λ v. pow ops v l.size) (sym (first_is x hx)) ∙ e ∙ ap (λ v. pow ops v l.size) (first_is y hy))).0;
  }

  roots : Distinct (pow ops (pow ops root (order / l.size))) l.size
  unfolding place
  roots = places_distinct (shape_of f l) suits

  -- a power of a rack's point, and what it is divided by
  cancels : (i m : ℕ) → i < n → m < l.size → lowering f l j (get_or es (i * l.size + m) 0) ((i * l.size + m) % l.size) ⊗ pow ops (pts (i * l.size)) m ≡ 𝟙
  unfolding lowering rack point
  cancels i m h b =
      ap₂ ◌⊗◌
      (ap₂ (λ x y. pow ops (pow ops root (order - y)) (x * digits l + digit (digits l) j x)) (rack_of_lem l.size n es r i m h b) (digits_mod i b))
      (ap (λ y. pow ops y m) (first_is i h ∙ (let q : rack i * digits l + digit (digits l) j (rack i) + 0 * (order / l.size) ≡ e = omega arith in ap (pow ops root) q)))
      ∙ ap₂ ◌⊗◌ (sym (pow_mul ops laws root (order - m) e)) (sym (pow_mul ops laws root e m)) ∙ sym (pow_add ops laws root ((order - m) * e) (e * m))
      ∙ ap (pow ops root) sizes ∙ pow_mul ops laws root order e ∙ ap (λ y. pow ops y e) W.field.root.full ∙ one_pow ops laws e
    where
      e : ℕ
      e = rack i * digits l + digit (digits l) j (rack i)

      low : m ≤ order
      low =
          let q : 1 ≤ order / l.size = le_trans (mul-pos suits.some_racks suits.some_digits) suits.room in
          let t : l.size * 1 ≤ l.size * (order / l.size) = mul-le-mul_left l.size q in
          omega arith

      sizes : (order - m) * e + e * m ≡ order * e
      sizes = ap (λ y. (order - m) * e + y) (times_comm e m) ∙ sym (plus_mul (order - m) m e) ∙ (let q : order - m + m ≡ order = omega arith in ap (λ y. y * e) q)

  -- the symbol at place g of rack i
  module _ (sums was ys found : List ℕ) (at : ℕ) (ej : j ≡ first + at) (hj : at < w) (b : WeightedSums f l w first es n sums was) (c : Lowered f l w first es (length es) was ys)
      (d : RacksFound f l.size w n ys found) (i g : ℕ) (hi : i < n) (hg : g < l.size) where
    side : ℕ → A
    side t = ops.neg (cell f w sums t at)

    term : (m : ℕ) → weighted_term f l.size (opposite l.size g) ys (i * l.size * w) w at m
        ≡ pow ops (pow ops (pow ops root (order / l.size)) m) (opposite l.size g) ⊗ cell f w ys (i * l.size + m) at
    unfolding weighted_term weight cell
    term m =
        ap (λ x. pow ops (pow ops (pow ops root (order / l.size)) m) (opposite l.size g) ⊗ elem (get_or ys x 0))
        (let q = plus_mul (i * l.size) m w in let t : i * l.size * w + m * w + at ≡ (i * l.size + m) * w + at = omega arith in t)

    lowered : (m : ℕ) → m < l.size → cell f w ys (i * l.size + m) at
        ≡ solve ops (λ x. pow ops (pts (x * l.size)) l.size) n (λ p. side (l.size * p + m)) i ⊗ lowering f l j (get_or es (i * l.size + m) 0) ((i * l.size + m) % l.size)
    unfolding pts weighted_sum side
    lowered m h =
        c.at (i * l.size + m) at (entry_in l.size n es r i m hi h) hj
        ∙ ap₂ ◌⊗◌
        (b.at i m at hi h hj ∙ ap (λ y. solve ops (λ x. pow ops (point_at f l y (get_or es (x * l.size) 0)) l.size) n (λ p. ops.neg (cell f w sums (l.size * p + m) at)) i) (sym ej))
        (ap (λ y. lowering f l y (get_or es (i * l.size + m) 0) ((i * l.size + m) % l.size)) (sym ej))

    pub place_found : cell f w found (i * l.size + g) at ≡ solve ops (λ x. point_at f l (first + at) (get_or es x 0)) (length es) (λ t. ops.neg (cell f w sums t at)) (i * l.size + g)
    unfolding pts side
    place_found =
        ap (λ y. cell f w found (i * l.size + y) at) (sym (opposite_twice l.size g hg))
        ∙ d.at i (opposite l.size g) at hi (opposite_below l.size g hg) hj
        ∙ sum_congr ops l.size _ _ (λ m h. term m)
        ∙ symbols_solved ops laws (pow ops root (order / l.size)) l.size full pts (λ x. pts (x * l.size)) n split different powers side roots ones i hi
        (λ m. lowering f l j (get_or es (i * l.size + m) 0) ((i * l.size + m) % l.size)) (λ m. cell f w ys (i * l.size + m) at) (λ m h. cancels i m hi h) lowered g hg
        ∙ ap₂ (λ y m. solve ops (λ x. point_at f l y (get_or es x 0)) m (λ t. ops.neg (cell f w sums t at)) (i * l.size + g)) ej (sym r.long)

-- among bytes an odd number of ones is one
ones_small : (u : ℕ) → Small u → sum gf256.ops u (λ m. gf256.ops.one) ≡ gf256.ops.one
unfolding sum byteOps ◌⊕◌ below
ones_small u s = go (ℕ_discrete u 3)
  where
    three : sum gf256.ops 3 (λ m. gf256.ops.one) ≡ gf256.ops.one
    three = refl

    five : sum gf256.ops 5 (λ m. gf256.ops.one) ≡ gf256.ops.one
    five = refl

    go : Dec (u ≡ 3) → sum gf256.ops u (λ m. gf256.ops.one) ≡ gf256.ops.one
    go (yes e) = ap (λ n. sum gf256.ops n (λ m. gf256.ops.one)) e ∙ three
    go (no d) = ap (λ n. sum gf256.ops n (λ m. gf256.ops.one)) (s.other d) ∙ five

pub found_racks : (l : Layout) (w first : ℕ) (es : List ℕ) (n : ℕ) (sums was ys found : List ℕ) → Cabinet l → Listed l es → WholeRacks l.size n es → Small l.size →
    WeightedSums gf256 l w first es n sums was → Lowered gf256 l w first es (length es) was ys → RacksFound gf256 l.size w n ys found → Bytes found →
    FoundBlock gf256 l w first es sums found
found_racks l w first es n sums was ys found a k r s b c d bytes = record { at = at; small = λ x j h g. bytes.at (x * w + j) }
  where
    at : (x j : ℕ) → x < length es → j < w → cell gf256 w found x j ≡ solve gf256.ops (λ i. point_at gf256 l (first + j) (get_or es i 0)) (length es) (λ t. gf256.ops.neg (cell gf256 w sums t j)) x
    at x j hx hj =
        subst (λ y. cell gf256 w found y j ≡ solve gf256.ops (λ i. point_at gf256 l (first + j) (get_or es i 0)) (length es) (λ t. gf256.ops.neg (cell gf256 w sums t j)) y)
        (div-add-mod' x l.size)
        (place_found working l w first es n a k r (divides_small l.size s) (ones_small l.size s) (first + j) sums was ys found j refl hj b c d (x / l.size) (x % l.size)
        ((div-lt_iff_lt-mul (bounds l a).size_low).1 (subst (λ m. x < m) r.long hx)) (mod-lt x (bounds l a).size_low))
