-- Blocks of codewords in one layer: points, factors, places, sums, and what is written.
-- Assumes nothing.
use mathlib.Core.Path.{◌≡◌, refl, sym, ap, ap₂, ◌∙◌, subst}
use mathlib.Core.List.{List, ◌++◌}
use Prim.Native.Nat.{ℕ, zero, suc, ◌+◌, ◌-◌, ◌*◌, ◌/◌, ◌<◌, ◌≤◌, min}
use native.Mathlib.Nat.{add_assoc, add-zero, zero-add, add-mul, mul-add, mul_assoc, mul-le-mul_right}
use native.Mathlib.Decide.{ℕ_discrete, dec_lt}
use native.Mathlib.Omega.{arith}
use mir.Val.{Fits}
use mir.Syntax.{w64}
use lib.Dec.{eqb}
use lib.ListN.{length, get_or, set, length-set, take, drop, replicate}
use lib.Seq.{get_or-set_same, get_or-set_other, length-take-le, length_front, take_at}
use Rattle.lists.proofs.Numbers.{cell_same, mul_below}
use Rattle.algebra.specs.Field.{Ops}
use Rattle.algebra.specs.Sum.{sum, pow}
use Rattle.algebra.specs.Poly.{eval}
use Rattle.algebra.specs.Lagrange.{factor, basis}
use Rattle.algebra.specs.Shape.{Field}
use Rattle.algebra.specs.Plain.{Working}
use Rattle.algebra.proofs.Lagrange.{basis_zero, basis_suc}
use Rattle.algebra.proofs.Plain.{laws}
use Rattle.algebra.proofs.Ring.{add_zero as plus-zero, mul_zero}
use Rattle.algebra.proofs.Pow.{pow_one}
use Rattle.algebra.proofs.Sum.{sum_congr, sum_split, sum_is_zero}
use Rattle.kernel.specs.Inner.{Run, filled, copied}
use Rattle.kernel.proofs.Rows.{row_before}
use Rattle.layout.specs.declared.Layout.{Layout}
use Rattle.layout.specs.Layout.{trays, tray_limit, Cabinet}
use Rattle.codeword.specs.Codeword.{point_at}
use Rattle.batch_factors.specs.Inner.{factor_at, Solving, Factored}
use Rattle.batch_kernel.specs.Inner.{term_at, Summed, Weighs, Laid}
use Rattle.batch_restore.specs.Inner.{lanes_of, eights_of, Lists, ListPoints, Pointing, weight_of, LayerWeights, Padded, Placed, Sums, sum_at, BlockSums, Outputs, Trays, Wide, PutRows, BlockTo}

-- ---- numbers
pub eights_is : (n : ℕ) → (n + 7) / 8 ≡ eights_of n
unfolding eights_of
eights_is n = refl

pub lanes_is : (s : ℕ) → (s + 15) / 16 * 16 ≡ lanes_of s
unfolding lanes_of
lanes_is s = refl

module _ (l : Layout) (list p : List ℕ) (s : Pointing l list p) where
  pub pointing_adm : Cabinet l
  pointing_adm = s.adm

  pub pointing_in : (t : ℕ) → t < length list → get_or list t 0 < trays l
  pointing_in t h = s.inside t h

-- ---- points
module _ {A : Type 0} {f : Field A} (W : Working f) (l : Layout) (j : ℕ) (list was : List ℕ) where
  pub points_none : ListPoints f l j list 0 was was
  points_none = record { long = refl; at = λ t h. absurd (omega arith) }

  pub points_more : (t v x : ℕ) (is next : List ℕ) → ListPoints f l j list t was is → x ≡ get_or list t 0 → f.coding.elem v ≡ pow f.ops (point_at f l j x) 1 → Run (filled v) is next t 1 →
      ListPoints f l j list (t + 1) was next
  unfolding filled
  points_more t v x is next p ex e r = record { long = r.long ∙ p.long; at = λ y k. go y k (ℕ_discrete y t) }
    where
      go : (y : ℕ) → y < t + 1 → Dec (y ≡ t) → f.coding.elem (get_or next y 0) ≡ point_at f l j (get_or list y 0)
      go y k (yes q) =
          ap (λ (i : ℕ). f.coding.elem (get_or next i 0)) (q ∙ sym (add-zero t)) ∙ ap f.coding.elem (r.done 0 (omega arith)) ∙ e ∙ pow_one f.ops (laws W) (point_at f l j x)
          ∙ ap (point_at f l j) (ex ∙ ap (λ (i : ℕ). get_or list i 0) (sym q))
      go y k (no q) = ap f.coding.elem (r.low y (omega arith)) ∙ p.at y (omega arith)

  pub points_end : (t n : ℕ) (is : List ℕ) → ListPoints f l j list t was is → t ≤ n → n ≤ t → ListPoints f l j list n was is
  points_end t n is p h k = let e : t ≡ n = omega arith in subst (λ (y : ℕ). ListPoints f l j list y was is) e p

-- ---- factors
module _ {A : Type 0} (o : Ops A) (p q : ℕ → A) (i n : ℕ) (inside : i < n) (same : (k : ℕ) → k < n → p k ≡ q k) where
  basis_congr : (m : ℕ) → m ≤ n → basis o p i m ≡ basis o q i m
  basis_congr zero h = basis_zero o p i ∙ sym (basis_zero o q i)
  basis_congr (suc m) h =
      basis_suc o p i m
      ∙ ap₂ (λ x y. factor o (eqb m i) x y (basis o p i m)) (same i inside) (same m (omega arith))
      ∙ ap (factor o (eqb m i) (q i) (q m)) (basis_congr m (omega arith))
      ∙ sym (basis_suc o q i m)

pub lanes_room : (s n : ℕ) → s + n ≤ 60 → 0 < n → eights_of n * 8 * lanes_of s ≤ 1536
unfolding eights_of lanes_of
lanes_room s n h some = go ((n + 7) / 8) refl
  where
    go : (p : ℕ) → p ≡ (n + 7) / 8 → p * 8 * ((s + 15) / 16 * 16) ≤ 1536
    go zero e = absurd (omega arith)
    go (suc zero) e = omega arith
    go (suc (suc zero)) e = omega arith
    go (suc (suc (suc zero))) e = omega arith
    go (suc (suc (suc (suc zero)))) e = omega arith
    go (suc (suc (suc (suc (suc zero))))) e = omega arith
    go (suc (suc (suc (suc (suc (suc zero)))))) e = omega arith
    go (suc (suc (suc (suc (suc (suc (suc zero))))))) e = omega arith
    go (suc (suc (suc (suc (suc (suc (suc (suc zero)))))))) e = omega arith
    go (suc (suc (suc (suc (suc (suc (suc (suc (suc p))))))))) e = absurd (omega arith)

-- what is told to the functions that make the factors
module _ (l : Layout) (es ks : List ℕ) (s : Lists l es ks) where
  few : length es + length ks ≤ 60
  few = let a = s.adm in let b = s.total in omega arith

  pub ks_few : length ks ≤ tray_limit
  ks_few = let a = few in omega arith

  pub ks_pointing : (p : List ℕ) → length p ≡ 64 → Pointing l ks p
  ks_pointing p e = record { adm = s.adm; inside = s.ks_in; room = let a = few in omega arith; few = let a = few in omega arith }

  pub es_pointing : (p : List ℕ) → length p ≡ 64 → Pointing l es p
  es_pointing p e = record { adm = s.adm; inside = s.es_in; room = let a = few in omega arith; few = let a = few in omega arith }

  module _ (count : ℕ) (ec : count ≡ eights_of (length ks)) where
    pub count_fits : Fits w64 (count * 8)
    unfolding eights_of
    count_fits = let a = few in omega arith

    pub count_low : length ks ≤ count * 8
    unfolding eights_of
    count_low = omega arith

    pub count_few : count ≤ 8
    unfolding eights_of
    count_few = let a = few in omega arith

  pub lanes_few : (wide : ℕ) → wide ≡ lanes_of (length es) → wide ≤ 64
  unfolding lanes_of
  lanes_few wide ew = let a = few in omega arith

  pub n_fits : (wide : ℕ) → wide ≡ lanes_of (length es) → Fits w64 (length ks * wide)
  n_fits wide ew = let a = few in let b = lanes_few wide ew in record { fits = mul_below 60 64 (omega arith) (omega arith) tt }

  pub factors_told : (wide : ℕ) → wide ≡ lanes_of (length es) → (g0 g p0 p q0 points : List ℕ) → length g0 ≡ 1536 → length p0 ≡ 64 → length q0 ≡ 64 →
      length g ≡ length g0 → length p ≡ length p0 → length points ≡ length q0 → Solving wide (length ks) (length es) g p points
  unfolding lanes_of
  factors_told wide ew g0 g p0 p q0 points eg ep eq fg fp fq = record {
    g_long = let a = known_room in omega arith;
    known_long = let a = few in omega arith;
    points_long = let a = lanes_few wide ew in omega arith;
    few = omega arith;
  }
    where
      known_room : length ks * wide ≤ 1536
      known_room = let b = lanes_room (length es) (length ks) few s.some in
          let a : length ks * wide ≤ eights_of (length ks) * 8 * wide = mul-le-mul_right wide (count_low (eights_of (length ks)) refl) in
          let d : eights_of (length ks) * 8 * wide ≡ eights_of (length ks) * 8 * lanes_of (length es) = ap (λ (y : ℕ). eights_of (length ks) * 8 * y) ew in
          omega arith

  module _ (wide count : ℕ) (ew : wide ≡ lanes_of (length es)) (ec : count ≡ eights_of (length ks)) where
    whole : length ks * wide + (count * 8 - length ks) * wide ≡ count * 8 * wide
    unfolding eights_of
    whole =
        let b : length ks + (count * 8 - length ks) ≡ count * 8 = omega arith in
        let a : (length ks + (count * 8 - length ks)) * wide ≡ length ks * wide + (count * 8 - length ks) * wide = add-mul (length ks) (count * 8 - length ks) wide in
        sym a ∙ ap (λ (y : ℕ). y * wide) b

    most : count * 8 * wide ≤ 1536
    most = rw (ec, ew) (lanes_room (length es) (length ks) few s.some)

    pub rest_fits : Fits w64 ((count * 8 - length ks) * wide)
    rest_fits = let a = whole in let b = most in omega arith

    pub zeros_in : (g : List ℕ) → length g ≡ 1536 → length ks * wide + (count * 8 - length ks) * wide ≤ length g
    zeros_in g e = let a = whole in let b = most in omega arith

    pub prepare_picks : (picks : List ℕ) → length picks ≡ 3072 → count * (16 * wide) ≤ length picks
    prepare_picks picks e =
        let a : count * 8 * wide ≡ count * (8 * wide) = mul_assoc count 8 wide in
        let b : count * (16 * wide) ≡ count * (8 * wide) + count * (8 * wide) = twice count wide in
        let d = most in
        omega arith
      where
        twice : (x y : ℕ) → x * (16 * y) ≡ x * (8 * y) + x * (8 * y)
        twice x y = let e : 16 * y ≡ 8 * y + 8 * y = omega arith in ap (λ (z : ℕ). x * z) e ∙ mul-add x (8 * y) (8 * y)

    pub prepare_g : (g0 g1 g : List ℕ) → length g0 ≡ 1536 → length g1 ≡ length g0 → length g ≡ length g1 → count * (8 * wide) ≤ length g
    prepare_g g0 g1 g e e1 e2 = let a : count * 8 * wide ≡ count * (8 * wide) = mul_assoc count 8 wide in let d = most in omega arith

    module _ {A : Type 0} {f : Field A} (W : Working f) (j : ℕ) (p0 p q0 points g0 g1 g2 : List ℕ) (weight : ℕ → ℕ → A) where
      open f use {ops}
      open f.coding use {elem}

      pub weights_of : ListPoints f l j ks (length ks) p0 p → ListPoints f l j es (length es) q0 points → Run (filled 0) g0 g1 (length ks * wide) ((count * 8 - length ks) * wide) →
          Factored f p points (length es) wide (length ks) g1 g2 → Weighs f weight g2 wide count → LayerWeights f l j es ks weight
      unfolding factor_at weight_of filled eights_of lanes_of
      weights_of lp lq r fs w = record {
        here = λ t o ht ho.
            w.at t o (omega arith) (omega arith) ∙ fs.at t o (omega arith) ho
            ∙ ap ops.neg (ap₂ (eval ops) (basis_congr ops (λ i. elem (get_or points i 0)) (λ i. point_at f l j (get_or es i 0)) o (length es) ho (λ k hk. lq.at k hk) (length es) (omega arith)) (lp.at t ht));
        none = λ t o ht lt ho.
            w.at t o (omega arith) (omega arith)
            ∙ ap elem (fs.rest (t * wide + o) (let a : length ks * wide ≤ t * wide = mul-le-mul_right wide (omega arith) in omega arith) ∙ zero_at (t * wide + o)
            (let a : length ks * wide ≤ t * wide = mul-le-mul_right wide (omega arith) in omega arith)
            (let a = row_before t (count * 8) wide (omega arith) in let b = whole in omega arith)) ∙ W.zero_is;
      }
        where
          zero_at : (i : ℕ) → length ks * wide ≤ i → i < length ks * wide + (count * 8 - length ks) * wide → get_or g1 i 0 ≡ 0
          zero_at i a b = let e : length ks * wide + (i - length ks * wide) ≡ i = omega arith in ap (λ (y : ℕ). get_or g1 y 0) (sym e) ∙ r.done (i - length ks * wide) (omega arith)

-- ---- places
module _ (ks : List ℕ) (gap first : ℕ) (was : List ℕ) where
  pub placed_none : Placed ks gap first 0 was was
  placed_none = record { long = refl; at = λ t h. absurd (omega arith) }

  pub placed_more : (t i v : ℕ) (is : List ℕ) → i ≡ min t (length ks - 1) → v ≡ get_or ks i 0 * gap + first → t < length is → Placed ks gap first t was is → Placed ks gap first (t + 1) was (set is t v)
  placed_more t i v is ei ev h p = record { long = length-set is t v ∙ p.long; at = λ y k. go y k (ℕ_discrete y t) }
    where
      go : (y : ℕ) → y < t + 1 → Dec (y ≡ t) → get_or (set is t v) y 0 ≡ get_or ks (min y (length ks - 1)) 0 * gap + first
      go y k (yes q) =
          ap (λ (z : ℕ). get_or (set is t v) z 0) q ∙ get_or-set_same is t v 0 h ∙ ev
          ∙ ap (λ (z : ℕ). get_or ks z 0 * gap + first) (ei ∙ ap (λ (z : ℕ). min z (length ks - 1)) (sym q))
      go y k (no q) = get_or-set_other is t y v 0 q ∙ p.at y (omega arith)

  pub placed_end : (t n : ℕ) (is : List ℕ) → Placed ks gap first t was is → t ≤ n → n ≤ t → Placed ks gap first n was is
  placed_end t n is p h k = let e : t ≡ n = omega arith in subst (λ (y : ℕ). Placed ks gap first y was is) e p

-- ---- sums
module _ (rows w : ℕ) (src ks : List ℕ) (gap first wide row : ℕ) (acc : List ℕ) (s : Sums rows w src ks gap first wide row acc) (at0 at : List ℕ) (n : ℕ) (en : n ≡ eights_of (length ks) * 8)
    (at_long : length at ≡ n) (p : Placed ks gap first n at0 at) where
  last : (t : ℕ) → min t (length ks - 1) < length ks
  last t = let a = s.some in omega arith

  pub sum_laid : Laid rows w src at wide row acc
  sum_laid = record {
    narrow = s.narrow;
    room = s.room;
    places = λ t h. let a = s.inside (min t (length ks - 1)) (last t) in let b = s.column in let e = p.at t (omega arith) in omega arith;
    few = s.wide_in;
  }

  module _ {A : Type 0} {f : Field A} (W : Working f) (weight : ℕ → ℕ → A) (is : List ℕ) where
    open f use {ops}
    open f.coding use {elem, val}

    pub sum_done : Summed f weight src at row w rows (length at / 8) acc is → Padded f weight ks (row + rows) → BlockSums f weight src ks gap first w row rows acc is
    unfolding term_at sum_at eights_of
    sum_done d z = record {
      long = d.long;
      at = λ o c ho hc.
          d.done o c ho hc
          ∙ ap val (ap (λ (y : ℕ). sum ops y (λ t. ops.mul (elem (get_or src (get_or at t 0 + c) 0)) (weight t (row + o)))) split
          ∙ sum_split ops (laws W) (length ks) (n - length ks) (λ t. ops.mul (elem (get_or src (get_or at t 0 + c) 0)) (weight t (row + o)))
          ∙ ap₂ ops.add (sum_congr ops (length ks) _ _ (λ t h. ap (λ (y : ℕ). ops.mul (elem (get_or src y 0)) (weight t (row + o))) (here t c h)))
          (sum_is_zero ops (laws W) (n - length ks) _ (λ t h. ap (ops.mul (elem (get_or src (get_or at (length ks + t) 0 + c) 0))) (z.none (length ks + t) (row + o) (omega arith) (omega arith) (omega arith))
          ∙ mul_zero ops (laws W) _))
          ∙ plus-zero ops (laws W) _);
    }
      where
        split : length at / 8 * 8 ≡ length ks + (n - length ks)
        split = omega arith

        here : (t c : ℕ) → t < length ks → get_or at t 0 + c ≡ get_or ks t 0 * gap + (first + c)
        here t c h =
            let e : min t (length ks - 1) ≡ t = omega arith in
            ap (λ (y : ℕ). y + c) (p.at t (omega arith) ∙ ap (λ (y : ℕ). get_or ks y 0 * gap + first) e) ∙ add_assoc (get_or ks t 0 * gap) first c

-- ---- numbers of a block
module _ (rows w : ℕ) (src ks : List ℕ) (gap first wide row : ℕ) (acc : List ℕ) (s : Sums rows w src ks gap first wide row acc) where
  pub sums_few : length ks ≤ tray_limit
  sums_few = s.few

  pub eight_fits : (r : ℕ) → r ≡ eights_of (length ks) → Fits w64 (r * 8)
  unfolding eights_of
  eight_fits r e = let a = s.few in omega arith

  pub eight_most : (r : ℕ) → r ≡ eights_of (length ks) → r * 8 ≤ 64
  unfolding eights_of
  eight_most r e = let a = s.few in omega arith

  pub sums_places : Fits w64 (length src) → (t : ℕ) → t < length ks → get_or ks t 0 * gap + gap < 18446744073709551616
  sums_places b t h = let a = s.inside t h in omega arith

  pub sums_some : 0 < length ks
  sums_some = s.some

  pub sums_first : first ≤ gap
  sums_first = let a = s.column in omega arith

pub zeros_long : (n : ℕ) → n ≤ 64 → n ≡ length (take n (replicate {A = ℕ} 64 0))
zeros_long n h = sym (length-take-le n (replicate 64 0) h)

pub zeros_most : (n : ℕ) → n ≤ 64 → length (take n (replicate {A = ℕ} 64 0)) ≤ 64
zeros_most n h = subst (λ (y : ℕ). y ≤ 64) (zeros_long n h) h

-- the first part of a list, lent and given back
module _ (n : ℕ) (h : n ≤ 64) (last : List ℕ) (e : length last ≡ length (take n (replicate {A = ℕ} 64 0))) where
  pub last_long : length last ≡ n
  last_long = e ∙ sym (zeros_long n h)

  pub last_in : n ≤ length (last ++ drop n (replicate {A = ℕ} 64 0))
  last_in = subst (λ (y : ℕ). n ≤ y) (sym (length_front (replicate 64 0) last n e)) h

  pub last_whole : take n (last ++ drop n (replicate {A = ℕ} 64 0)) ≡ last
  last_whole = take_at last (drop n (replicate 64 0)) n last_long

  pub last_again : n ≡ length (take n (last ++ drop n (replicate {A = ℕ} 64 0)))
  last_again = sym (ap length last_whole ∙ last_long)

module _ (rows w : ℕ) (src ks : List ℕ) (gap first wide row : ℕ) (acc : List ℕ) (s : Sums rows w src ks gap first wide row acc) (r : ℕ) (er : r ≡ eights_of (length ks))
    (last T : List ℕ) (k : ℕ) (z : List ℕ) (ek : r * 8 ≡ k) (lz : length last ≡ r * 8) (p : Placed ks gap first k z last) (eT : T ≡ last) where
  T-long : length T ≡ r * 8
  T-long = ap length eT ∙ lz

  T-placed : Placed ks gap first (r * 8) z T
  T-placed = subst (λ (y : List ℕ). Placed ks gap first (r * 8) z y) (sym eT) (subst (λ (y : ℕ). Placed ks gap first y z last) (sym ek) p)

  T-count : r * 8 ≡ eights_of (length ks) * 8
  T-count = ap (λ (y : ℕ). y * 8) er

  pub T-laid : Laid rows w src T wide row acc
  T-laid = sum_laid rows w src ks gap first wide row acc s z T (r * 8) T-count T-long T-placed

  pub T-eights : eights_of (length ks) ≡ length T / 8
  T-eights = let e = T-long in let d = er in omega arith

  pub T-done : {A : Type 0} {f : Field A} (W : Working f) (weight : ℕ → ℕ → A) (is : List ℕ) → Summed f weight src T row w rows (length T / 8) acc is → Padded f weight ks (row + rows) →
      BlockSums f weight src ks gap first w row rows acc is
  T-done W weight is = sum_done rows w src ks gap first wide row acc s z T (r * 8) T-count T-long T-placed W weight is

-- ---- what is written
module _ (es : List ℕ) (gap first w : ℕ) (acc was : List ℕ) where
  pub put_none : PutRows es gap first w acc was was 0
  put_none = record { long = refl; here = λ o c h k. absurd (omega arith); other = λ i d. refl }

  pub put_more : (n : ℕ) (is next c : List ℕ) → Outputs es gap c → first + w ≤ gap → n < length es → PutRows es gap first w acc was is n → Run (copied acc (n * 128)) is next (get_or es n 0 * gap + first) w →
      PutRows es gap first w acc was next (n + 1)
  unfolding copied
  put_more n is next c s inside hn p r = record {
    long = r.long ∙ p.long;
    here = λ o k ho hk. go o k ho hk (ℕ_discrete o n);
    other = λ i d. outside i (λ k hk e. d n k (omega arith) hk (e ∙ add_assoc (get_or es n 0 * gap) first k)) ∙ p.other i (λ o k ho hk. d o k (omega arith) hk);
  }
    where
      outside : (i : ℕ) → ((k : ℕ) → k < w → ¬ (i ≡ get_or es n 0 * gap + first + k)) → get_or next i 0 ≡ get_or is i 0
      outside i d = cases (dec_lt i (get_or es n 0 * gap + first)) (dec_lt i (get_or es n 0 * gap + first + w))
        where
          cases : Dec (i < get_or es n 0 * gap + first) → Dec (i < get_or es n 0 * gap + first + w) → get_or next i 0 ≡ get_or is i 0
          cases (yes a) b = r.low i a
          cases (no a) (yes b) = absurd (d (i - (get_or es n 0 * gap + first)) (omega arith) (omega arith))
          cases (no a) (no b) = r.high i (omega arith)

      go : (o k : ℕ) → o < n + 1 → k < w → Dec (o ≡ n) → get_or next (get_or es o 0 * gap + (first + k)) 0 ≡ get_or acc (o * 128 + k) 0
      go o k ho hk (yes q) =
          subst (λ (y : ℕ). get_or next (get_or es y 0 * gap + (first + k)) 0 ≡ get_or acc (y * 128 + k) 0) (sym q)
          (ap (λ (y : ℕ). get_or next y 0) (sym (add_assoc (get_or es n 0 * gap) first k)) ∙ r.done k hk)
      go o k ho hk (no q) =
          outside (get_or es o 0 * gap + (first + k)) (λ v hv e. q (s.apart o n (omega arith) hn
          (cell_same gap (get_or es o 0) (get_or es n 0) (first + k) (first + v) (omega arith) (omega arith) (e ∙ add_assoc (get_or es n 0 * gap) first v)).0))
          ∙ p.here o k (omega arith) hk

  pub put_end : (n m : ℕ) (is : List ℕ) → PutRows es gap first w acc was is n → n ≤ m → m ≤ n → PutRows es gap first w acc was is m
  put_end n m is p h k = let e : n ≡ m = omega arith in subst (λ (y : ℕ). PutRows es gap first w acc was is y) e p

pub outputs_still : (es : List ℕ) (gap : ℕ) (c d : List ℕ) → Outputs es gap c → length d ≡ length c → Outputs es gap d
outputs_still es gap c d s e = record { inside = λ o h. let a = s.inside o h in omega arith; apart = s.apart }

module _ (es : List ℕ) (gap : ℕ) (c : List ℕ) (s : Outputs es gap c) (o : ℕ) (h : o < length es) where
  pub put_in : (first w : ℕ) (is : List ℕ) → first + w ≤ gap → length is ≡ length c → get_or es o 0 * gap + first + w ≤ length is
  put_in first w is a e = let b = s.inside o h in omega arith

  pub put_from : (acc : List ℕ) (w : ℕ) → w ≤ 128 → length es * 128 ≤ length acc → o * 128 + w ≤ length acc
  put_from acc w a b = omega arith

-- ---- blocks
module _ {A : Type 0} {f : Field A} (weight : ℕ → ℕ → A) (es ks : List ℕ) (gap first : ℕ) where
  open f use {ops}
  open f.coding use {elem, val}

  pub block_done : (w : ℕ) (acc0 acc was is : List ℕ) → BlockSums f weight was ks gap first w 0 (length es) acc0 acc → PutRows es gap first w acc was is (length es) →
      BlockTo f weight es ks gap first w was is
  block_done w acc0 acc was is s p = record {
    long = p.long;
    done = λ o c ho hc. p.here o c ho hc ∙ s.at o c ho hc ∙ ap (λ (y : ℕ). val (sum_at f weight was ks gap first y c)) (zero-add o);
    other = p.other;
  }

  pub blocks_none : (was : List ℕ) → BlockTo f weight es ks gap first 0 was was
  blocks_none was = record { long = refl; done = λ o c ho hc. absurd (omega arith); other = λ i d. refl }

  pub blocks_more : (b w m : ℕ) (was is next : List ℕ) → Trays es ks gap was → first + m ≤ gap → w ≡ min 128 (m - b) → b < m → BlockTo f weight es ks gap first b was is →
      BlockTo f weight es ks gap (first + b) w is next → BlockTo f weight es ks gap first (b + w) was next
  unfolding sum_at
  blocks_more b w m was is next t room ew less p q = record {
    long = q.long ∙ p.long;
    done = λ o c ho hc. go o c ho hc (dec_lt c b);
    other = λ i d. q.other i (λ o c ho hc e. d o (b + c) ho (omega arith) (e ∙ ap (λ (y : ℕ). get_or es o 0 * gap + y) (add_assoc first b c)))
        ∙ p.other i (λ o c ho hc. d o c ho (omega arith));
  }
    where
      known : (x c : ℕ) → x < length ks → c < m → get_or is (get_or ks x 0 * gap + (first + c)) 0 ≡ get_or was (get_or ks x 0 * gap + (first + c)) 0
      known x c hx hc = p.other (get_or ks x 0 * gap + (first + c)) (λ o v ho hv e. t.kept x o hx ho
          (cell_same gap (get_or ks x 0) (get_or es o 0) (first + c) (first + v) (omega arith) (omega arith) e).0)

      go : (o c : ℕ) → o < length es → c < b + w → Dec (c < b) →
          get_or next (get_or es o 0 * gap + (first + c)) 0 ≡ val (sum ops (length ks) (λ x. ops.mul (elem (get_or was (get_or ks x 0 * gap + (first + c)) 0)) (weight x o)))
      go o c ho hc (yes l) =
          q.other (get_or es o 0 * gap + (first + c)) (λ v d hv hd e. let z = (cell_same gap (get_or es o 0) (get_or es v 0) (first + c) (first + b + d) (omega arith) (omega arith) e).1 in absurd (omega arith))
          ∙ p.done o c ho l
      go o c ho hc (no l) =
          let e : first + b + (c - b) ≡ first + c = omega arith in
          ap (λ (y : ℕ). get_or next (get_or es o 0 * gap + y) 0) (sym e) ∙ q.done o (c - b) ho (omega arith)
          ∙ ap val (sum_congr ops (length ks) _ _ (λ x hx. ap (λ (y : ℕ). ops.mul (elem y) (weight x o))
          (ap (λ (y : ℕ). get_or is (get_or ks x 0 * gap + y) 0) e ∙ known x c hx (omega arith))))

  pub blocks_end : (b m : ℕ) (was is : List ℕ) → BlockTo f weight es ks gap first b was is → b ≤ m → m ≤ b → BlockTo f weight es ks gap first m was is
  blocks_end b m was is p h k = let e : b ≡ m = omega arith in subst (λ (y : ℕ). BlockTo f weight es ks gap first y was is) e p

pub trays_still : (es ks : List ℕ) (gap : ℕ) (c d : List ℕ) → Trays es ks gap c → length d ≡ length c → Trays es ks gap d
trays_still es ks gap c d s e = record {
  outputs = outputs_still es gap c d s.outputs e;
  inside = λ t h. let a = s.inside t h in omega arith;
  kept = s.kept;
  some = s.some;
  few = s.few;
}

pub wide_still : (es : List ℕ) (wide : ℕ) (a b : List ℕ) → Wide es wide a → length b ≡ length a → Wide es wide b
wide_still es wide a b s e = record { few = s.few; room = rw e s.room }

pub sums_told : (es ks : List ℕ) (gap first w wide : ℕ) (c acc : List ℕ) → Trays es ks gap c → Wide es wide acc → w ≤ 128 → first + w ≤ gap → Sums (length es) w c ks gap first wide 0 acc
sums_told es ks gap first w wide c acc t s a b =
    record { narrow = a; room = s.room; some = t.some; few = t.few; inside = t.inside; column = b; wide_in = let z = s.few in omega arith }

pub padded_told : {A : Type 0} (f : Field A) (weight : ℕ → ℕ → A) (ks : List ℕ) (n : ℕ) → Padded f weight ks n → Padded f weight ks (0 + n)
padded_told f weight ks n p = record { none = λ t o a b h. p.none t o a b (omega arith) }

pub trays_outputs : (es ks : List ℕ) (gap : ℕ) (c : List ℕ) → Trays es ks gap c → Outputs es gap c
trays_outputs es ks gap c t = t.outputs

pub wide_room : (es : List ℕ) (wide : ℕ) (a b : List ℕ) → Wide es wide a → length b ≡ length a → length es * 128 ≤ length b
wide_room es wide a b s e = rw e s.room

pub weights_padded : {A : Type 0} (f : Field A) (l : Layout) (j : ℕ) (es ks : List ℕ) (weight : ℕ → ℕ → A) → LayerWeights f l j es ks weight → Padded f weight ks (length es)
weights_padded f l j es ks weight w = record { none = w.none }
