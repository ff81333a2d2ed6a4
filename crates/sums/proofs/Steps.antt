-- Places in the word of a group, the points of a rack in a block of groups, and where a share stands.
-- Assumes nothing.
use mathlib.Core.Path.{◌≡◌, refl, sym, ap, ap₂, ◌∙◌}
use mathlib.Core.List.{List}
use Prim.Native.Nat.{ℕ, zero, suc, pred, ◌+◌, ◌-◌, ◌*◌, ◌/◌, ◌%◌, ◌^◌, ◌<◌, ◌≤◌}
use native.Mathlib.Nat.{mul-div_cancel, mul-mod_left, mul_assoc, mul-le-mul, mul_comm, add-mul, zero-mul, div-add-mod', mod-lt, div-div-eq-div-mul, pow-suc, le_refl}
use native.Mathlib.Numerals.{add-one}
use native.Mathlib.Decide.{dec_lt}
use native.Mathlib.Omega.{arith}
use mir.Val.{Fits}
use mir.Syntax.{w32, w64}
use lib.Arith.{digits_div}
use lib.Pow.{pow-add}
use lib.ListN.{get_or}
use Rattle.lists.proofs.Numbers.{cell_in, mul_below}
use Rattle.algebra.specs.Sum.{pow}
use Rattle.algebra.specs.Points.{point, tray_point}
use Rattle.algebra.specs.Layers.{digit, layer_of}
use Rattle.algebra.specs.Cabinet.{layer_point}
use Rattle.algebra.specs.Group.{skip, unskip, free}
use Rattle.algebra.proofs.Pow.{pow_add as power_add, pow_mul}
use Rattle.algebra.proofs.Skip.{skip_below, unskip_low, unskip_high}
use Rattle.algebra.proofs.Free.{free_below, unskip_below}
use Rattle.algebra.proofs.Layers.{power_pos}
use Rattle.algebra.specs.Shape.{Field}
use Rattle.algebra.specs.Plain.{root_power, Working}
use Rattle.algebra.proofs.Plain.{elem_root_power}
use Rattle.layout.specs.declared.Layout.{Layout}
use Rattle.layout.specs.Layout.{digits, groups, parity_racks, tray_limit, Cabinet}
use Rattle.layout.proofs.Facts.{bounds}
use Rattle.layout.proofs.Numbers.{total, digits_small}
use Rattle.codeword.specs.Codeword.{shape_of, point_at}
use Rattle.blocks.specs.Inner.{Block}
use Rattle.blocks.proofs.Digits.{digit_low}
use Rattle.syndrome.specs.Inner.{DigitPowers}
use Rattle.sums.specs.Inner.{RackPowers}

-- the unknowns' places, one helper after another
pub free_first : (h : ℕ → ℕ) (i : ℕ) → i ≡ free h 0 i
unfolding free
free_first h i = refl

pub free_next : (h : ℕ → ℕ) (d i q x r : ℕ) → r ≡ skip q x → q ≡ h d → x ≡ free h d i → r ≡ free h (d + 1) i
unfolding free
free_next h d i q x r e f g = e ∙ ap₂ skip f g ∙ ap (λ n. free h n i) (sym (add-one d))

pub free_high : (h : ℕ → ℕ) (d i x : ℕ) → x ≡ free h d i → x < suc i + d
free_high h d i x e = rw e (free_below h (suc i) d i (omega arith))

-- s is at most R
pub digits_under : (l : Layout) → Cabinet l → digits l ≤ parity_racks l
digits_under l a = omega (arith, total l a, a.helpers_high)

-- R and the host's sums of every weight are few
pub unknowns_high : (l : Layout) → Cabinet l → parity_racks l ≤ tray_limit
unknowns_high l a = let b = bounds l a in omega (arith, b.racks_high)

pub sums_high : (l : Layout) → Cabinet l → (e : ℕ) → e + l.dimension % l.size ≤ l.size → e * digits l ≤ tray_limit
sums_high l a e few =
    let h : e ≤ l.size = omega arith in
    omega (arith, mul-le-mul h (bounds l a).digits_high, mul_comm l.size l.racks, a.trays_high)

-- the number of the digit of a group's number that is another rack's, as it is worked out
pub digit_below_host : (h i : ℕ) → i < h → i ≡ unskip h i
digit_below_host h i k = sym (unskip_low h i k)

pub digit_above_host : (h i : ℕ) → ¬ (i ≡ h) → h ≤ i → i - 1 ≡ unskip h i
digit_above_host h i d k = down i (omega arith) ∙ sym (unskip_high h i k)
  where
    down : (i : ℕ) → 0 < i → i - 1 ≡ pred i
    down zero h = absurd (omega arith)
    down (suc i) h = omega arith

-- the digits of a group's number are those of its layers, but for the host's
module _ (s h p : ℕ) (pos : 0 < s) where
  quotient : layer_of s h p 0 / s ^ suc h ≡ p / s ^ h
  unfolding layer_of
  quotient =
      ap (λ n. ((p / s ^ h * s + 0) * s ^ h + p % s ^ h) / n) (pow-suc s h) ∙ sym (div-div-eq-div-mul _ (s ^ h) s)
      ∙ ap (λ n. n / s) (digits_div (p / s ^ h * s + 0) (mod-lt p (power_pos s h pos))) ∙ digits_div (p / s ^ h) pos

  high : (i : ℕ) → h < i → digit s (layer_of s h p 0) i ≡ digit s p (i - 1)
  unfolding digit
  high i k =
      ap (λ n. layer_of s h p 0 / n % s) (split (suc h) i (omega arith))
      ∙ ap (λ n. n % s) (sym (div-div-eq-div-mul _ (s ^ suc h) (s ^ (i - suc h))) ∙ ap (λ n. n / s ^ (i - suc h)) quotient ∙ div-div-eq-div-mul p (s ^ h) (s ^ (i - suc h)))
      ∙ ap (λ n. p / n % s) ((let e : i - suc h ≡ i - 1 - h = omega arith in ap (λ n. s ^ h * s ^ n) e) ∙ sym (split h (i - 1) (omega arith)))
    where
      split : (a n : ℕ) → a ≤ n → s ^ n ≡ s ^ a * s ^ (n - a)
      split a n q = (let e : n ≡ a + (n - a) = omega arith in ap (λ y. s ^ y) e) ∙ pow-add s a (n - a)

  low : (i : ℕ) → i < h → digit s (layer_of s h p 0) i ≡ digit s p i
  unfolding layer_of
  low i k =
      digit_low s (p / s ^ h * s + 0) (p % s ^ h) i h pos k ∙ sym (digit_low s (p / s ^ h) (p % s ^ h) i h pos k) ∙ ap (λ n. digit s n i) (div-add-mod' p (s ^ h))

  pub group_digit_is : (i : ℕ) → ¬ (i ≡ h) → digit s (layer_of s h p 0) i ≡ digit s p (unskip h i)
  group_digit_is i other = go (dec_lt i h)
    where
      go : Dec (i < h) → digit s (layer_of s h p 0) i ≡ digit s p (unskip h i)
      go (yes k) = low i k ∙ ap (digit s p) (digit_below_host h i k)
      go (no k) = high i (omega arith) ∙ ap (digit s p) (digit_above_host h i other (omega arith))

pub digit_in : (h i n at : ℕ) → at ≡ unskip h i → h < n → i < n → ¬ (i ≡ h) → at < n
digit_in h i n at e a b c = let q = unskip_below h i (n - 1) (omega arith) (omega arith) c in omega arith

module _ (l : Layout) (a : Cabinet l) where
  pub other_in : (h x s i : ℕ) → s ≡ digits l → s ≤ x → x < digits l + (l.racks - 1) → i ≡ skip h (x - s) → i < l.racks
  other_in h x s i es k m ei = omega (arith, ei, a.racks_low, skip_below h (x - s) (l.racks - 1) (omega arith))

exponents : (a d q t : ℕ) → t * d + (a + 0 + 0 * q) * t ≡ (a + d + 0 * q) * t
exponents a d q t =
    let z = zero-mul q in
    let e : a + 0 + 0 * q ≡ a = omega arith in
    let f : a + d + 0 * q ≡ a + d = omega arith in
    ap (λ y. t * d + y * t) e ∙ (let c = mul_comm t d in let s = add-mul a d t in let r : t * d + a * t ≡ (a + d) * t = omega arith in r) ∙ ap (λ y. y * t) (sym f)

module _ {A : Type 0} {f : Field A} (W : Working f) where
  open f use {ops, root, order}
  open f.coding use {elem}
  open W.field use {laws}

  -- the point at place 0 of rack i in layer j
  pub rack_point_lem : (l : Layout) → Cabinet l → (i j : ℕ) → point_at f l j (i * l.size) ≡ point (shape_of f l) i (digit (digits l) j i) 0
  unfolding point_at layer_point tray_point
  rack_point_lem l a i j =
      ap₂ (λ r g. point (shape_of f l) r (digit (digits l) j r) g) (mul-div_cancel i (bounds l a).size_low) (mul-mod_left i l.size)

  -- a point of a rack, and its points in a block, as they are worked out
  pub digit_power : (l : Layout) (i a t s r : ℕ) → s ≡ digits l → r ≡ root_power f ((i * s + a) * t) → elem r ≡ pow ops (point (shape_of f l) i a 0) t
  unfolding point
  digit_power l i a t s r es er =
      ap elem er ∙ elem_root_power W ((i * s + a) * t) ∙ ap (λ n. pow ops root ((i * n + a) * t)) es ∙ ap (λ n. pow ops root (n * t)) (plain (i * digits l + a) (order / l.size))
      ∙ pow_mul ops laws root (i * digits l + a + 0 * (order / l.size)) t
    where
      plain : (n q : ℕ) → n ≡ n + 0 * q
      plain n q = let u = zero-mul q in omega arith

  pub powers_of : (l : Layout) (h w first i t at start zt : ℕ) (row : List ℕ) → Block l w first → ¬ (i ≡ h) → elem start ≡ pow ops (point (shape_of f l) i 0 0) t → zt ≡ root_power f t →
      at ≡ unskip h i → DigitPowers f l w first at start zt row → RackPowers f l h w first i t row
  unfolding point
  powers_of l h w first i t at start zt row b other e0 ez ea d = record { at = go }
    where
      go : (j : ℕ) → j < w → elem (get_or row j 0) ≡ pow ops (point_at f l (layer_of (digits l) h (first + j) 0) (i * l.size)) t
      go j k =
          d.at j k
          ∙ ap₂ (λ y x. ops.mul (pow ops y (digit (digits l) (first + j) at)) x) (ap elem ez ∙ elem_root_power W t)
          (e0 ∙ sym (pow_mul ops laws root (i * digits l + 0 + 0 * (order / l.size)) t))
          ∙ ap (λ n. ops.mul (pow ops (pow ops root t) n) (pow ops root ((i * digits l + 0 + 0 * (order / l.size)) * t)))
          (ap (digit (digits l) (first + j)) ea ∙ sym (group_digit_is (digits l) h (first + j) (bounds l b.adm).digits_low i other))
          ∙ together (digit (digits l) (layer_of (digits l) h (first + j) 0) i)
          ∙ ap (λ y. pow ops y t) (sym (rack_point_lem l b.adm i (layer_of (digits l) h (first + j) 0)))
        where
          together : (n : ℕ) →
              ops.mul (pow ops (pow ops root t) n) (pow ops root ((i * digits l + 0 + 0 * (order / l.size)) * t)) ≡ pow ops (pow ops root (i * digits l + n + 0 * (order / l.size))) t
          together n =
              ap (λ y. ops.mul y (pow ops root ((i * digits l + 0 + 0 * (order / l.size)) * t))) (sym (pow_mul ops laws root t n))
              ∙ sym (power_add ops laws root (t * n) ((i * digits l + 0 + 0 * (order / l.size)) * t))
              ∙ ap (pow ops root) (exponents (i * digits l) n (order / l.size) t)
              ∙ pow_mul ops laws root (i * digits l + n + 0 * (order / l.size)) t

pub place_fits : (s h i r : ℕ) → s ≤ tray_limit → i < tray_limit → ¬ (i ≡ h) → r ≡ unskip h i → Fits w32 (s + r)
place_fits s h i r a b c e = record { fits = omega (arith, digit_small) }
  where
    digit_small : r ≤ i
    digit_small = go (dec_lt i h)
      where
        go : Dec (i < h) → r ≤ i
        go (yes k) = let q = unskip_low h i k in omega arith
        go (no k) = let q = digit_above_host h i c (omega arith) in omega arith

-- the exponents are small
module _ (l : Layout) (adm : Cabinet l) (i a s : ℕ) (inside : i < l.racks) (digit_in : a < digits l) (es : s ≡ digits l) where
  bound : i * s < 241
  bound = let d = digits_small l adm in let r = (bounds l adm).racks_high in mul_below 60 4 (omega arith) (omega arith) tt

  power_high : (t : ℕ) → t ≤ tray_limit → (i * s + a) * t < 14701
  power_high t h = (let d = digits_small l adm in mul_below 245 60 (omega (arith, bound)) h tt)

  pub power_wide : (t : ℕ) → t ≤ tray_limit → Fits w64 ((i * s + a) * t)
  power_wide t h = record { fits = omega (arith, power_high t h) }

-- where the k-th helper's share of weight m stands
module _ (l : Layout) (a : Cabinet l) (e m k : ℕ) (few : e + l.dimension % l.size ≤ l.size) (weight : m < e) (helper : k < l.helpers) where
  pub row_in : k * e + m < tray_limit
  row_in = omega (arith, cell_in l.helpers e k m helper weight, mul-le-mul (helpers_under l a) (size_over e few), a.trays_high)
    where
      helpers_under : (l : Layout) → Cabinet l → l.helpers ≤ l.racks
      helpers_under l a = omega (arith, a.helpers_high)

      size_over : (e : ℕ) → e + l.dimension % l.size ≤ l.size → e ≤ l.size
      size_over e h = omega arith

  pub share_in : (first w : ℕ) → first + w ≤ groups l → (k * e + m) * groups l + first + w ≤ l.helpers * (e * groups l)
  share_in first w h = let q = rows in omega arith
    where
      whole : (k * e + m) * groups l + groups l ≤ l.helpers * e * groups l
      whole = let c = cell_in l.helpers e k m helper weight in let r = mul-le-mul c (le_refl (groups l)) in omega (arith, add-mul (k * e + m) 1 (groups l))

      rows : (k * e + m) * groups l + groups l ≤ l.helpers * (e * groups l)
      rows = rw (sym (mul_assoc l.helpers e (groups l))) whole
