-- Eight rows times their factors, by the bits of these.
-- Assumes nothing.
use mathlib.Core.Path.{◌≡◌, refl, sym, ap, ap₂, ◌∙◌, subst}
use mathlib.Core.List.{List}
use Prim.Native.Nat.{ℕ, zero, suc, ◌+◌, ◌-◌, ◌*◌, ◌/◌, ◌%◌, ◌^◌, ◌<◌, ◌≤◌}
use native.Mathlib.Nat.{zero-add, add-mul}
use native.Mathlib.Decide.{ℕ_discrete}
use native.Mathlib.Omega.{arith}
use lib.ListN.{length, get_or}
use Rattle.algebra.specs.Sum.{sum}
use Rattle.algebra.specs.Shape.{Field}
use Rattle.algebra.specs.Plain.{plus, Working}
use Rattle.algebra.proofs.Ring.{ring, add_zero as plus-zero, zero_add as zero-plus, mul_zero, mul_one}
use Rattle.algebra.proofs.Sum.{sum_congr, sum_add, sum_mul_right, sum_split, sum_zero}
use Rattle.algebra.proofs.Plain.{elem_plus, plus_below}
use Rattle.symbol.specs.Arithmetic.{mulz}
use Rattle.symbol.specs.Elem.{Elem, elem, ops, z, gf256}
use Rattle.symbol.proofs.Elem.{laws, elem_zero, elem_one, elem_⊗}
use Rattle.symbol.proofs.Halves.{twice_times}
use Rattle.symbol.proofs.Working.{working}
use Rattle.kernel.specs.Inner.{Run, Standing, filled, added}
use Rattle.batch_kernel.specs.Ready.{climbed, weight_at, Column}
use Rattle.batch_kernel.specs.Inner.{term_at, two_of, sum_of, rung_at, ladder_at, climbed_at, Tabled, RowsAdded, EightAdded, Summed, Summing}

-- ---- the ladder
pub rung_value : (tab picks : List ℕ) (at wide k j a b r : ℕ) → r ≡ plus gf256 (get_or tab a 0) (get_or tab (2048 + b) 0) → a ≡ get_or picks (at + k * wide) 0 * 128 + j →
    b ≡ get_or picks (at + (8 + k) * wide) 0 * 128 + j → elem r ≡ rung_at gf256 tab picks at wide j k
unfolding rung_at
rung_value tab picks at wide k j a b r e ea eb = ap elem e ∙ elem_plus working _ _ ∙ ap₂ (λ (x y : ℕ). ops.add (elem (get_or tab x 0)) (elem (get_or tab (2048 + y) 0))) ea eb

pub sum_small : (a b r : ℕ) → r ≡ plus gf256 a b → r < 256
sum_small a b r e = subst (λ (y : ℕ). y < 256) (sym e) (plus_below working a b)

pub step_value : (tab picks : List ℕ) (at wide k j a t r s : ℕ) → s ≡ plus gf256 t r → t ≡ mulz a → a < 256 → elem r ≡ rung_at gf256 tab picks at wide j k →
    elem s ≡ ops.add (ops.mul (elem a) z) (rung_at gf256 tab picks at wide j k)
step_value tab picks at wide k j a t r s es et h er = ap elem es ∙ elem_plus working t r ∙ ap₂ ops.add (ap elem (twice_times a t h et) ∙ elem_⊗ a 2) er

pub ladder_is : (tab picks : List ℕ) (at wide j a7 a6 a5 a4 a3 a2 a1 a0 : ℕ) → elem a7 ≡ rung_at gf256 tab picks at wide j 7 →
    elem a6 ≡ ops.add (ops.mul (elem a7) z) (rung_at gf256 tab picks at wide j 6) → elem a5 ≡ ops.add (ops.mul (elem a6) z) (rung_at gf256 tab picks at wide j 5) →
    elem a4 ≡ ops.add (ops.mul (elem a5) z) (rung_at gf256 tab picks at wide j 4) → elem a3 ≡ ops.add (ops.mul (elem a4) z) (rung_at gf256 tab picks at wide j 3) →
    elem a2 ≡ ops.add (ops.mul (elem a3) z) (rung_at gf256 tab picks at wide j 2) → elem a1 ≡ ops.add (ops.mul (elem a2) z) (rung_at gf256 tab picks at wide j 1) →
    elem a0 ≡ ops.add (ops.mul (elem a1) z) (rung_at gf256 tab picks at wide j 0) → elem a0 ≡ ladder_at tab picks at wide j
unfolding ladder_at climbed
ladder_is tab picks at wide j a7 a6 a5 a4 a3 a2 a1 a0 e7 e6 e5 e4 e3 e2 e1 e0 = up 0 a1 a0 _ (up 1 a2 a1 _ (up 2 a3 a2 _ (up 3 a4 a3 _ (up 4 a5 a4 _ (up 5 a6 a5 _ (up 6 a7 a6 _ e7 e6) e5) e4) e3) e2) e1) e0
  where
    up : (k a b : ℕ) (x : Elem) → elem a ≡ x → elem b ≡ ops.add (ops.mul (elem a) z) (rung_at gf256 tab picks at wide j k) → elem b ≡ ops.add (ops.mul x z) (rung_at gf256 tab picks at wide j k)
    up k a b x ea eb = eb ∙ ap (λ y. ops.add (ops.mul y z) (rung_at gf256 tab picks at wide j k)) ea

pub row_added : (tab picks : List ℕ) (at wide : ℕ) (c0 cur acc is : List ℕ) (to w : ℕ) → Standing gf256 (ladder_at tab picks at wide) c0 cur 0 w → Run (added gf256 acc to cur 0) acc is to w →
    Run (climbed_at tab picks at wide acc to) acc is to w
unfolding added climbed_at plus
row_added tab picks at wide c0 cur acc is to w s r = record {
  long = r.long;
  done = λ j h. r.done j h ∙ ap (λ x. gf256.coding.val (ops.add (elem (get_or acc (to + j) 0)) x)) (s.done j h);
  low = r.low;
  high = r.high;
}

-- ---- the output rows
module _ (tab picks : List ℕ) (at wide w : ℕ) (was : List ℕ) where
  pub rows_more : (is next : List ℕ) (o : ℕ) → w ≤ 128 → RowsAdded tab picks at wide w was is o → Run (climbed_at tab picks (at + o) wide is (o * 128)) is next (o * 128) w →
      RowsAdded tab picks at wide w was next (o + 1)
  unfolding climbed_at
  rows_more is next o narrow m r = record {
    long = r.long ∙ m.long;
    done = λ p j h l. go p j h l (ℕ_discrete p o);
    rest = λ i h. r.high i (omega arith) ∙ m.rest i (omega arith);
  }
    where
      go : (p j : ℕ) → p < o + 1 → j < w → Dec (p ≡ o) → get_or next (p * 128 + j) 0 ≡ gf256.coding.val (ops.add (elem (get_or was (p * 128 + j) 0)) (ladder_at tab picks (at + p) wide j))
      go p j h l (yes q) =
          subst (λ (y : ℕ). get_or next (y * 128 + j) 0 ≡ gf256.coding.val (ops.add (elem (get_or was (y * 128 + j) 0)) (ladder_at tab picks (at + y) wide j))) (sym q)
          (r.done j l ∙ ap (λ (y : ℕ). gf256.coding.val (ops.add (elem y) (ladder_at tab picks (at + o) wide j))) (m.rest (o * 128 + j) (omega arith)))
      go p j h l (no q) = r.low (p * 128 + j) (omega arith) ∙ m.done p j (omega arith) l

-- ---- bits
-- some of two, by two bits
two_bits : (x y : Elem) (s : ℕ) → s < 4 → two_of gf256 x y s ≡ ops.add (ops.mul x (elem (s % 2))) (ops.mul y (elem (s / 2 % 2)))
unfolding two_of
two_bits x y zero h = sym (ap₂ ops.add (ap (ops.mul x) elem_zero ∙ mul_zero ops laws x) (ap (ops.mul y) elem_zero ∙ mul_zero ops laws y) ∙ plus-zero ops laws ops.zero)
two_bits x y (suc zero) h = sym (ap₂ ops.add (ap (ops.mul x) elem_one ∙ mul_one ops laws x) (ap (ops.mul y) elem_zero ∙ mul_zero ops laws y) ∙ plus-zero ops laws x)
two_bits x y (suc (suc zero)) h = sym (ap₂ ops.add (ap (ops.mul x) elem_zero ∙ mul_zero ops laws x) (ap (ops.mul y) elem_one ∙ mul_one ops laws y) ∙ zero-plus ops laws y)
two_bits x y (suc (suc (suc zero))) h = sym (ap₂ ops.add (ap (ops.mul x) elem_one ∙ mul_one ops laws x) (ap (ops.mul y) elem_one ∙ mul_one ops laws y))
two_bits x y (suc (suc (suc (suc s)))) h = absurd (omega arith)

-- some of four, by four bits
sum_bits : (x : ℕ → Elem) (p : ℕ) → p < 16 → sum_of gf256 (x 0) (x 1) (x 2) (x 3) p ≡ sum ops 4 (λ i. ops.mul (x i) (elem (p / 2 ^ i % 2)))
unfolding sum_of sum
sum_bits x p h =
    ap₂ ops.add (two_bits (x 2) (x 3) (p / 4) (omega arith)) (two_bits (x 0) (x 1) (p % 4) (omega arith))
    ∙ ap₂ ops.add (ap₂ (λ (a b : ℕ). ops.add (ops.mul (x 2) (elem a)) (ops.mul (x 3) (elem b))) refl b3) (ap₂ (λ (a b : ℕ). ops.add (ops.mul (x 0) (elem a)) (ops.mul (x 1) (elem b))) b0 b1)
    ∙ order _ _ _ _
  where
    b0 : p % 4 % 2 ≡ p / 1 % 2
    b0 = omega arith

    b1 : p % 4 / 2 % 2 ≡ p / 2 % 2
    b1 = omega arith

    b3 : p / 4 / 2 % 2 ≡ p / 8 % 2
    b3 = omega arith

    order : (a b c d : Elem) → ops.add (ops.add c d) (ops.add a b) ≡ ops.add (ops.add (ops.add (ops.add ops.zero a) b) c) d
    order a b c d = let L = laws in simp (ring, L)

-- the value of bits is linear
climbed_sum : (x : ℕ → Elem) (b : ℕ → ℕ → Elem) (m n : ℕ) → climbed gf256 (λ k. sum ops m (λ i. ops.mul (x i) (b i k))) n ≡ sum ops m (λ i. ops.mul (x i) (climbed gf256 (b i) n))
unfolding climbed
climbed_sum x b m zero = refl
climbed_sum x b m (suc n) =
    ap (λ y. ops.add (ops.mul y z) (sum ops m (λ i. ops.mul (x i) (b i (6 - n))))) (climbed_sum x b m n)
    ∙ ap (λ y. ops.add y (sum ops m (λ i. ops.mul (x i) (b i (6 - n))))) (sym (sum_mul_right ops laws m z (λ i. ops.mul (x i) (climbed gf256 (b i) n))))
    ∙ sym (sum_add ops laws m (λ i. ops.mul (ops.mul (x i) (climbed gf256 (b i) n)) z) (λ i. ops.mul (x i) (b i (6 - n))))
    ∙ sum_congr ops m _ _ (λ i h. join (x i) (climbed gf256 (b i) n) z (b i (6 - n)))
  where
    join : (a c y d : Elem) → ops.add (ops.mul (ops.mul a c) y) (ops.mul a d) ≡ ops.mul a (ops.add (ops.mul c y) d)
    join a c y d = let L = laws in simp (ring, L)

pub climbed_congr : (r s : ℕ → Elem) (n : ℕ) → n < 8 → ((k : ℕ) → k < 8 → r k ≡ s k) → climbed gf256 r n ≡ climbed gf256 s n
unfolding climbed
climbed_congr r s zero h e = e 7 (omega arith)
climbed_congr r s (suc n) h e = ap₂ (λ x y. ops.add (ops.mul x z) y) (climbed_congr r s n (omega arith) e) (e (6 - n) (omega arith))

-- ---- eight rows
module _ (src at picks : List ℕ) (wide first w q o j : ℕ) (tab mid is : List ℕ) (hj : j < w) (narrow : w ≤ 128) (col : Column picks (q * 16 * wide + first + o) wide)
    (low : Tabled gf256 src (get_or at (q * 8) 0) (get_or at (q * 8 + 1) 0) (get_or at (q * 8 + 2) 0) (get_or at (q * 8 + 3) 0) 0 w tab mid)
    (high : Tabled gf256 src (get_or at (q * 8 + 4) 0) (get_or at (q * 8 + 4 + 1) 0) (get_or at (q * 8 + 4 + 2) 0) (get_or at (q * 8 + 4 + 3) 0) 2048 w mid is) where
  x : ℕ → Elem
  x i = elem (get_or src (get_or at (q * 8 + i) 0 + j) 0)

  place : ℕ → ℕ → ℕ
  place i k = q * 16 * wide + first + o + (i / 4 * 8 + k) * wide

  b : ℕ → ℕ → Elem
  b i k = elem (get_or picks (place i k) 0 / 2 ^ (i % 4) % 2)

  p : ℕ → ℕ
  p k = get_or picks (q * 16 * wide + first + o + k * wide) 0

  low_rung : (k : ℕ) → k < 8 → elem (get_or is (p k * 128 + j) 0) ≡ sum ops 4 (λ i. ops.mul (x i) (elem (p k / 2 ^ i % 2)))
  unfolding x p
  low_rung k h =
      let s : get_or picks (q * 16 * wide + first + o + k * wide) 0 < 16 = col.small k (omega arith) in
      ap elem (high.low (get_or picks (q * 16 * wide + first + o + k * wide) 0 * 128 + j) (omega arith)
      ∙ ap (λ (y : ℕ). get_or mid y 0) (front (get_or picks (q * 16 * wide + first + o + k * wide) 0)))
      ∙ low.done (get_or picks (q * 16 * wide + first + o + k * wide) 0) j s hj
      ∙ ap (λ (y : ℕ). sum_of gf256 (elem (get_or src (get_or at y 0 + j) 0)) (elem (get_or src (get_or at (q * 8 + 1) 0 + j) 0)) (elem (get_or src (get_or at (q * 8 + 2) 0 + j) 0)) (elem (get_or src (get_or at (q * 8 + 3) 0 + j) 0))
      (get_or picks (q * 16 * wide + first + o + k * wide) 0)) (zeroth (q * 8))
      ∙ sum_bits (λ i. elem (get_or src (get_or at (q * 8 + i) 0 + j) 0)) (get_or picks (q * 16 * wide + first + o + k * wide) 0) s
    where
      front : (s : ℕ) → s * 128 + j ≡ 0 + s * 128 + j
      front s = omega arith

      zeroth : (n : ℕ) → n ≡ n + 0
      zeroth n = omega arith

  high_rung : (k : ℕ) → k < 8 → elem (get_or is (2048 + (p (8 + k) * 128 + j)) 0) ≡ sum ops 4 (λ i. ops.mul (x (4 + i)) (elem (p (8 + k) / 2 ^ i % 2)))
  unfolding x p
  high_rung k h =
      let s : get_or picks (q * 16 * wide + first + o + (8 + k) * wide) 0 < 16 = col.small (8 + k) (omega arith) in
      ap (λ (y : ℕ). elem (get_or is y 0)) (front (get_or picks (q * 16 * wide + first + o + (8 + k) * wide) 0))
      ∙ high.done (get_or picks (q * 16 * wide + first + o + (8 + k) * wide) 0) j s hj
      ∙ same
      ∙ sum_bits (λ i. elem (get_or src (get_or at (q * 8 + (4 + i)) 0 + j) 0)) (get_or picks (q * 16 * wide + first + o + (8 + k) * wide) 0) s
    where
      front : (s : ℕ) → 2048 + (s * 128 + j) ≡ 2048 + s * 128 + j
      front s = omega arith

      read : (n m : ℕ) → n ≡ m → elem (get_or src (get_or at n 0 + j) 0) ≡ elem (get_or src (get_or at m 0 + j) 0)
      read n m e = ap (λ (y : ℕ). elem (get_or src (get_or at y 0 + j) 0)) e

      at0 : (n : ℕ) → n + 4 ≡ n + (4 + 0)
      at0 n = omega arith

      at1 : (n : ℕ) → n + 4 + 1 ≡ n + (4 + 1)
      at1 n = omega arith

      at2 : (n : ℕ) → n + 4 + 2 ≡ n + (4 + 2)
      at2 n = omega arith

      at3 : (n : ℕ) → n + 4 + 3 ≡ n + (4 + 3)
      at3 n = omega arith

      four : (a a' b b' c c' d d' : Elem) (s : ℕ) → a ≡ a' → b ≡ b' → c ≡ c' → d ≡ d' → sum_of gf256 a b c d s ≡ sum_of gf256 a' b' c' d' s
      four a a' b b' c c' d d' s ea eb ec ed = rw (ea, eb, ec, ed) refl

      same : sum_of gf256 (elem (get_or src (get_or at (q * 8 + 4) 0 + j) 0)) (elem (get_or src (get_or at (q * 8 + 4 + 1) 0 + j) 0)) (elem (get_or src (get_or at (q * 8 + 4 + 2) 0 + j) 0))
          (elem (get_or src (get_or at (q * 8 + 4 + 3) 0 + j) 0)) (get_or picks (q * 16 * wide + first + o + (8 + k) * wide) 0) ≡
          sum_of gf256 (elem (get_or src (get_or at (q * 8 + (4 + 0)) 0 + j) 0)) (elem (get_or src (get_or at (q * 8 + (4 + 1)) 0 + j) 0)) (elem (get_or src (get_or at (q * 8 + (4 + 2)) 0 + j) 0))
          (elem (get_or src (get_or at (q * 8 + (4 + 3)) 0 + j) 0)) (get_or picks (q * 16 * wide + first + o + (8 + k) * wide) 0)
      same = four _ _ _ _ _ _ _ _ _ (read _ _ (at0 (q * 8))) (read _ _ (at1 (q * 8))) (read _ _ (at2 (q * 8))) (read _ _ (at3 (q * 8)))

  rung_sum : (k : ℕ) → k < 8 → rung_at gf256 is picks (q * 16 * wide + first + o) wide j k ≡ sum ops 8 (λ i. ops.mul (x i) (b i k))
  unfolding rung_at b place p
  rung_sum k h =
      ap₂ ops.add (low_rung k h ∙ sum_congr ops 4 _ _ (λ i l. ap (λ (y : ℕ). ops.mul (x i) (elem y)) (first_bit i l)))
      (high_rung k h ∙ sum_congr ops 4 _ _ (λ i l. ap (λ (y : ℕ). ops.mul (x (4 + i)) (elem y)) (second_bit i l)))
      ∙ sym (sum_split ops laws 4 4 (λ i. ops.mul (x i) (elem (get_or picks (q * 16 * wide + first + o + (i / 4 * 8 + k) * wide) 0 / 2 ^ (i % 4) % 2))))
    where
      first_bit : (i : ℕ) → i < 4 → get_or picks (q * 16 * wide + first + o + k * wide) 0 / 2 ^ i % 2 ≡ get_or picks (q * 16 * wide + first + o + (i / 4 * 8 + k) * wide) 0 / 2 ^ (i % 4) % 2
      first_bit i l =
          let u : k ≡ i / 4 * 8 + k = omega arith in
          let v : i ≡ i % 4 = omega arith in
          ap₂ (λ (y e : ℕ). get_or picks (q * 16 * wide + first + o + y * wide) 0 / 2 ^ e % 2) u v

      second_bit : (i : ℕ) → i < 4 → get_or picks (q * 16 * wide + first + o + (8 + k) * wide) 0 / 2 ^ i % 2 ≡ get_or picks (q * 16 * wide + first + o + ((4 + i) / 4 * 8 + k) * wide) 0 / 2 ^ ((4 + i) % 4) % 2
      second_bit i l =
          let u : 8 + k ≡ (4 + i) / 4 * 8 + k = omega arith in
          let v : i ≡ (4 + i) % 4 = omega arith in
          ap₂ (λ (y e : ℕ). get_or picks (q * 16 * wide + first + o + y * wide) 0 / 2 ^ e % 2) u v

  weight_is : (i : ℕ) → climbed gf256 (b i) 7 ≡ weight_at gf256 picks wide (q * 8 + i) (first + o)
  unfolding weight_at b place
  weight_is i = climbed_congr _ _ 7 (omega arith) (λ k h. ap₂ (λ (y e : ℕ). elem (get_or picks y 0 / 2 ^ e % 2)) (spot k) down)
    where
      down : i % 4 ≡ (q * 8 + i) % 4
      down = omega arith

      spot : (k : ℕ) → q * 16 * wide + first + o + (i / 4 * 8 + k) * wide ≡ ((q * 8 + i) / 4 * 8 + k) * wide + (first + o)
      spot k =
          let u : (q * 8 + i) / 4 * 8 + k ≡ q * 16 + (i / 4 * 8 + k) = omega arith in
          let v : ((q * 8 + i) / 4 * 8 + k) * wide ≡ (q * 16 + (i / 4 * 8 + k)) * wide = ap (λ (y : ℕ). y * wide) u in
          let s : (q * 16 + (i / 4 * 8 + k)) * wide ≡ q * 16 * wide + (i / 4 * 8 + k) * wide = add-mul (q * 16) (i / 4 * 8 + k) wide in
          omega arith

  pub eight_sum : ladder_at is picks (q * 16 * wide + first + o) wide j ≡ sum ops 8 (λ i. term_at gf256 (weight_at gf256 picks wide) src at (first + o) j (q * 8 + i))
  unfolding ladder_at term_at x
  eight_sum =
      climbed_congr _ _ 7 (omega arith) rung_sum ∙ climbed_sum x b 8 7
      ∙ sum_congr ops 8 _ _ (λ i l. ap (ops.mul (elem (get_or src (get_or at (q * 8 + i) 0 + j) 0))) (weight_is i))

pub eight_done : (src at picks : List ℕ) (wide first w rows q : ℕ) (tab mid last acc is a0 : List ℕ) → Summing rows w src at picks wide first acc a0 → q < length at / 8 →
    Tabled gf256 src (get_or at (q * 8) 0) (get_or at (q * 8 + 1) 0) (get_or at (q * 8 + 2) 0) (get_or at (q * 8 + 3) 0) 0 w tab mid →
    Tabled gf256 src (get_or at (q * 8 + 4) 0) (get_or at (q * 8 + 4 + 1) 0) (get_or at (q * 8 + 4 + 2) 0) (get_or at (q * 8 + 4 + 3) 0) 2048 w mid last →
    RowsAdded last picks (q * 16 * wide + first) wide w acc is rows → EightAdded gf256 (weight_at gf256 picks wide) src at first w rows q acc is
eight_done src at picks wide first w rows q tab mid last acc is a0 s hq low high r = record {
  long = r.long;
  done = λ o j ho hj. r.done o j ho hj ∙ ap (λ y. gf256.coding.val (ops.add (elem (get_or acc (o * 128 + j) 0)) y))
      (eight_sum src at picks wide first w q o j tab mid last hj s.narrow (s.columns q o hq ho) low high);
}

-- ---- all rows, over any field
module _ {A : Type 0} {f : Field A} (W : Working f) (weight : ℕ → ℕ → A) (src at : List ℕ) (first w rows : ℕ) (was : List ℕ) where
  nil : f.coding.val f.ops.zero ≡ 0
  nil = ap f.coding.val (sym W.zero_is) ∙ W.field.coded.val_elem 0 (let s = W.size_is in omega arith)

  pub sums_none : (is : List ℕ) → w ≤ 128 → Run (filled 0) was is 0 (rows * 128) → Summed f weight src at first w rows 0 is is
  unfolding filled
  sums_none is narrow r = record {
    long = refl;
    done = λ o j ho hj. ap (λ (y : ℕ). get_or is y 0) (sym (zero-add (o * 128 + j))) ∙ r.done (o * 128 + j) (omega arith) ∙ sym (ap f.coding.val (sum_zero f.ops _) ∙ nil);
  }

  pub sums_more : (is next : List ℕ) (n : ℕ) → Summed f weight src at first w rows n was is → EightAdded f weight src at first w rows n is next → Summed f weight src at first w rows (n + 1) was next
  sums_more is next n s e = record {
    long = e.long ∙ s.long;
    done = λ o j ho hj.
        e.done o j ho hj
        ∙ ap f.coding.val (ap (λ x. f.ops.add x (sum f.ops 8 (λ i. term_at f weight src at (first + o) j (n * 8 + i)))) (ap f.coding.elem (s.done o j ho hj) ∙ W.field.coded.elem_val _)
        ∙ sym (sum_split f.ops W.field.laws (n * 8) 8 (term_at f weight src at (first + o) j))
        ∙ ap (λ (y : ℕ). sum f.ops y (term_at f weight src at (first + o) j)) next_rows);
  }
    where
      next_rows : n * 8 + 8 ≡ (n + 1) * 8
      next_rows = omega arith
