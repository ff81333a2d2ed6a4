-- The factors made ready.
-- Assumes nothing.
use mathlib.Core.Path.{◌≡◌, refl, sym, ap, ap₂, ◌∙◌, subst}
use mathlib.Core.List.{List}
use Prim.Native.Nat.{ℕ, zero, suc, ◌+◌, ◌-◌, ◌*◌, ◌/◌, ◌%◌, ◌^◌, ◌<◌, ◌≤◌}
use native.Mathlib.Nat.{add-mul, mul_assoc, mod-lt, div-one}
use native.Mathlib.Decide.{ℕ_discrete}
use native.Mathlib.Omega.{arith}
use mir.Val.{Fits}
use mir.Syntax.{w8}
use lib.Dec.{lit<}
use lib.ListN.{length, get_or}
use Rattle.symbol.specs.Elem.{elem, ops, z, gf256}
use Rattle.symbol.proofs.Halves.{elem_half}
use Rattle.kernel.proofs.Rows.{row_before}
use Rattle.batch_kernel.specs.Ready.{climbed, weight_at, Column}
use Rattle.batch_kernel.specs.Inner.{pick_of, pick_at, PickedRow, PickedFour, Prepared}
use Rattle.batch_kernel.proofs.Weights.{climbed_congr}

pub pick_value : (x y v u k a b c d : ℕ) → a ≡ x / 2 ^ k % 2 → b ≡ y / 2 ^ k % 2 → c ≡ v / 2 ^ k % 2 → d ≡ u / 2 ^ k % 2 → a + 2 * b + 4 * c + 8 * d ≡ pick_of x y v u k
unfolding pick_of
pick_value x y v u k a b c d ea eb ec ed = rw (ea, eb, ec, ed) refl

pub pick_small : (a b c d : ℕ) → a < 2 → b < 2 → c < 2 → d < 2 → a + 2 * b + 4 * c + 8 * d < 16
pick_small a b c d ha hb hc hd = omega arith

pub pick_at_is : (g : List ℕ) (at wide k r : ℕ) → r ≡ pick_of (get_or g at 0) (get_or g (at + wide) 0) (get_or g (at + 2 * wide) 0) (get_or g (at + 3 * wide) 0) k → r ≡ pick_at g at wide k
unfolding pick_at
pick_at_is g at wide k r e = e

module _ (g : List ℕ) (at wide to : ℕ) (was : List ℕ) where
  pub four_more : (is next : List ℕ) (k : ℕ) → PickedFour g at wide to k was is → PickedRow g at wide k (to + k * wide) wide is next → PickedFour g at wide to (k + 1) was next
  four_more is next k m r = record {
    long = r.long ∙ m.long;
    done = λ p o h l. go p o h l (ℕ_discrete p k);
    small = λ p o h l. less p o h l (ℕ_discrete p k);
    low = λ i h. r.low i (omega arith) ∙ m.low i h;
  }
    where
      go : (p o : ℕ) → p < k + 1 → o < wide → Dec (p ≡ k) → get_or next (to + p * wide + o) 0 ≡ pick_at g (at + o) wide p
      go p o h l (yes q) = subst (λ (y : ℕ). get_or next (to + y * wide + o) 0 ≡ pick_at g (at + o) wide y) (sym q) (r.done o l)
      go p o h l (no q) = r.low (to + p * wide + o) (let a = row_before p k wide (omega arith) in omega arith) ∙ m.done p o (omega arith) l

      less : (p o : ℕ) → p < k + 1 → o < wide → Dec (p ≡ k) → get_or next (to + p * wide + o) 0 < 16
      less p o h l (yes q) = subst (λ (y : ℕ). get_or next (to + y * wide + o) 0 < 16) (sym q) (r.small o l)
      less p o h l (no q) = subst (λ (y : ℕ). y < 16) (sym (r.low (to + p * wide + o) (let a = row_before p k wide (omega arith) in omega arith))) (m.small p o (omega arith) l)

module _ (g : List ℕ) (wide : ℕ) (was : List ℕ) where
  pub all_more : (is next : List ℕ) (q : ℕ) → Prepared g wide q was is → PickedFour g (q * (4 * wide)) wide (q * (8 * wide)) 8 is next → Prepared g wide (q + 1) was next
  all_more is next q m r = record {
    long = r.long ∙ m.long;
    done = λ p k o h hk l. go p k o h hk l (ℕ_discrete p q);
    small = λ p k o h hk l. less p k o h hk l (ℕ_discrete p q);
  }
    where
      before : (p k o : ℕ) → p < q + 1 → ¬ (p ≡ q) → k < 8 → o < wide → p * (8 * wide) + k * wide + o < q * (8 * wide)
      before p k o h d hk l = let a = row_before p q (8 * wide) (omega arith) in let b = row_before k 8 wide hk in omega arith

      go : (p k o : ℕ) → p < q + 1 → k < 8 → o < wide → Dec (p ≡ q) → get_or next (p * (8 * wide) + k * wide + o) 0 ≡ pick_at g (p * (4 * wide) + o) wide k
      go p k o h hk l (yes e) = subst (λ (y : ℕ). get_or next (y * (8 * wide) + k * wide + o) 0 ≡ pick_at g (y * (4 * wide) + o) wide k) (sym e) (r.done k o hk l)
      go p k o h hk l (no d) = r.low (p * (8 * wide) + k * wide + o) (before p k o h d hk l) ∙ m.done p k o (omega arith) hk l

      less : (p k o : ℕ) → p < q + 1 → k < 8 → o < wide → Dec (p ≡ q) → get_or next (p * (8 * wide) + k * wide + o) 0 < 16
      less p k o h hk l (yes e) = subst (λ (y : ℕ). get_or next (y * (8 * wide) + k * wide + o) 0 < 16) (sym e) (r.small k o hk l)
      less p k o h hk l (no d) = subst (λ (y : ℕ). y < 16) (sym (r.low (p * (8 * wide) + k * wide + o) (before p k o h d hk l))) (m.small p k o (omega arith) hk l)

-- ---- what is made ready weighs as the factors do
-- the value of a byte's bits is the byte
byte_climbed : (y n : ℕ) → y < 256 → n < 8 → climbed gf256 (λ k. elem (y / 2 ^ k % 2)) n ≡ elem (y / 2 ^ (7 - n))
unfolding climbed
byte_climbed y zero h l = let e : y / 128 % 2 ≡ y / 128 = omega arith in ap elem e
byte_climbed y (suc n) h l =
    ap (λ x. ops.add (ops.mul x z) (elem (y / 2 ^ (6 - n) % 2))) (byte_climbed y n h (omega arith))
    ∙ ap₂ (λ (a b : ℕ). ops.add (ops.mul (elem (y / 2 ^ a)) z) (elem (y / 2 ^ b % 2))) up (sym down)
    ∙ sym (elem_half y (suc (6 - n)) h (omega arith)) ∙ ap (λ (a : ℕ). elem (y / 2 ^ a)) (down ∙ last)
  where
    up : 7 - n ≡ suc (6 - n)
    up = omega arith

    down : suc (6 - n) - 1 ≡ 6 - n
    down = omega arith

    last : 6 - n ≡ 7 - suc n
    last = omega arith

-- bit i of what four bits pick
picked_bit : (a b c d i : ℕ) → a < 2 → b < 2 → c < 2 → d < 2 → (P : ℕ → Type 0) → i < 4 → (i ≡ 0 → P a) → (i ≡ 1 → P b) → (i ≡ 2 → P c) → (i ≡ 3 → P d) → P ((a + 2 * b + 4 * c + 8 * d) / 2 ^ i % 2)
picked_bit a b c d zero ha hb hc hd P h p0 p1 p2 p3 = let e : a ≡ (a + 2 * b + 4 * c + 8 * d) / 1 % 2 = omega arith in subst P e (p0 refl)
picked_bit a b c d (suc zero) ha hb hc hd P h p0 p1 p2 p3 = let e : b ≡ (a + 2 * b + 4 * c + 8 * d) / 2 % 2 = omega arith in subst P e (p1 refl)
picked_bit a b c d (suc (suc zero)) ha hb hc hd P h p0 p1 p2 p3 = let e : c ≡ (a + 2 * b + 4 * c + 8 * d) / 4 % 2 = omega arith in subst P e (p2 refl)
picked_bit a b c d (suc (suc (suc zero))) ha hb hc hd P h p0 p1 p2 p3 = let e : d ≡ (a + 2 * b + 4 * c + 8 * d) / 8 % 2 = omega arith in subst P e (p3 refl)
picked_bit a b c d (suc (suc (suc (suc i)))) ha hb hc hd P h p0 p1 p2 p3 = absurd (omega arith)

module _ (g : List ℕ) (wide n : ℕ) (was is : List ℕ) (s : Prepared g wide n was is) where
  bits_at : (t k o : ℕ) → t < n * 4 → k < 8 → o < wide → get_or is ((t / 4 * 8 + k) * wide + o) 0 / 2 ^ (t % 4) % 2 ≡ get_or g (t * wide + o) 0 / 2 ^ k % 2
  unfolding pick_at pick_of
  bits_at t k o h hk ho =
      ap (λ (y : ℕ). get_or is y 0 / 2 ^ (t % 4) % 2) spot ∙ ap (λ (y : ℕ). y / 2 ^ (t % 4) % 2) (s.done (t / 4) k o (omega arith) hk ho)
      ∙ picked_bit (bit (at + o)) (bit (at + o + wide)) (bit (at + o + 2 * wide)) (bit (at + o + 3 * wide)) (t % 4) (less (at + o)) (less (at + o + wide)) (less (at + o + 2 * wide)) (less (at + o + 3 * wide))
      (λ (y : ℕ). y ≡ get_or g (t * wide + o) 0 / 2 ^ k % 2) (omega arith)
      (λ e. here (at + o) (let q = row 0 e in omega arith)) (λ e. here (at + o + wide) (let q = row 1 e in omega arith))
      (λ e. here (at + o + 2 * wide) (let q = row 2 e in omega arith)) (λ e. here (at + o + 3 * wide) (let q = row 3 e in omega arith))
    where
      spot : (t / 4 * 8 + k) * wide + o ≡ t / 4 * (8 * wide) + k * wide + o
      spot = let a = add-mul (t / 4 * 8) k wide in let b = mul_assoc (t / 4) 8 wide in omega arith

      at : ℕ
      at = t / 4 * (4 * wide)

      bit : ℕ → ℕ
      bit i = get_or g i 0 / 2 ^ k % 2

      less : (i : ℕ) → bit i < 2
      less i = mod-lt _ (lit< tt)

      row : (i : ℕ) → t % 4 ≡ i → t * wide ≡ t / 4 * (4 * wide) + i * wide
      row i e =
          let u : t ≡ t / 4 * 4 + i = omega arith in
          ap (λ (y : ℕ). y * wide) u ∙ add-mul (t / 4 * 4) i wide ∙ ap (λ (y : ℕ). y + i * wide) (mul_assoc (t / 4) 4 wide)

      here : (i : ℕ) → i ≡ t * wide + o → bit i ≡ get_or g (t * wide + o) 0 / 2 ^ k % 2
      here i e = ap (λ (y : ℕ). get_or g y 0 / 2 ^ k % 2) e

  pub weight_prepared : ((i : ℕ) → Fits w8 (get_or g i 0)) → (t o : ℕ) → t < n * 4 → o < wide → weight_at gf256 is wide t o ≡ elem (get_or g (t * wide + o) 0)
  unfolding weight_at
  weight_prepared bytes t o h ho =
      climbed_congr _ _ 7 (omega arith) (λ k hk. ap elem (bits_at t k o h hk ho))
      ∙ byte_climbed (get_or g (t * wide + o) 0) 7 (bytes (t * wide + o)).fits (omega arith) ∙ ap elem (div-one (get_or g (t * wide + o) 0))

  pub column_prepared : n * (8 * wide) ≤ length was → (q first o : ℕ) → q * 2 + 1 < n → first + o < wide → Column is (q * 16 * wide + first + o) wide
  column_prepared room q first o h ho = record {
    inside = λ k hk. let a = row_before (q * 2 + k / 8) n (8 * wide) (omega arith) in let b = row_before (k % 8) 8 wide (omega arith) in let e = spot k in let l = s.long in omega arith;
    small = λ k hk. subst (λ (y : ℕ). get_or is y 0 < 16) (sym (spot k)) (s.small (q * 2 + k / 8) (k % 8) (first + o) (omega arith) (omega arith) ho);
  }
    where
      spot : (k : ℕ) → q * 16 * wide + first + o + k * wide ≡ (q * 2 + k / 8) * (8 * wide) + k % 8 * wide + (first + o)
      spot k =
          let u : k * wide ≡ (k / 8 * 8 + k % 8) * wide = (let v : k ≡ k / 8 * 8 + k % 8 = omega arith in ap (λ (y : ℕ). y * wide) v) in
          let a = add-mul (k / 8 * 8) (k % 8) wide in
          let b = mul_assoc (k / 8) 8 wide in
          let c = add-mul (q * 2) (k / 8) (8 * wide) in
          let d = mul_assoc (q * 2) 8 wide in
          let e : q * 16 * wide ≡ q * 2 * 8 * wide = (let w : q * 16 ≡ q * 2 * 8 = omega arith in ap (λ (y : ℕ). y * wide) w) in
          omega arith
