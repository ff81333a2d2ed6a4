-- Four symbols times their factors, bit after bit.
-- Assumes nothing.
use mathlib.Core.Path.{◌≡◌, sym, ap, ap₂, ◌∙◌, subst}
use mathlib.Core.List.{List}
use Prim.Native.Nat.{ℕ, suc, ◌+◌, ◌-◌, ◌*◌, ◌/◌, ◌%◌, ◌^◌, ◌<◌, ◌≤◌}
use native.Mathlib.Nat.{zero-add, div-div-eq-div-mul, div-le_self, div-eq_of_lt, div-one, pow-suc}
use native.Mathlib.Omega.{arith}
use lib.ListN.{length, get_or, set}
use lib.Bits.{bit_xor}
use Rattle.symbol.specs.Arithmetic.{◌⊕◌, ◌⊗◌, mulz}
use Rattle.symbol.proofs.Xor.{⊕-swap, ⊕-zero, ⊕-lt}
use Rattle.symbol.proofs.Laws.{⊕-⊗, ⊗-⊕, ⊗-zero, ⊗-assoc, ⊗-lt}
use Rattle.symbol.proofs.Halves.{twice_times, masked_times, half}
use Rattle.kernel.specs.Inner.{Run}
use Rattle.kernel.proofs.Runs.{run_more}
use Rattle.weigh.specs.Inner.{mix, three, five}

-- a symbol times a factor's higher bits, doubled, and times the next bit
next : (a p k : ℕ) → p < 256 → 0 < k → a ⊗ (p / 2 ^ k) ⊗ 2 ⊕ a ⊗ (p / 2 ^ (k - 1) % 2) ≡ a ⊗ (p / 2 ^ (k - 1))
next a p k h g =
    ap (λ (x : ℕ). x ⊕ a ⊗ (p / 2 ^ (k - 1) % 2)) (⊗-assoc a (p / 2 ^ k) 2 ∙ ap (λ (x : ℕ). a ⊗ (x ⊗ 2)) lower)
    ∙ sym (⊗-⊕ a (p / 2 ^ (k - 1) / 2 ⊗ 2) (p / 2 ^ (k - 1) % 2)) ∙ ap (λ (x : ℕ). a ⊗ x) (half (p / 2 ^ (k - 1)) (let e = div-le_self p (2 ^ (k - 1)) in omega arith))
  where
    lower : p / 2 ^ k ≡ p / 2 ^ (k - 1) / 2
    lower = (let e : k ≡ suc (k - 1) = omega arith in ap (λ n. p / 2 ^ n) e) ∙ ap (λ n. p / n) (pow-suc 2 (k - 1)) ∙ sym (div-div-eq-div-mul p (2 ^ (k - 1)) 2)

-- what is done of a sum when the bits from k on are
pub upper : ℕ → ℕ → ℕ → ℕ → ℕ → ℕ → ℕ → ℕ → ℕ → ℕ
upper a b c d p q r s k = mix a b c d (p / 2 ^ k) (q / 2 ^ k) (r / 2 ^ k) (s / 2 ^ k)

module _ (a b c d p q r s : ℕ) where
  pub mixed_none : p < 256 → q < 256 → r < 256 → s < 256 → 0 ≡ upper a b c d p q r s 8
  unfolding upper mix
  mixed_none hp hq hr hs = sym (ap₂ ◌⊕◌ (ap₂ ◌⊕◌ (nil a p hp) (nil b q hq)) (ap₂ ◌⊕◌ (nil c r hr) (nil d s hs)) ∙ ap₂ ◌⊕◌ (⊕-zero 0) (⊕-zero 0) ∙ ⊕-zero 0)
    where
      nil : (a p : ℕ) → p < 256 → a ⊗ (p / 2 ^ 8) ≡ 0
      nil a p h = ap (λ (x : ℕ). a ⊗ x) (div-eq_of_lt h) ∙ ⊗-zero a

  upper_lt : (k : ℕ) → upper a b c d p q r s k < 256
  unfolding upper mix
  upper_lt k = ⊕-lt (⊕-lt (⊗-lt a (p / 2 ^ k)) (⊗-lt b (q / 2 ^ k))) (⊕-lt (⊗-lt c (r / 2 ^ k)) (⊗-lt d (s / 2 ^ k)))

  doubled : (v k v₂ : ℕ) → v ≡ upper a b c d p q r s k → v₂ ≡ mulz v → v₂ ≡ upper a b c d p q r s k ⊗ 2
  doubled v k v₂ e e₂ = twice_times v v₂ (subst (λ n. n < 256) (sym e) (upper_lt k)) e₂ ∙ ap (λ n. n ⊗ 2) e

  pub mixed_more : (v k v₂ w x y z : ℕ) → a < 256 → b < 256 → c < 256 → d < 256 → p < 256 → q < 256 → r < 256 → s < 256 → 0 < k → v ≡ upper a b c d p q r s k → v₂ ≡ mulz v →
      w ≡ p / 2 ^ (k - 1) % 2 * a → x ≡ q / 2 ^ (k - 1) % 2 * b → y ≡ r / 2 ^ (k - 1) % 2 * c → z ≡ s / 2 ^ (k - 1) % 2 * d →
      bit_xor v₂ (bit_xor (bit_xor w x) (bit_xor y z)) ≡ upper a b c d p q r s (k - 1)
  unfolding upper mix ◌⊕◌
  mixed_more v k v₂ w x y z ha hb hc hd hp hq hr hs g e e₂ ew ex ey ez =
      ap₂ ◌⊕◌ (doubled v k v₂ e e₂ ∙ apart (a ⊗ (p / 2 ^ k)) (b ⊗ (q / 2 ^ k)) (c ⊗ (r / 2 ^ k)) (d ⊗ (s / 2 ^ k)))
      (ap₂ ◌⊕◌ (ap₂ ◌⊕◌ (masked_times a p (k - 1) w ha ew) (masked_times b q (k - 1) x hb ex)) (ap₂ ◌⊕◌ (masked_times c r (k - 1) y hc ey) (masked_times d s (k - 1) z hd ez)))
      ∙ order (a ⊗ (p / 2 ^ k) ⊗ 2) (b ⊗ (q / 2 ^ k) ⊗ 2) (c ⊗ (r / 2 ^ k) ⊗ 2) (d ⊗ (s / 2 ^ k) ⊗ 2) _ _ _ _
      ∙ ap₂ ◌⊕◌ (ap₂ ◌⊕◌ (next a p k hp g) (next b q k hq g)) (ap₂ ◌⊕◌ (next c r k hr g) (next d s k hs g))
    where
      apart : (i j m n : ℕ) → (i ⊕ j ⊕ (m ⊕ n)) ⊗ 2 ≡ i ⊗ 2 ⊕ j ⊗ 2 ⊕ (m ⊗ 2 ⊕ n ⊗ 2)
      apart i j m n = ⊕-⊗ (i ⊕ j) (m ⊕ n) 2 ∙ ap₂ ◌⊕◌ (⊕-⊗ i j 2) (⊕-⊗ m n 2)

      order : (i j m n i' j' m' n' : ℕ) → i ⊕ j ⊕ (m ⊕ n) ⊕ (i' ⊕ j' ⊕ (m' ⊕ n')) ≡ i ⊕ i' ⊕ (j ⊕ j') ⊕ (m ⊕ m' ⊕ (n ⊕ n'))
      order i j m n i' j' m' n' = ⊕-swap (i ⊕ j) (m ⊕ n) (i' ⊕ j') (m' ⊕ n') ∙ ap₂ ◌⊕◌ (⊕-swap i j i' j') (⊕-swap m n m' n')

  pub mixed_end : (v k : ℕ) → v ≡ upper a b c d p q r s k → k ≤ 0 → v ≡ mix a b c d p q r s
  unfolding upper
  mixed_end v k e h = e ∙ (let z : k ≡ 0 = omega arith in ap (upper a b c d p q r s) z) ∙ whole
    where
      one : (n : ℕ) → n / 2 ^ 0 ≡ n
      one n = div-one n

      whole : upper a b c d p q r s 0 ≡ mix a b c d p q r s
      whole = ap₂ (λ m n. mix a b c d m n (r / 2 ^ 0) (s / 2 ^ 0)) (one p) (one q) ∙ ap₂ (λ m n. mix a b c d p q m n) (one r) (one s)

-- runs
pub three_more : (was is src : List ℕ) (from gap p q j len m : ℕ) → Run (three src from gap p q) was is 0 j → j < len → len ≤ length was →
    m ≡ mix (get_or src (from + gap + j) 0) (get_or src (from + gap + gap + j) 0) 0 0 p q 0 0 → Run (three src from gap p q) was (set is j (bit_xor (get_or src (from + j) 0) m)) 0 (j + 1)
unfolding three ◌⊕◌
three_more was is src from gap p q j len m r h l e =
    subst (λ n. Run (three src from gap p q) was (set is n (bit_xor (get_or src (from + j) 0) m)) 0 (j + 1)) (zero-add j)
    (run_more (three src from gap p q) was is 0 j _ r (omega arith) (ap (bit_xor (get_or src (from + j) 0)) e))

pub five_more : (was is src : List ℕ) (from gap p q r s j len m : ℕ) → Run (five src from gap p q r s) was is 0 j → j < len → len ≤ length was →
    m ≡ mix (get_or src (from + gap + j) 0) (get_or src (from + gap + gap + j) 0) (get_or src (from + gap + gap + gap + j) 0) (get_or src (from + gap + gap + gap + gap + j) 0) p q r s →
    Run (five src from gap p q r s) was (set is j (bit_xor (get_or src (from + j) 0) m)) 0 (j + 1)
unfolding five ◌⊕◌
five_more was is src from gap p q r s j len m u h l e =
    subst (λ n. Run (five src from gap p q r s) was (set is n (bit_xor (get_or src (from + j) 0) m)) 0 (j + 1)) (zero-add j)
    (run_more (five src from gap p q r s) was is 0 j _ u (omega arith) (ap (bit_xor (get_or src (from + j) 0)) e))
