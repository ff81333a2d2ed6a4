-- The numbers other than one, and two lists of values joined.
-- Assumes nothing.
use mathlib.Core.Path.{◌≡◌, sym, ◌∙◌, ap, ap₂}
use Prim.Native.Nat.{ℕ, zero, suc, pred, ◌+◌, ◌-◌, ◌≤◌, ◌<◌}
use native.Mathlib.Decide.{ℕ_discrete, dec_lt}
use native.Mathlib.Omega.{arith}
use Rattle.algebra.specs.Field.{Ops, Laws}
use Rattle.algebra.specs.Sum.{sum}
use Rattle.algebra.specs.Erasure.{choose}
use Rattle.algebra.specs.Group.{skip, unskip, join, digits_at}
use Rattle.algebra.proofs.Equal.{ltb_yes, ltb_no, eqb_same, eqb_other}
use Rattle.algebra.proofs.Ring.{add_comm, add_assoc}
use Rattle.algebra.proofs.Sum.{sum_suc, sum_zero, sum_congr}

pub skip_low : (h i : ℕ) → i < h → skip h i ≡ i
unfolding skip choose
skip_low h i l = ap (λ b. choose b i (suc i)) (ltb_yes l)

pub skip_high : (h i : ℕ) → h ≤ i → skip h i ≡ suc i
unfolding skip choose
skip_high h i l = ap (λ b. choose b i (suc i)) (ltb_no l)

-- what holds of i where i is below h, and of suc i where it is not, holds of skip h i
pub skip_ind : (P : ℕ → Type 0) (h i : ℕ) → (i < h → P i) → (h ≤ i → P (suc i)) → P (skip h i)
skip_ind P h i f g = go (dec_lt i h)
  where
    go : Dec (i < h) → P (skip h i)
    go (yes l) = rw (skip_low h i l) (f l)
    go (no l) = rw (skip_high h i (omega arith)) (g (omega arith))

pub skip_other : (h i : ℕ) → ¬ (skip h i ≡ h)
skip_other h i = skip_ind (λ x. ¬ (x ≡ h)) h i (λ l e. omega arith) (λ l e. omega arith)

pub skip_below : (h i n : ℕ) → i < n → skip h i < suc n
skip_below h i n l = skip_ind (λ x. x < suc n) h i (λ k. omega arith) (λ k. omega arith)

pub skip_apart : (h i j : ℕ) → skip h i ≡ skip h j → i ≡ j
skip_apart h i j = skip_ind (λ x. x ≡ skip h j → i ≡ j) h i
    (λ k. skip_ind (λ y. i ≡ y → i ≡ j) h j (λ l e. e) (λ l e. omega arith))
    (λ k. skip_ind (λ y. suc i ≡ y → i ≡ j) h j (λ l e. omega arith) (λ l e. omega arith))

pub unskip_low : (h x : ℕ) → x < h → unskip h x ≡ x
unfolding unskip choose
unskip_low h x l = ap (λ b. choose b x (pred x)) (ltb_yes l)

pub unskip_high : (h x : ℕ) → h ≤ x → unskip h x ≡ pred x
unfolding unskip choose
unskip_high h x l = ap (λ b. choose b x (pred x)) (ltb_no l)

pub skip_unskip : (h x : ℕ) → ¬ (x ≡ h) → skip h (unskip h x) ≡ x
skip_unskip h x d = go (dec_lt x h)
  where
    go : Dec (x < h) → skip h (unskip h x) ≡ x
    go (yes l) = ap (skip h) (unskip_low h x l) ∙ skip_low h x l
    go (no l) = ap (skip h) (unskip_high h x (omega arith)) ∙ skip_high h (pred x) (omega arith) ∙ omega arith

pub unskip_skip : (h i : ℕ) → unskip h (skip h i) ≡ i
unskip_skip h i = go (dec_lt i h)
  where
    go : Dec (i < h) → unskip h (skip h i) ≡ i
    go (yes l) = ap (unskip h) (skip_low h i l) ∙ unskip_low h i l
    go (no l) = ap (unskip h) (skip_high h i (omega arith)) ∙ unskip_high h (suc i) (omega arith) ∙ omega arith

pub digits_host : (h : ℕ) (a : ℕ → ℕ) (b : ℕ) → digits_at h a b h ≡ b
unfolding digits_at choose
digits_host h a b = ap (λ x. choose x b (a h)) (eqb_same h)

pub digits_other : (h : ℕ) (a : ℕ → ℕ) (b i : ℕ) → ¬ (i ≡ h) → digits_at h a b i ≡ a i
unfolding digits_at choose
digits_other h a b i d = ap (λ x. choose x b (a i)) (eqb_other d)

module _ {A : Type 0} (s : ℕ) (f g : ℕ → A) where
  pub join_low : (x : ℕ) → x < s → join s f g x ≡ f x
  unfolding join choose
  join_low x l = ap (λ b. choose b (f x) (g (x - s))) (ltb_yes l)

  pub join_high : (x : ℕ) → s ≤ x → join s f g x ≡ g (x - s)
  unfolding join choose
  join_high x l = ap (λ b. choose b (f x) (g (x - s))) (ltb_no l)

  pub join_add : (i : ℕ) → join s f g (s + i) ≡ g i
  join_add i = join_high (s + i) (omega arith) ∙ ap g (omega arith)

module _ {A : Type 0} (o : Ops A) (L : Laws o) where
  open o use {add as ◌⊕◌, mul as ◌⊗◌, zero as 𝟘}

  infixl 60 ◌⊕◌
  -- a sum, with the term of h apart
  pub sum_skip : (n h : ℕ) (f : ℕ → A) → h < suc n → sum o (suc n) f ≡ f h ⊕ sum o n (λ j. f (skip h j))
  sum_skip zero h f l = sum_suc o 0 f ∙ ap₂ ◌⊕◌ (sum_zero o f) (ap f (omega arith)) ∙ add_comm o L 𝟘 (f h) ∙ ap (λ x. f h ⊕ x) (sym (sum_zero o _))
  sum_skip (suc n) h f l = sum_suc o (suc n) f ∙ go (ℕ_discrete h (suc n)) (λ k. sum_skip n h f k)
    where
      go : Dec (h ≡ suc n) → (h < suc n → sum o (suc n) f ≡ f h ⊕ sum o n (λ j. f (skip h j))) →
          sum o (suc n) f ⊕ f (suc n) ≡ f h ⊕ sum o (suc n) (λ j. f (skip h j))
      go (yes e) ih = add_comm o L (sum o (suc n) f) (f (suc n)) ∙ ap₂ ◌⊕◌ (ap f (sym e)) (sum_congr o (suc n) _ _ (λ j k. ap f (sym (skip_low h j (omega arith)))))
      go (no d) ih =
          ap (λ x. x ⊕ f (suc n)) (ih (omega arith)) ∙ add_assoc o L (f h) (sum o n (λ j. f (skip h j))) (f (suc n))
          ∙ ap (λ x. f h ⊕ x) (ap (λ x. sum o n (λ j. f (skip h j)) ⊕ x) (ap f (sym (skip_high h n (omega arith)))) ∙ sym (sum_suc o n (λ j. f (skip h j))))

  pub sum_apart : (n h : ℕ) (f : ℕ → A) → h < n → sum o n f ≡ f h ⊕ sum o (n - 1) (λ j. f (skip h j))
  sum_apart zero h f l = absurd (omega arith)
  sum_apart (suc n) h f l = sum_skip n h f l ∙ ap (λ k. f h ⊕ sum o k (λ j. f (skip h j))) (less n)
    where
      less : (n : ℕ) → n ≡ suc n - 1
      less n = omega arith
