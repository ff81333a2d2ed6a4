-- Fewer symbols cannot tell all words apart: two words of n symbols have the same m symbols by any rule, where m is below n.
-- Assumes nothing.
use mathlib.Core.Path.{◌≡◌, refl, sym, ◌∙◌, ap, ap₂}
use Prim.Native.Nat.{ℕ, zero, suc, ◌+◌, ◌*◌, ◌/◌, ◌%◌, ◌^◌, ◌<◌}
use native.Mathlib.Nat.{pow-suc, pow-zero, mul_comm, mod-one, mod-eq_of_lt, mul-le-mul_left}
use native.Mathlib.Decide.{ℕ_discrete}
use native.Mathlib.Omega.{arith}
use lib.Arith.{digits_lt, mod-mul}
use Rattle.algebra.specs.Coding.{Coding, Coded}
use Rattle.algebra.specs.Group.{skip, unskip}
use Rattle.algebra.specs.Layers.{digit}
use Rattle.algebra.proofs.Points.{digits_same}
use Rattle.algebra.proofs.Skip.{skip_unskip}
use Rattle.algebra.proofs.Free.{unskip_below}
use Rattle.algebra.proofs.Layers.{power_pos, digit_below}
use Rattle.algebra.proofs.Coding.{elem_same}

-- a test at all numbers below m: it holds at all, or fails at one
pub bounded : (P : ℕ → Type 0) → ((i : ℕ) → Dec (P i)) → (Q : Type 0) (m : ℕ) → (((i : ℕ) → i < m → P i) → Q) → ((i : ℕ) → i < m → ¬ (P i) → Q) → Q
bounded P dec Q zero f g = f (λ i h. absurd (omega arith))
bounded P dec Q (suc m) f g = go (dec m) (λ f'. bounded P dec Q m f' (λ i h n. g i (omega arith) n))
  where
    go : Dec (P m) → ((((i : ℕ) → i < m → P i) → Q) → Q) → Q
    go (no n) ih = g m (omega arith) n
    go (yes p) ih = ih (λ all. f (λ i h. last i h all (ℕ_discrete i m)))
      where
        last : (i : ℕ) → i < suc m → ((i : ℕ) → i < m → P i) → Dec (i ≡ m) → P i
        last i h all (yes e) = rw e p
        last i h all (no e) = all i (omega arith)

pub record Collision (f : ℕ → ℕ) (n : ℕ) : Type 0 where
  pub i : ℕ
  pub j : ℕ
  pub less : i < j
  pub inside : j < n
  pub same : f i ≡ f j

flip : (P : Type 0) → Dec P → Dec (¬ P)
flip P (yes p) = no (λ n. n p)
flip P (no n) = yes n

stable : (P : Type 0) → Dec P → ¬ (¬ P) → P
stable P (yes p) n = p
stable P (no m) n = absurd (n m)

pub pigeon : (b : ℕ) (f : ℕ → ℕ) → ((i : ℕ) → i < suc b → f i < b) → Collision f (suc b)
pigeon zero f h = absurd (omega (arith, h 0 (omega arith)))
pigeon (suc b) f h = bounded (λ i. ¬ (f i ≡ f (suc b))) (λ i. flip _ (ℕ_discrete (f i) (f (suc b)))) (Collision f (suc (suc b))) (suc b)
    (λ apart. lift apart (pigeon b (λ i. unskip (f (suc b)) (f i)) (λ i l. unskip_below (f (suc b)) (f i) b (h (suc b) (omega arith)) (h i (omega arith)) (apart i l))))
    (λ i l n. record { i = i; j = suc b; less = l; inside = omega arith; same = stable _ (ℕ_discrete (f i) (f (suc b))) n })
  where
    lift : ((i : ℕ) → i < suc b → ¬ (f i ≡ f (suc b))) → Collision (λ i. unskip (f (suc b)) (f i)) (suc b) → Collision f (suc (suc b))
    lift apart c = record {
      i = c.i;
      j = c.j;
      less = c.less;
      inside = omega (arith, c.inside);
      same =
          sym (skip_unskip (f (suc b)) (f c.i) (apart c.i (omega (arith, c.less, c.inside)))) ∙ ap (skip (f (suc b))) c.same
          ∙ skip_unskip (f (suc b)) (f c.j) (apart c.j c.inside);
    }

-- m digits as one number
number : ℕ → ℕ → (ℕ → ℕ) → ℕ
number q zero f = 0
number q (suc m) f = f m * q ^ m + number q m f

number_below : (q m : ℕ) (f : ℕ → ℕ) → ((i : ℕ) → i < m → f i < q) → number q m f < q ^ m
unfolding number
number_below q zero f h = rw pow-zero (omega arith)
number_below q (suc m) f h = rw (pow-suc q m ∙ mul_comm (q ^ m) q) (digits_lt (h m (omega arith)) (number_below q m f (λ i l. h i (omega arith))))

number_same : (q m : ℕ) (f g : ℕ → ℕ) → ((i : ℕ) → i < m → f i < q) → ((i : ℕ) → i < m → g i < q) → number q m f ≡ number q m g → (i : ℕ) → i < m → f i ≡ g i
unfolding number
number_same q zero f g hf hg e i l = absurd (omega arith)
number_same q (suc m) f g hf hg e i l = go (ℕ_discrete i m) (λ d. number_same q m f g (λ i l. hf i (omega arith)) (λ i l. hg i (omega arith)) d i)
  where
    two : (f m ≡ g m) × (number q m f ≡ number q m g)
    two = digits_same (q ^ m) (f m) (g m) (number q m f) (number q m g) (number_below q m f (λ i l. hf i (omega arith))) (number_below q m g (λ i l. hg i (omega arith))) e

    go : Dec (i ≡ m) → (number q m f ≡ number q m g → i < m → f i ≡ g i) → f i ≡ g i
    go (yes z) ih = rw z two.0
    go (no z) ih = ih two.1 (omega arith)

number_congr : (q m : ℕ) (f g : ℕ → ℕ) → ((i : ℕ) → i < m → f i ≡ g i) → number q m f ≡ number q m g
unfolding number
number_congr q zero f g h = refl
number_congr q (suc m) f g h = ap₂ (λ x y. x * q ^ m + y) (h m (omega arith)) (number_congr q m f g (λ i l. h i (omega arith)))

number_digits : (q m n : ℕ) → 0 < q → number q m (digit q n) ≡ n % q ^ m
unfolding number digit
number_digits q zero n h = sym (ap (λ x. n % x) (pow-zero q) ∙ mod-one n)
number_digits q (suc m) n h = ap (λ x. n / q ^ m % q * q ^ m + x) (number_digits q m n h) ∙ sym (mod-mul n h (power_pos q m h)) ∙ ap (λ x. n % x) (mul_comm q (q ^ m) ∙ sym (pow-suc q m))

more : (q : ℕ) → 1 < q → (m n : ℕ) → m < n → q ^ m < q ^ n
more q h m zero l = absurd (omega arith)
more q h m (suc n) l = go (ℕ_discrete m n) (λ p. more q h m n p)
  where
    grows : q ^ n < q ^ suc n
    grows = rw (pow-suc q n) (omega (arith, mul-le-mul_left (q ^ n) h, power_pos q n (omega arith)))

    go : Dec (m ≡ n) → (m < n → q ^ m < q ^ n) → q ^ m < q ^ suc n
    go (yes e) ih = rw e grows
    go (no e) ih = omega (arith, ih (omega arith), grows)

pub record Indistinct {A : Type 0} (n m : ℕ) (rule : (ℕ → A) → ℕ → A) : Type 0 where
  pub left : ℕ → A
  pub right : ℕ → A
  pub at : ℕ
  pub inside : at < n
  pub differ : ¬ (left at ≡ right at)
  pub alike : (i : ℕ) → i < m → rule left i ≡ rule right i

module _ {A : Type 0} (k : Coding A) (ok : Coded k) (two : 1 < k.size) where
  word : ℕ → ℕ → A
  word n i = k.elem (digit k.size n i)

  -- what a rule sends of the word that a number stands for, as a number
  sent : ℕ → ((ℕ → A) → ℕ → A) → ℕ → ℕ
  sent m rule x = number k.size m (λ i. k.val (rule (word x) i))

  word_differ : (n x y : ℕ) → x < y → y < k.size ^ n → (Q : Type 0) → ((i : ℕ) → i < n → ¬ (word x i ≡ word y i) → Q) → Q
  unfolding word
  word_differ n x y h l Q f = bounded (λ i. digit k.size x i ≡ digit k.size y i) (λ i. ℕ_discrete _ _) Q n
      (λ all. absurd (equal all))
      (λ i p d. f i p (λ e. d (elem_same k ok _ _ (digit_below k.size (omega arith) x i) (digit_below k.size (omega arith) y i) e)))
    where
      equal : ((i : ℕ) → i < n → digit k.size x i ≡ digit k.size y i) → ⊥
      equal all = omega (
        arith,
        sym (mod-eq_of_lt (below x (omega arith))) ∙ sym (number_digits k.size n x (omega arith)) ∙ number_congr k.size n _ _ all
            ∙ number_digits k.size n y (omega arith) ∙ mod-eq_of_lt l,
      )
        where
          below : (x : ℕ) → x < y → x < k.size ^ n
          below x h = omega (arith, l)

  pub indistinct : (n m : ℕ) → m < n → (rule : (ℕ → A) → ℕ → A) → Indistinct n m rule
  unfolding sent
  indistinct n m h rule = word_differ n c.i c.j c.less (omega (arith, c.inside, more k.size two m n h)) (Indistinct n m rule) (λ i l d. record {
    left = word c.i;
    right = word c.j;
    at = i;
    inside = l;
    differ = d;
    alike = λ t p. sym (ok.elem_val _) ∙ ap k.elem (number_same k.size m _ _ (λ i l. ok.val_below _) (λ i l. ok.val_below _) c.same t p) ∙ ok.elem_val _;
  })
    where
      c : Collision (sent m rule) (suc (k.size ^ m))
      c = pigeon (k.size ^ m) (sent m rule) (λ i l. number_below k.size m _ (λ t p. ok.val_below _))
