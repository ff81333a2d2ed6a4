-- The list of the numbers below n for which a test fails.
-- Assumes nothing.
use mathlib.Core.Path.{◌≡◌, refl, sym, ap, ◌∙◌, subst}
use mathlib.Core.Bool.{Bool, true, false, cond, false≢true}
use mathlib.Core.List.{List, [], ◌∷◌, ◌++◌}
use Prim.Native.Nat.{ℕ, zero, suc, ◌+◌, ◌<◌, ◌≤◌}
use native.Mathlib.Numerals.{add-one}
use native.Mathlib.Decide.{ℕ_discrete}
use native.Mathlib.Omega.{arith}
use lib.ListN.{length, get_or, set, drop, length-append, get_or-append}
use lib.Seq.{get_or_at, set_at, drop-cons, append_snoc}
use Rattle.lists.specs.Lists.{all_below, strictly_rising}
use Rattle.lists.proofs.Numbered.{below_true, RisingTo, rising_true}
use Rattle.recover.specs.Inner.{Kept}
use Rattle.gather.specs.Gathering.{missing_of}

module _ (p : ℕ → Bool) where
  -- one number more
  pub missing_there : (n : ℕ) → p n ≡ true → missing_of p (suc n) ≡ missing_of p n
  unfolding missing_of
  missing_there n e = ap (λ b. cond b (missing_of p n) (missing_of p n ++ (n ∷ []))) e

  pub missing_gone : (n : ℕ) → p n ≡ false → missing_of p (suc n) ≡ missing_of p n ++ (n ∷ [])
  unfolding missing_of
  missing_gone n e = ap (λ b. cond b (missing_of p n) (missing_of p n ++ (n ∷ []))) e

  pub missing_none : missing_of p 0 ≡ []
  unfolding missing_of
  missing_none = refl

  -- what holds of the list by steps
  pub missing_ind : (P : ℕ → List ℕ → Type 0) → P 0 [] → ((n : ℕ) (m : List ℕ) → P n m → p n ≡ true → P (suc n) m) →
      ((n : ℕ) (m : List ℕ) → P n m → p n ≡ false → P (suc n) (m ++ (n ∷ []))) → (n : ℕ) → P n (missing_of p n)
  missing_ind P a f g zero = subst (P 0) (sym missing_none) a
  missing_ind P a f g (suc n) = go (p n) refl (missing_ind P a f g n)
    where
      go : (b : Bool) → p n ≡ b → P n (missing_of p n) → P (suc n) (missing_of p (suc n))
      go true e h = subst (P (suc n)) (sym (missing_there n e)) (f n (missing_of p n) h e)
      go false e h = subst (P (suc n)) (sym (missing_gone n e)) (g n (missing_of p n) h e)

snoc_length : (m : List ℕ) (n : ℕ) → length (m ++ (n ∷ [])) ≡ length m + 1
snoc_length m n = length-append m (n ∷ [])

snoc_old : (m : List ℕ) (n k : ℕ) → k < length m → get_or (m ++ (n ∷ [])) k 0 ≡ get_or m k 0
snoc_old m n k h = get_or-append m (n ∷ []) 0 k h

snoc_last : (m : List ℕ) (n k : ℕ) → k ≡ length m → get_or (m ++ (n ∷ [])) k 0 ≡ n
snoc_last m n k e = get_or_at m n [] 0 k (sym e)

module _ (p : ℕ → Bool) where
  -- there are at most n of them, all below n and rising
  pub missing_few : (n : ℕ) → length (missing_of p n) ≤ n
  missing_few = missing_ind p (λ n m. length m ≤ n) (omega arith) (λ n m h e. omega arith)
      (λ n m h e. let q = snoc_length m n in omega arith)

  below : (n : ℕ) → (k : ℕ) → k < length (missing_of p n) → get_or (missing_of p n) k 0 < n
  below = missing_ind p (λ n m. (k : ℕ) → k < length m → get_or m k 0 < n) (λ k h. absurd (omega arith))
      (λ n m f e k h. let q = f k h in omega arith)
      (λ n m f e k h. step n m f k h (ℕ_discrete k (length m)))
    where
      step : (n : ℕ) (m : List ℕ) → ((k : ℕ) → k < length m → get_or m k 0 < n) → (k : ℕ) → k < length (m ++ (n ∷ [])) → Dec (k ≡ length m) →
          get_or (m ++ (n ∷ [])) k 0 < suc n
      step n m f k h (yes e) = rw (snoc_last m n k e) (omega arith)
      step n m f k h (no d) = let g : k < length m = (let q = snoc_length m n in omega arith) in
          rw (snoc_old m n k g) (let q = f k g in omega arith)

  -- a number below n is in the list or passes the test
  pub kept_passes : (n : ℕ) → (x : ℕ) → x < n → Kept (missing_of p n) x → p x ≡ true
  kept_passes = missing_ind p (λ n m. (x : ℕ) → x < n → Kept m x → p x ≡ true) (λ x h. absurd (omega arith))
      (λ n m f e x h k. there n m f e x h k (ℕ_discrete x n)) (λ n m f e x h k. gone n m f x h k (ℕ_discrete x n))
    where
      there : (n : ℕ) (m : List ℕ) → ((x : ℕ) → x < n → Kept m x → p x ≡ true) → p n ≡ true → (x : ℕ) → x < suc n → Kept m x →
          Dec (x ≡ n) → p x ≡ true
      there n m f e x h k (yes q) = ap p q ∙ e
      there n m f e x h k (no q) = f x (omega arith) k

      gone : (n : ℕ) (m : List ℕ) → ((x : ℕ) → x < n → Kept m x → p x ≡ true) → (x : ℕ) → x < suc n → Kept (m ++ (n ∷ [])) x →
          Dec (x ≡ n) → p x ≡ true
      gone n m f x h k (yes q) = absurd (k (length m) (let z = snoc_length m n in omega arith) (q ∙ sym (snoc_last m n (length m) refl)))
      gone n m f x h k (no q) = f x (omega arith) (λ i b z. k i (let w = snoc_length m n in omega arith) (z ∙ sym (snoc_old m n i b)))

  rising : (n : ℕ) → RisingTo (missing_of p n)
      (length (missing_of p n)) × ((k : ℕ) → k < length (missing_of p n) → get_or (missing_of p n) k 0 < n)
  rising n = (
    (missing_ind p (λ n m. ((k : ℕ) → k < length m → get_or m k 0 < n) × RisingTo m (length m))
        ((λ k h. absurd (omega arith)), (λ i h. absurd (omega arith)))
        (λ n m f e. ((λ k h. let q = f.0 k h in omega arith), f.1))
        (λ n m f e. ((λ k h. low n m f.0 k h (ℕ_discrete k (length m))), λ i h. step n m f i h (ℕ_discrete (i + 1) (length m))))
        n).1,
    below n,
  )
    where
      low : (n : ℕ) (m : List ℕ) → ((k : ℕ) → k < length m → get_or m k 0 < n) → (k : ℕ) → k < length (m ++ (n ∷ [])) → Dec (k ≡ length m) →
          get_or (m ++ (n ∷ [])) k 0 < suc n
      low n m f k h (yes e) = rw (snoc_last m n k e) (omega arith)
      low n m f k h (no d) = let g : k < length m = (let q = snoc_length m n in omega arith) in
          rw (snoc_old m n k g) (let q = f k g in omega arith)

      step : (n : ℕ) (m : List ℕ) → ((k : ℕ) → k < length m → get_or m k 0 < n) × RisingTo m (length m) → (i : ℕ) →
          i + 1 < length (m ++ (n ∷ [])) → Dec (i + 1 ≡ length m) →
          get_or (m ++ (n ∷ [])) i 0 < get_or (m ++ (n ∷ [])) (i + 1) 0
      step n m f i h (yes e) = let g : i < length m = omega arith in rw (snoc_old m n i g, snoc_last m n (i + 1) e) (f.0 i g)
      step n m f i h (no d) =
          let g : i + 1 < length m = (let q = snoc_length m n in omega arith) in
          let b : i < length m = omega arith in
          rw (snoc_old m n i b, snoc_old m n (i + 1) g) (f.1 i g)

  pub missing_below : (n : ℕ) → all_below (missing_of p n) n ≡ true
  missing_below n = sym (below_true (missing_of p n) n (below n))

  pub missing_rising : (n : ℕ) → strictly_rising (missing_of p n) ≡ true
  missing_rising n = sym (rising_true (missing_of p n) (length (missing_of p n)) (omega arith) (rising n).0)

-- the list depends on the test below n
pub missing_same : (p q : ℕ → Bool) (n : ℕ) → ((x : ℕ) → x < n → p x ≡ q x) → missing_of p n ≡ missing_of q n
missing_same p q zero h = missing_none p ∙ sym (missing_none q)
missing_same p q (suc n) h = go (p n) (q n) refl refl (h n (omega arith)) (missing_same p q n (λ x l. h x (omega arith)))
  where
    go : (a b : Bool) → p n ≡ a → q n ≡ b → p n ≡ q n → missing_of p n ≡ missing_of q n → missing_of p (suc n) ≡ missing_of q (suc n)
    go true true e f z w = missing_there p n e ∙ w ∙ sym (missing_there q n f)
    go false false e f z w = missing_gone p n e ∙ ap (λ m. m ++ (n ∷ [])) w ∙ sym (missing_gone q n f)
    go true false e f z w = absurd (false≢true (sym f ∙ sym z ∙ e))
    go false true e f z w = absurd (false≢true (sym e ∙ z ∙ f))

-- ---- as it is written in a room
module _ (p : ℕ → Bool) (room list : List ℕ) (x count : ℕ) (is : list ≡ missing_of p x ++ drop (length (missing_of p x)) room)
    (counted : count ≡ length (missing_of p x)) where
  -- written on at the end
  pub written_on : count < length room → p x ≡ false → set list count x ≡ missing_of p (suc x) ++ drop (length (missing_of p (suc x))) room
  written_on h e =
      ap (λ y. set y count x) (is ∙ ap (λ y. missing_of p x ++ y) (drop-cons room (length (missing_of p x)) 0 (omega arith)))
      ∙ set_at (missing_of p x) (get_or room (length (missing_of p x)) 0) (drop (suc (length (missing_of p x))) room) x count (sym counted)
      ∙ sym (append_snoc (missing_of p x) x (drop (suc (length (missing_of p x))) room))
      ∙ ap (λ n. (missing_of p x ++ (x ∷ [])) ++ drop n room) (sym (snoc_length (missing_of p x) x ∙ add-one (length (missing_of p x))))
      ∙ ap (λ m. m ++ drop (length m) room) (sym (missing_gone p x e))

  pub counted_on : p x ≡ false → count + 1 ≡ length (missing_of p (suc x))
  counted_on e = ap (λ n. n + 1) counted ∙ sym (snoc_length (missing_of p x) x) ∙ ap length (sym (missing_gone p x e))

  pub left_on : p x ≡ true → list ≡ missing_of p (suc x) ++ drop (length (missing_of p (suc x))) room
  left_on e = is ∙ ap (λ m. m ++ drop (length m) room) (sym (missing_there p x e))

  pub counted_left : p x ≡ true → count ≡ length (missing_of p (suc x))
  counted_left e = counted ∙ ap length (sym (missing_there p x e))

-- the numbers listed do not pass the test
pub missing_passes : (p : ℕ → Bool) (n : ℕ) → (k : ℕ) → k < length (missing_of p n) → p (get_or (missing_of p n) k 0) ≡ false
missing_passes p = missing_ind p (λ n m. (k : ℕ) → k < length m → p (get_or m k 0) ≡ false) (λ k h. absurd (omega arith))
    (λ n m f e k h. f k h)
    (λ n m f e k h. step n m f e k h (ℕ_discrete k (length m)))
  where
    step : (n : ℕ) (m : List ℕ) → ((k : ℕ) → k < length m → p (get_or m k 0) ≡ false) → p n ≡ false → (k : ℕ) → k < length (m ++ (n ∷ [])) →
        Dec (k ≡ length m) → p (get_or (m ++ (n ∷ [])) k 0) ≡ false
    step n m f e k h (yes q) = ap p (snoc_last m n k q) ∙ e
    step n m f e k h (no q) = let g : k < length m = (let z = snoc_length m n in omega arith) in ap p (snoc_old m n k g) ∙ f k g
