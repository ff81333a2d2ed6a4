-- Counting bad layers and finding the least: a run of layers in two parts, and the record after each layer.
-- Assumes nothing.
use mathlib.Core.Path.{◌≡◌, refl, sym, ap, ◌∙◌}
use mathlib.Core.Bool.{Bool, true, false, cond, ◌&&◌}
use Prim.Native.Nat.{ℕ, zero, suc, ◌+◌, ◌<◌, ◌≤◌}
use native.Mathlib.Nat.{add-zero, zero-add, suc-add}
use borrow.Author.Tests.{eq-eqb, ne_eqb}
use native.Mathlib.Decide.{ℕ_discrete}
use native.Mathlib.Omega.{arith}
use lib.Dec.{eqb}
use Rattle.scrub.specs.declared.Walk.{Walk}
use Rattle.scrub.specs.Scrub.{bad_count, least_bad, after}
use Rattle.scrub.specs.Inner.{look}

-- records with the same numbers are the same
pub same : {a a' b b' e e' : ℕ} → a ≡ a' → b ≡ b' → e ≡ e' →
    ◌≡◌ {A = Walk} (record { next = a; bad = b; first = e }) (record { next = a'; bad = b'; first = e' })
same p q r = λ i. record { next = p i; bad = q i; first = r i }

module _ (p : ℕ → Bool) where
  -- a run of k + m layers
  pub count_join : (a k m : ℕ) → bad_count p a k + bad_count p (a + k) m ≡ bad_count p a (k + m)
  unfolding bad_count
  count_join a zero m = rw (add-zero a, zero-add m) (zero-add _)
  count_join a (suc k) m =
      let e : a + suc k ≡ a + 1 + k = omega arith in
      rw (e, suc-add k m) (omega (arith, count_join (a + 1) k m))

  pub least_join : (a e k m : ℕ) → least_bad p a (least_bad p (a + k) e m) k ≡ least_bad p a e (k + m)
  unfolding least_bad
  least_join a e zero m = rw (add-zero a, zero-add m) refl
  least_join a e (suc k) m =
      let q : a + suc k ≡ a + 1 + k = omega arith in
      rw (q, suc-add k m) (ap (λ (n : ℕ). cond (p a) a n) (least_join (a + 1) e k m))

  -- the same from layer 0 on: the least is that of the first n layers, if one of them is bad
  pub count_on : (n k : ℕ) → bad_count p 0 n + bad_count p n k ≡ bad_count p 0 (n + k)
  count_on n k = ap (λ (i : ℕ). bad_count p 0 n + bad_count p i k) (sym (zero-add n)) ∙ count_join 0 n k

  pub count_high : (a k : ℕ) → bad_count p a k ≤ k
  unfolding bad_count
  count_high a zero = omega arith
  count_high a (suc k) = go (p a) (count_high (a + 1) k)
    where
      go : (t : Bool) {n : ℕ} → n ≤ k → cond t 1 0 + n ≤ suc k
      go true h = omega arith
      go false h = omega arith

  -- where none is bad there is no least, and the other way round
  pub least_none : (a e k : ℕ) → bad_count p a k ≡ 0 → least_bad p a e k ≡ e
  unfolding bad_count least_bad
  least_none a e zero h = refl
  least_none a e (suc k) h = go (p a) h (least_none (a + 1) e k)
    where
      go : (t : Bool) → cond t 1 0 + bad_count p (a + 1) k ≡ 0 → (bad_count p (a + 1) k ≡ 0 → least_bad p (a + 1) e k ≡ e) → cond t a (least_bad p (a + 1) e k) ≡ e
      go true z ih = absurd (omega arith)
      go false z ih = ih (omega arith)

  -- where one is bad the least lies in the run, whatever stands for none
  pub least_some : (a e e' k : ℕ) → 0 < bad_count p a k → (least_bad p a e k ≡ least_bad p a e' k) × (least_bad p a e k < a + k)
  unfolding bad_count least_bad
  least_some a e e' zero h = absurd (omega arith)
  least_some a e e' (suc k) h = go (p a) h (least_some (a + 1) e e' k)
    where
      go : (t : Bool) → 0 < cond t 1 0 + bad_count p (a + 1) k →
          (0 < bad_count p (a + 1) k → (least_bad p (a + 1) e k ≡ least_bad p (a + 1) e' k) × (least_bad p (a + 1) e k < a + 1 + k)) →
          (cond t a (least_bad p (a + 1) e k) ≡ cond t a (least_bad p (a + 1) e' k)) × (cond t a (least_bad p (a + 1) e k) < a + suc k)
      go true z ih = (refl, omega arith)
      go false z ih = let r = ih (omega arith) in (r.0, omega arith)

  -- none bad: none of them
  pub none_bad : (a k : ℕ) → bad_count p a k ≡ 0 → (i : ℕ) → a ≤ i → i < a + k → p i ≡ false
  unfolding bad_count
  none_bad a zero h i l u = absurd (omega arith)
  none_bad a (suc k) h i l u = go (p a) refl (ℕ_discrete i a) h (λ z m. none_bad (a + 1) k z i m (omega arith))
    where
      go : (t : Bool) → p a ≡ t → Dec (i ≡ a) → cond t 1 0 + bad_count p (a + 1) k ≡ 0 → (bad_count p (a + 1) k ≡ 0 → a + 1 ≤ i → p i ≡ false) → p i ≡ false
      go true e d z ih = absurd (omega arith)
      go false e (yes q) z ih = ap p q ∙ e
      go false e (no d) z ih = ih (omega arith) (omega arith)

  pub all_good : (a k : ℕ) → ((i : ℕ) → a ≤ i → i < a + k → p i ≡ false) → bad_count p a k ≡ 0
  unfolding bad_count
  all_good a zero h = refl
  all_good a (suc k) h = rw (h a (omega arith) (omega arith)) (zero-add _ ∙ all_good (a + 1) k (λ i l u. h i (omega arith) (omega arith)))

  pub least_on : (e n k : ℕ) → cond (eqb (bad_count p 0 n) 0) (least_bad p n (least_bad p 0 e n) k) (least_bad p 0 e n) ≡ least_bad p 0 e (n + k)
  least_on e n k = go (ℕ_discrete (bad_count p 0 n) 0) ∙ ap (λ (i : ℕ). least_bad p 0 (least_bad p i e k) n) (sym (zero-add n)) ∙ least_join 0 e n k
    where
      go : Dec (bad_count p 0 n ≡ 0) →
          cond (eqb (bad_count p 0 n) 0) (least_bad p n (least_bad p 0 e n) k) (least_bad p 0 e n) ≡ least_bad p 0 (least_bad p n e k) n
      go (yes z) = rw (eq-eqb _ _ z) (ap (λ (x : ℕ). least_bad p n x k) (least_none 0 e n z) ∙ sym (least_none 0 (least_bad p n e k) n z))
      go (no d) = rw (ne_eqb _ _ d) (least_some 0 e (least_bad p n e k) n (omega arith)).0

cond_same : (t : Bool) (x : ℕ) → cond t x x ≡ x
cond_same true x = refl
cond_same false x = refl

-- the first bad layer after layer j and a run that has `least e` as its least, n bad before
first_look : (t : Bool) (n j e : ℕ) (least : ℕ → ℕ) →
    cond (eqb (n + cond t 1 0) 0) (least (cond (t && eqb n 0) j e)) (cond (t && eqb n 0) j e) ≡ cond (eqb n 0) (cond t j (least e)) e
first_look true zero j e least = refl
first_look true (suc n) j e least = simp (ne_eqb (suc n + 1) 0 (λ z. omega arith), ne_eqb (suc n) 0 (λ z. omega arith))
first_look false n j e least = rw (add-zero n) refl

module _ (t : Bool) (w : Walk) where
  pub look_high : w.bad ≤ w.next → (look t w).bad ≤ (look t w).next
  unfolding look
  look_high h = go t
    where
      go : (b : Bool) → w.bad + cond b 1 0 ≤ w.next + 1
      go true = omega arith
      go false = omega arith

  pub look_next : (look t w).next ≡ w.next + 1
  unfolding look
  look_next = refl

module _ (p : ℕ → Bool) (w : Walk) where
  -- no more layers, one more, and so many more
  pub after_none : after p w 0 ≡ w
  unfolding after bad_count least_bad
  after_none = same (add-zero w.next) (add-zero w.bad) (cond_same (eqb w.bad 0) w.first)

  pub after_look : (k : ℕ) → after p (look (p w.next) w) k ≡ after p w (suc k)
  unfolding after look bad_count least_bad
  after_look k = same (omega arith) (omega arith) (first_look (p w.next) w.bad w.next w.first (λ e. least_bad p (w.next + 1) e k))

  pub after_high : (k : ℕ) → w.bad ≤ w.next → (after p w k).bad ≤ (after p w k).next
  unfolding after
  after_high k h = omega (arith, count_high p w.next k)

  pub after_next : (k : ℕ) → (after p w k).next ≡ w.next + k
  unfolding after
  after_next k = refl

pub after_on : (p : ℕ → Bool) (w : Walk) (k m : ℕ) → after p (after p w k) m ≡ after p w (k + m)
after_on p w zero m = ap (λ (x : Walk). after p x m) (after_none p w) ∙ ap (after p w) (sym (zero-add m))
after_on p w (suc k) m =
    ap (λ (x : Walk). after p x m) (sym (after_look p w k)) ∙ after_on p (look (p w.next) w) k m ∙ after_look p w (k + m) ∙ ap (after p w) (sym (suc-add k m))

pub after_end : (p : ℕ → Bool) (s : Walk) (k : ℕ) {r : Walk} → k ≤ 0 → after p s k ≡ r → s ≡ r
after_end p s k h e = let z : 0 ≡ k = omega arith in sym (after_none p s) ∙ ap (after p s) z ∙ e
