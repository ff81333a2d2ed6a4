-- The checks summed over a group are checks at different points: so the host's rack sums are determined by enough of the others.
-- Assumes nothing.
use mathlib.Core.Path.{◌≡◌, sym, ◌∙◌, ap, ap₂}
use Prim.Native.Nat.{ℕ, ◌+◌, ◌-◌, ◌≤◌, ◌<◌}
use native.Mathlib.Decide.{dec_lt}
use native.Mathlib.Omega.{arith}
use Rattle.algebra.specs.Sum.{sum, pow}
use Rattle.algebra.specs.Lagrange.{Distinct, check}
use Rattle.algebra.specs.Shape.{Shape, Fits}
use Rattle.algebra.specs.Points.{point, rack_point, rack_check}
use Rattle.algebra.specs.Group.{skip, digits_at, group_point, group_word}
use Rattle.algebra.proofs.Sum.{sum_congr, sum_add, sum_swap, sum_split, sum_mul_left}
use Rattle.algebra.proofs.Points.{powers_apart}
use Rattle.algebra.proofs.Skip.{skip_other, skip_below, skip_apart, digits_host, digits_other, join_low, join_high, join_add, sum_apart}

module _ {A : Type 0} (sh : Shape A) (fits : Fits sh) (h : ℕ) (host : h < sh.racks) (a : ℕ → ℕ) where
  open sh use {ops as o, racks as B, size as u, digits as s}
  open fits use {laws as L}
  open sh.ops use {add as ◌⊕◌, mul as ◌⊗◌}

  infixl 60 ◌⊕◌
  infixl 70 ◌⊗◌
  -- the u-th power of the point of rack i and digit b, and its m-th power at place 0
  P : ℕ → ℕ → A
  P i b = pow o (point sh i b 0) u

  Q : ℕ → ℕ → ℕ → A
  Q m i b = pow o (point sh i b 0) m

  -- one layer
  layer : (ρ : ℕ → A) (b w m : ℕ) →
      rack_check sh (digits_at h a b) m ρ w
      ≡ pow o (P h b) w ⊗ (Q m h b ⊗ ρ h) ⊕ sum o (B - 1) (λ j. pow o (P (skip h j) (a (skip h j))) w ⊗ (Q m (skip h j) (a (skip h j)) ⊗ ρ (skip h j)))
  unfolding check rack_point rack_check P Q
  layer ρ b w m =
      sum_apart o L B h _ host
      ∙ ap₂ ◌⊕◌
      (ap (λ d. pow o (P h d) w ⊗ (Q m h d ⊗ ρ h)) (digits_host h a b))
      (sum_congr o (B - 1) _ _ (λ j l. ap (λ d. pow o (P (skip h j) d) w ⊗ (Q m (skip h j) d ⊗ ρ (skip h j))) (digits_other h a b (skip h j) (skip_other h j))))

  -- the group
  pub group_check : (ρ : ℕ → ℕ → A) (w m : ℕ) →
      sum o s (λ b. rack_check sh (digits_at h a b) m (ρ b) w) ≡ check o (group_point sh h a) (s + (B - 1)) (group_word sh h a m ρ) w
  unfolding check group_point group_word P Q
  group_check ρ w m =
      sum_congr o s _ _ (λ b l. layer (ρ b) b w m)
      ∙ sum_add o L s _ _
      ∙ ap₂ ◌⊕◌
      (sum_congr o s _ _ (λ b l. sym (ap₂ (λ x y. pow o x w ⊗ y) (join_low s _ _ b l) (join_low s _ _ b l))))
      (sum_swap o L s (B - 1) _ ∙ sum_congr o (B - 1) _ _ (λ j l. pull (pow o (P (skip h j) (a (skip h j))) w) (Q m (skip h j) (a (skip h j))) (λ b. ρ b (skip h j))
      ∙ sym (ap₂ (λ x y. pow o x w ⊗ y) (join_add s _ _ j) (join_add s _ _ j))))
      ∙ sym (sum_split o L s (B - 1) _)
    where
      pull : (x y : A) (f : ℕ → A) → sum o s (λ b. x ⊗ (y ⊗ f b)) ≡ x ⊗ (y ⊗ sum o s f)
      pull x y f = sum_mul_left o L s x (λ b. y ⊗ f b) ∙ ap (λ e. x ⊗ e) (sum_mul_left o L s y f)

  P-apart : (i b j d : ℕ) → i < B → b < s → j < B → d < s → P i b ≡ P j d → (i ≡ j) × (b ≡ d)
  unfolding P
  P-apart i b j d hi hb hj hd e = powers_apart sh fits i b 0 j d 0 hi hb hj hd e

  group_low : (x : ℕ) → x < s → group_point sh h a x ≡ P h x
  unfolding group_point P
  group_low x k = join_low s _ _ x k

  group_high : (x : ℕ) → s ≤ x → group_point sh h a x ≡ P (skip h (x - s)) (a (skip h (x - s)))
  unfolding group_point P
  group_high x k = join_high s _ _ x k

  -- the points of a group differ
  pub group_distinct : ((i : ℕ) → i < B → a i < s) → Distinct (group_point sh h a) (s + (B - 1))
  group_distinct ha = record { apart = λ x y k l e. go x y k l (dec_lt x s) (dec_lt y s) e }
    where
      inside : (x : ℕ) → x < s + (B - 1) → s ≤ x → skip h (x - s) < B
      inside x k l = omega (arith, skip_below h (x - s) (B - 1) (omega arith))

      go : (x y : ℕ) → x < s + (B - 1) → y < s + (B - 1) → Dec (x < s) → Dec (y < s) → group_point sh h a x ≡ group_point sh h a y → x ≡ y
      go x y k l (yes p) (yes q) e = (P-apart h x h y host p host q (sym (group_low x p) ∙ e ∙ group_low y q)).1
      go x y k l (yes p) (no q) e =
          let i = inside y l (omega arith) in
          absurd (skip_other h (y - s) (sym (P-apart h x (skip h (y - s)) (a (skip h (y - s))) host p i (ha (skip h (y - s)) i)
          (sym (group_low x p) ∙ e ∙ group_high y (omega arith))).0))
      go x y k l (no p) (yes q) e =
          let i = inside x k (omega arith) in
          absurd (skip_other h (x - s) (P-apart (skip h (x - s)) (a (skip h (x - s))) h y i (ha (skip h (x - s)) i) host q (sym (group_high x (omega arith)) ∙ e ∙ group_low y q)).0)
      go x y k l (no p) (no q) e =
          let i = inside x k (omega arith) in
          let j = inside y l (omega arith) in
          let f = skip_apart h (x - s) (y - s) (P-apart (skip h (x - s)) (a (skip h (x - s))) (skip h (y - s)) (a (skip h (y - s))) i (ha (skip h (x - s)) i) j
          (ha (skip h (y - s)) j) (sym (group_high x (omega arith)) ∙ e ∙ group_high y (omega arith))).0 in
          omega arith
