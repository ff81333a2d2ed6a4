-- The numbers that a rising list leaves free.
-- Assumes nothing.
use mathlib.Core.Path.{◌≡◌, refl, sym, ◌∙◌, ap}
use Prim.Native.Nat.{ℕ, zero, suc, ◌+◌, ◌≤◌, ◌<◌}
use native.Mathlib.Decide.{ℕ_discrete, dec_lt}
use native.Mathlib.Omega.{arith}
use native.Mathlib.Nat.{add-suc, add-zero}
use Rattle.algebra.specs.Erasure.{Places}
use Rattle.algebra.specs.Group.{skip, unskip, free}
use Rattle.algebra.specs.Cabinet.{Rising}
use Rattle.algebra.proofs.Skip.{unskip_low, unskip_high, skip_unskip, skip_low, skip_ind, skip_other, skip_below, skip_apart}

pub unskip_below : (h x n : ℕ) → h < suc n → x < suc n → ¬ (x ≡ h) → unskip h x < n
unskip_below h x n l k d = go (dec_lt x h)
  where
    go : Dec (x < h) → unskip h x < n
    go (yes a) = rw (unskip_low h x a) (omega arith)
    go (no a) = rw (unskip_high h x (omega arith)) (omega arith)

module _ (h : ℕ → ℕ) where
  free_zero : (i : ℕ) → free h 0 i ≡ i
  unfolding free
  free_zero i = refl

  free_suc : (d i : ℕ) → free h (suc d) i ≡ skip (h d) (free h d i)
  unfolding free
  free_suc d i = refl

  pub free_apart : (d i j : ℕ) → free h d i ≡ free h d j → i ≡ j
  free_apart zero i j e = sym (free_zero i) ∙ e ∙ free_zero j
  free_apart (suc d) i j e = free_apart d i j (skip_apart (h d) (free h d i) (free h d j) (sym (free_suc d i) ∙ e ∙ free_suc d j))

  pub free_below : (c d i : ℕ) → i < c → free h d i < c + d
  free_below c zero i l = rw (free_zero i, add-zero) l
  free_below c (suc d) i l = rw (free_suc d i, add-suc) (skip_below (h d) (free h d i) (c + d) (free_below c d i l))

  -- numbers below all of them stay
  pub free_low : (d i : ℕ) → ((k : ℕ) → k < d → i < h k) → free h d i ≡ i
  free_low zero i l = free_zero i
  free_low (suc d) i l = free_suc d i ∙ ap (skip (h d)) (free_low d i (λ k m. l k (omega arith))) ∙ skip_low (h d) i (l d (omega arith))

  fewer : (d n : ℕ) → Rising h (suc d) n → Rising h d n
  fewer d n r = record { up = λ j k l m. r.up j k l (omega arith); inside = λ k l. r.inside k (omega arith) }

  -- a free number is none of them
  pub free_other : (d n i : ℕ) → Rising h d n → (k : ℕ) → k < d → ¬ (free h d i ≡ h k)
  free_other zero n i r k l e = absurd (omega arith)
  free_other (suc d) n i r k l e = go (ℕ_discrete k d) (λ m. free_other d n i (fewer d n r) k m)
    where
      go : Dec (k ≡ d) → (k < d → ¬ (free h d i ≡ h k)) → ⊥
      go (yes f) ih = skip_other (h d) (free h d i) (sym (free_suc d i) ∙ e ∙ ap h f)
      go (no f) ih =
          skip_ind (λ x. x ≡ h k → ⊥) (h d) (free h d i) (λ m z. ih (omega arith) z) (λ m z. above m z) (sym (free_suc d i) ∙ e)
        where
          above : h d ≤ free h d i → suc (free h d i) ≡ h k → ⊥
          above m z = omega (arith, r.up k d (omega arith) (omega arith))

  pub free_places : (c d : ℕ) → Places (free h d) c (c + d)
  free_places c d = record { apart = λ i j l m e. free_apart d i j e; inside = λ i l. free_below c d i l }

  -- each number is one of them or free
  pub cover : (P : Type 0) (c d x : ℕ) → Rising h d (c + d) → x < c + d → ((k : ℕ) → k < d → x ≡ h k → P) → ((i : ℕ) → i < c → x ≡ free h d i → P) → P
  cover P c zero x r l f g = g x (omega arith) (sym (free_zero x))
  cover P c (suc d) x r l f g = go (ℕ_discrete x (h d)) (λ m f' g'. cover P c d (unskip (h d) x) below m f' g')
    where
      below : Rising h d (c + d)
      below = record { up = λ j k a b. r.up j k a (omega arith); inside = λ k a. omega (arith, r.up k d a (omega arith), r.inside d (omega arith)) }

      go : Dec (x ≡ h d) → (unskip (h d) x < c + d → ((k : ℕ) → k < d → unskip (h d) x ≡ h k → P) → ((i : ℕ) → i < c → unskip (h d) x ≡ free h d i → P) → P) → P
      go (yes e) ih = f d (omega arith) e
      go (no e) ih =
          ih (unskip_below (h d) x (c + d) (omega (arith, r.inside d (omega arith))) (omega arith) e)
          (λ k a z. f k (omega arith) (sym (skip_unskip (h d) x e) ∙ ap (skip (h d)) z ∙ skip_low (h d) (h k) (r.up k d a (omega arith))))
          (λ i a z. g i a (sym (skip_unskip (h d) x e) ∙ ap (skip (h d)) z ∙ sym (free_suc d i)))
