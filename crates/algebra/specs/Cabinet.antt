-- Codewords, shares and the rule of repair, as document 01 gives them, over any field.
-- Assumes nothing.
use Rattle.std.specs.Prelude.{◌≡◌, ℕ, ◌+◌, ◌-◌, ◌*◌, ◌^◌, ◌≤◌, ◌<◌, eqb}
use Rattle.algebra.specs.Sum.{sum}
use Rattle.algebra.specs.Lagrange.{check}
use Rattle.algebra.specs.Erasure.{choose}
use Rattle.algebra.specs.Shape.{Shape}
use Rattle.algebra.specs.Points.{tray_point, rack_sum, rack_check}
use Rattle.algebra.specs.Layers.{digit, group_of}

-- (for proofs) e 0 .. e (d - 1) are rising and below n
pub record Rising (e : ℕ → ℕ) (d n : ℕ) : Type 0 where
  pub up : (j k : ℕ) → j < k → k < d → e j < e k
  pub inside : (k : ℕ) → k < d → e k < n

module _ {A : Type 0} (sh : Shape A) where
  open sh use {ops as o, racks as B, size as u, digits as s}

  -- the point of tray x in layer j
  unfoldable pub layer_point : ℕ → ℕ → A
  layer_point j = tray_point sh (digit s j)

  -- the sum of f over the layers of group p for the host rack h
  unfoldable pub group_sum : ℕ → ℕ → (ℕ → A) → A
  group_sum h p f = sum o (s ^ B) (λ j. choose (eqb (group_of s h j) p) (f j) o.zero)

  -- rack sums ρ i j of rack i in layer j that meet the R checks t = u·w + m summed over group p, where each helper's, summed over the group, are what
  -- it sent
  pub record Solution (m h p : ℕ) (helper : ℕ → ℕ) (d R : ℕ) (share : ℕ → A) (ρ : ℕ → ℕ → A) : Type 0 where
    pub given : (k : ℕ) → k < d → group_sum h p (ρ (helper k)) ≡ share k
    pub checks : (w : ℕ) → w < R → group_sum h p (λ j. rack_check sh (digit s j) m (λ i. ρ i j) w) ≡ o.zero

  -- ---- what only code and proofs need
  -- the symbols c x j of tray x and layer j meet the checks 0 .. r - 1 of every layer
  pub record Codeword (r : ℕ) (c : ℕ → ℕ → A) : Type 0 where
    pub at : (j t : ℕ) → j < s ^ B → t < r → check o (layer_point j) (B * u) (λ x. c x j) t ≡ o.zero

  -- symbol p of rack i's share for the host rack h: its rack sums over the layers of group p; document 01's has the weight m = 0
  unfoldable pub share_symbol : ℕ → ℕ → (ℕ → ℕ → A) → ℕ → ℕ → A
  share_symbol m h c i p = group_sum h p (λ j. rack_sum sh (λ x. c x j) m i)

  -- d helpers in rising order out of the racks other than the host h, which leave as many unknowns as there are checks t = u·w + m
  pub record Helping (h : ℕ) (helper : ℕ → ℕ) (d R : ℕ) : Type 0 where
    pub host_in : h < B
    pub rising : Rising helper d B
    pub other : (k : ℕ) → k < d → ¬ (helper k ≡ h)
    pub total : R + d ≡ s + (B - 1)
    pub few : d ≤ B - 1
