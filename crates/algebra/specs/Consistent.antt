-- Shares of which one may be wrong (document 02, W12): when the checks hold for shares, and when changing one helper's share makes them hold. Over any field.
-- Assumes nothing.
use Rattle.std.specs.Prelude.{◌≡◌, ℕ, ◌<◌}
use Rattle.algebra.specs.Shape.{Shape}
use Rattle.algebra.specs.Cabinet.{Solution}

-- d helpers of the host rack h and G groups of R checks; share p k is symbol p of the k-th helper's share
module _ {A : Type 0} (sh : Shape A) (h : ℕ) (helper : ℕ → ℕ) (d R G : ℕ) where
  -- the checks hold: every group has rack sums that meet its R checks t = u·w and agree with what the helpers sent
  pub record Consistent (share : ℕ → ℕ → A) : Type 0 where
    pub sums : ℕ → ℕ → ℕ → A
    pub solution : (p : ℕ) → p < G → Solution sh 0 h p helper d R (share p) (sums p)

  -- the two are alike but for the k-th helper's share, of which any symbols may differ
  pub record AlikeBut (k : ℕ) (share share' : ℕ → ℕ → A) : Type 0 where
    pub at : (p i : ℕ) → p < G → i < d → ¬ (i ≡ k) → share p i ≡ share' p i

  -- refusal 14: the checks do not hold, and changing one helper's share cannot make them hold
  pub record Uncorrectable (share : ℕ → ℕ → A) : Type 0 where
    pub broken : ¬ (Consistent share)
    pub changed : (k : ℕ) → k < d → (share' : ℕ → ℕ → A) → AlikeBut k share share' → ¬ (Consistent share')
