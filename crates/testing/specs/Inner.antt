-- What inner functions are told and give. Nothing here has to be believed.
-- Assumes nothing.
use Rattle.std.specs.Prelude.{◌≡◌, List, ℕ, ◌+◌, ◌*◌, ◌<◌, ◌≤◌, get_or}
use Rattle.algebra.specs.Shape.{Field}
use Rattle.algebra.specs.Plain.{reduced}
use Rattle.layout.specs.declared.Layout.{Layout}
use Rattle.layout.specs.Layout.{checks}
use Rattle.codeword.specs.Codeword.{check_at}

module _ {A : Type 0} (f : Field A) where
  open f use {ops}

  -- column j is the first of w with a number that does not stand for zero in its r rows, and t the least such row; w for none
  pub record FirstIn (w r : ℕ) (sums : List ℕ) (j t : ℕ) : Type 0 where
    pub column_in : j ≤ w
    pub earlier : (i : ℕ) → i < j → (v : ℕ) → v < r → reduced f (get_or sums (v * w + i) 0) ≡ 0
    pub check_in : j < w → t < r
    pub broken : j < w → ¬ (reduced f (get_or sums (t * w + j) 0) ≡ 0)
    pub below : j < w → (v : ℕ) → v < t → reduced f (get_or sums (v * w + j) 0) ≡ 0

  -- the same of the layers of a block and their checks
  pub record FirstBroken (l : Layout) (w first : ℕ) (c : List ℕ) (j t : ℕ) : Type 0 where
    pub column_in : j ≤ w
    pub earlier : (i : ℕ) → i < j → (v : ℕ) → v < checks l → check_at f l c (first + i) v ≡ ops.zero
    pub check_in : j < w → t < checks l
    pub broken : j < w → ¬ (check_at f l c (first + j) t ≡ ops.zero)
    pub below : j < w → (v : ℕ) → v < t → check_at f l c (first + j) v ≡ ops.zero
