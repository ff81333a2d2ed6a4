-- The formulas that find a wrong share. For code and proofs; document 02's words are in Consistent.antt.
-- With d helpers and R - 2 unknowns a group has two checks more than unknowns. The product of X - q over the unknowns' points q is zero at these points, so the
-- checks w, w + 1 .. w + R - 2, each times the product's coefficient, add up to a sum over the helpers alone: the residue w, for w = 0 and 1.
-- Assumes nothing.
use Rattle.std.specs.Prelude.{◌≡◌, ℕ, zero, suc, ◌<◌, eqb}
use Rattle.algebra.specs.Field.{Ops}
use Rattle.algebra.specs.Lagrange.{check}
use Rattle.algebra.specs.Erasure.{choose}
use Rattle.algebra.specs.Shape.{Shape}
use Rattle.algebra.specs.Layers.{digit, layer_of}
use Rattle.algebra.specs.Group.{free, group_point}
use Rattle.algebra.specs.Repair.{helper_place}

module _ {A : Type 0} (o : Ops A) where
  -- the product of x - q over the points q 0 .. q (m - 1)
  unfoldable pub gaps : (ℕ → A) → ℕ → A → A
  gaps q zero x = o.one
  gaps q (suc m) x = o.mul (gaps q m x) (o.add x (o.neg (q m)))

  -- the residue w of the values v at the d points x, where the points of the m unknowns are q
  unfoldable pub residue : (ℕ → A) → ℕ → (ℕ → A) → ℕ → (ℕ → A) → ℕ → A
  residue x d q m v w = check o x d (λ k. o.mul (gaps q m (x k)) (v k)) w

module _ {A : Type 0} (sh : Shape A) (h : ℕ) (helper : ℕ → ℕ) (d m p : ℕ) where
  open sh use {ops as o, digits as s}

  -- the point of the k-th helper in group p
  unfoldable pub helper_point : ℕ → A
  helper_point k = group_point sh h (digit s (layer_of s h p 0)) (helper_place s h helper k)

  -- the point of unknown i in group p
  unfoldable pub unknown_point : ℕ → A
  unknown_point i = group_point sh h (digit s (layer_of s h p 0)) (free (helper_place s h helper) d i)

  -- the product over the unknowns at the k-th helper's point
  unfoldable pub gap : ℕ → A
  gap k = gaps o unknown_point m (helper_point k)

  -- the residue w of group p
  unfoldable pub residue_at : (ℕ → A) → ℕ → A
  residue_at v w = residue o helper_point d unknown_point m v w

module _ {A : Type 0} (sh : Shape A) (h : ℕ) (helper : ℕ → ℕ) (d m G : ℕ) where
  open sh use {ops as o}

  -- both residues of every group are zero: the checks hold
  pub record Clean (share : ℕ → ℕ → A) : Type 0 where
    pub at : (p w : ℕ) → p < G → w < 2 → residue_at sh h helper d m p (share p) w ≡ o.zero

  -- in every group the residue 1 is the k-th helper's point times the residue 0: changing this helper's share makes the checks hold
  pub record Located (k : ℕ) (share : ℕ → ℕ → A) : Type 0 where
    pub at : (p : ℕ) → p < G → residue_at sh h helper d m p (share p) 1 ≡ o.mul (helper_point sh h helper d m p k) (residue_at sh h helper d m p (share p) 0)

  -- the k-th helper's share as it must have been
  unfoldable pub corrected : ℕ → (ℕ → ℕ → A) → ℕ → ℕ → A
  corrected k share p i =
      choose (eqb i k) (o.add (share p k) (o.neg (o.mul (o.inv (gap sh h helper d m p k)) (residue_at sh h helper d m p (share p) 0)))) (share p i)
