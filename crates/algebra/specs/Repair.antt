-- The formulas that solve: a group's host rack sums from its shares, and a word with erased trays. For code and proofs.
-- Assumes nothing.
use Rattle.std.specs.Prelude.{ℕ, ◌+◌, ◌-◌, ◌*◌}
use Rattle.algebra.specs.Sum.{pow}
use Rattle.algebra.specs.Erasure.{fill, zeros, erased, recover}
use Rattle.algebra.specs.Shape.{Shape}
use Rattle.algebra.specs.Points.{point}
use Rattle.algebra.specs.Group.{unskip, free, group_point}
use Rattle.algebra.specs.Cabinet.{layer_point}

-- where the word of a group has the sum of the k-th helper
unfoldable pub helper_place : ℕ → ℕ → (ℕ → ℕ) → ℕ → ℕ
helper_place s h helper k = s + unskip h (helper k)

module _ {A : Type 0} (sh : Shape A) (h : ℕ) (a : ℕ → ℕ) (helper : ℕ → ℕ) (d R m : ℕ) (share : ℕ → A) where
  open sh use {ops as o, racks as B, digits as s}

  -- the word of a group, as far as the shares tell it
  unfoldable pub known : ℕ → A
  known = fill (helper_place s h helper) (λ k. o.mul (pow o (point sh (helper k) (a (helper k)) 0) m) (share k)) d (λ x. o.zero)

  -- the host's rack sum in the group's layer of digit b
  unfoldable pub host_sum : ℕ → A
  host_sum b =
      o.mul (o.inv (pow o (point sh h b 0) m))
      (erased o (group_point sh h a) (s + (B - 1)) (free (helper_place s h helper) d) R (zeros o) known b)

module _ {A : Type 0} (sh : Shape A) where
  open sh use {ops as o, racks as B, size as u}

  -- the word c, with the symbols of the trays e 0 .. e (m - 1) as the checks determine them
  unfoldable pub restored : (ℕ → ℕ) → ℕ → (ℕ → ℕ → A) → ℕ → ℕ → A
  restored e m c x j = recover o (layer_point sh j) (B * u) e m (zeros o) (λ y. c y j) x
