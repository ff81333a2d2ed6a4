-- The inverse of a symbol by the tables of the root's powers and of their logarithms.
-- Assumes nothing.
use mathlib.Core.Path.{◌≡◌, sym, ap, ap₂, ◌∙◌}
use mathlib.Core.List.{List}
use Prim.Native.Nat.{ℕ, ◌+◌, ◌-◌, ◌%◌, ◌<◌}
use native.Mathlib.Nat.{mod-lt}
use native.Mathlib.Omega.{arith}
use lib.ListN.{get_or}
use Rattle.algebra.specs.Sum.{pow}
use Rattle.algebra.specs.Shape.{Field}
use Rattle.algebra.specs.Plain.{reduced, PowersIn, LogsIn, Working}
use Rattle.algebra.proofs.Ring.{mul_zero, mul_comm, mul_cancel}
use Rattle.algebra.proofs.Pow.{pow_add}
use Rattle.algebra.proofs.Plain.{elem_zero, elem_reduced, elem_root_power, reduced_below, root_power_mod}

module _ {A : Type 0} {f : Field A} (W : Working f) where
  open f use {ops, root, order}
  open f.coding use {elem, size}
  open W.field use {laws}

  -- of zero, zero
  pub inverse_none : (a x : ℕ) → x ≡ reduced f a → x ≡ 0 → elem 0 ≡ ops.inv (elem a)
  inverse_none a x e z =
      elem_zero W ∙ sym W.inv_zero ∙ ap ops.inv (sym (elem_zero W) ∙ ap elem (sym z ∙ e) ∙ elem_reduced W a)

  module _ (logs powers : List ℕ) (x : ℕ) (L : LogsIn f logs) (P : PowersIn f powers) (p : 0 < x) (h : x < size) where
    i : ℕ
    i = get_or logs x 0

    -- the power that is left of the order
    left : elem (get_or powers ((order - i) % order) 0) ≡ pow ops root (order - i)
    unfolding i
    left = ap elem (P.at ((order - i) % order) (mod-lt (order - i) (let b = L.below x p h in omega arith)) ∙ root_power_mod W (order - i)) ∙ elem_root_power W (order - i)

    whole : order - i + i ≡ order
    unfolding i
    whole = let b = L.below x p h in omega arith

    own : elem x ≡ pow ops root i
    unfolding i
    own = ap elem (sym (L.at x p h)) ∙ elem_root_power W i

    one : ops.mul (elem (get_or powers ((order - i) % order) 0)) (elem x) ≡ ops.one
    one = ap₂ ops.mul left own ∙ sym (pow_add ops laws root (order - i) i) ∙ ap (pow ops root) whole ∙ W.field.root.full

    nil : ¬ (elem x ≡ ops.zero)
    nil z = laws.one_not_zero (sym one ∙ ap (ops.mul _) z ∙ mul_zero ops laws _)

    pub inverse_some : elem (get_or powers ((order - get_or logs x 0) % order) 0) ≡ ops.inv (elem x)
    unfolding i
    inverse_some = mul_cancel ops laws (elem x) _ _ nil (mul_comm ops laws _ _ ∙ one ∙ sym (mul_comm ops laws _ _ ∙ laws.inv_mul (elem x) nil))

  -- of a number that stands for another symbol, by the place of that symbol
  pub inverse_at : (logs powers : List ℕ) (a x : ℕ) → LogsIn f logs → PowersIn f powers → x ≡ reduced f a → ¬ (x ≡ 0) →
      elem (get_or powers ((order - get_or logs x 0) % order) 0) ≡ ops.inv (elem a)
  inverse_at logs powers a x L P e d =
      inverse_some logs powers x L P (omega arith) (rw e (reduced_below W a)) ∙ ap ops.inv (ap elem e ∙ elem_reduced W a)
