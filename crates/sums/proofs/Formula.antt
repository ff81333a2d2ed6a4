-- The system that the code solves has the rule's host sums as its solution.
-- Assumes nothing.
use mathlib.Core.Path.{◌≡◌, refl, sym, ap, ◌∙◌}
use mathlib.Core.List.{List}
use Prim.Native.Nat.{ℕ, ◌+◌, ◌-◌, ◌*◌, ◌<◌}
use native.Mathlib.Omega.{arith}
use lib.ListN.{get_or}
use Rattle.algebra.specs.Sum.{pow}
use Rattle.algebra.specs.Lagrange.{check, solve}
use Rattle.algebra.specs.Erasure.{fill, zeros, rest, erased}
use Rattle.algebra.specs.Points.{point}
use Rattle.algebra.specs.Layers.{digit, layer_of}
use Rattle.algebra.specs.Cabinet.{Rising, Helping}
use Rattle.algebra.specs.Group.{unskip, free, group_point}
use Rattle.algebra.specs.Repair.{helper_place, known, host_sum}
use Rattle.algebra.proofs.Ring.{zero_add, mul_zero, mul_assoc}
use Rattle.algebra.proofs.Sum.{sum_congr, sum_is_zero}
use Rattle.algebra.proofs.Weighted.{pow_split}
use Rattle.algebra.proofs.Lagrange.{solve_congr}
use Rattle.algebra.proofs.Erasure.{fill_same, fill_outside, check_congr, check_fill}
use Rattle.algebra.proofs.Skip.{join_add, skip_unskip}
use Rattle.algebra.proofs.Free.{free_other}
use Rattle.algebra.proofs.Repair.{helpers_rising, rising_places}
use Rattle.algebra.specs.Shape.{Field}
use Rattle.algebra.specs.Plain.{Working}
use Rattle.layout.specs.declared.Layout.{Layout}
use Rattle.layout.specs.Layout.{digits, parity_racks, Cabinet}
use Rattle.codeword.specs.Codeword.{shape_of}
use Rattle.layout.proofs.Numbers.{total_plain}
use Rattle.rule.specs.Lost.{sent_symbol}
use Rattle.rule.proofs.Rule.{helping_from}
use Rattle.sums.specs.Inner.{helper_at, place_point, unknown_point, side_term, right_side, sum_at, Chosen}
use Rattle.sums.proofs.Steps.{rack_point_lem, digits_under}

module _ {A : Type 0} {f : Field A} (W : Working f) where
  open f use {ops}
  open W.field use {laws}

  module _ (l : Layout) (h p : ℕ) (helpers : List ℕ) (ch : Chosen l h helpers) (shares : List ℕ) (e m : ℕ) where
    adm : Cabinet l
    adm = ch.adm

    n : ℕ
    n = digits l + (l.racks - 1)

    K : ℕ → ℕ
    K = helper_place (digits l) h (helper_at helpers)

    Q : ℕ → A
    Q = place_point f l h p

    help : Helping (shape_of f l) h (helper_at helpers) l.helpers (parity_racks l)
    help = helping_from f l (total_plain l adm ch.plain) adm.helpers_high h helpers ch.host_in ch.inside ch.rising ch.other

    K-rising : Rising K l.helpers n
    unfolding K n
    K-rising = helpers_rising (digits l) l.racks h (helper_at helpers) l.helpers help.host_in help.rising help.other

    -- the word of the group as far as the shares tell it, zero at the unknowns
    Y : ℕ → A
    Y k = ops.mul (pow ops (point (shape_of f l) (get_or helpers k 0) (digit (digits l) (layer_of (digits l) h p 0) (get_or helpers k 0)) 0) m) (sent_symbol f l e shares m p k)

    Told : ℕ → A
    Told = fill K Y l.helpers (λ x. ops.zero)

    free_zero : (y : ℕ) → fill (free K l.helpers) (λ k. ops.zero) (parity_racks l) Told y ≡ Told y
    unfolding Told
    free_zero y = sym (fill_same (free K l.helpers) (λ k. ops.zero) Told (parity_racks l) Told y
        (λ k q e. fill_outside K Y (λ y. ops.zero) l.helpers y (λ i m z. free_other K l.helpers n k K-rising i m (sym e ∙ z))) (λ w. refl))

    nothing : (y : ℕ) → fill K (λ k. ops.zero) l.helpers (λ y. ops.zero) y ≡ ops.zero
    nothing y = sym (fill_same K (λ k. ops.zero) (λ y. ops.zero) l.helpers (λ y. ops.zero) y (λ k q e. refl) (λ w. refl))

    check_none : (t : ℕ) → check ops Q n (λ y. ops.zero) t ≡ ops.zero
    unfolding check
    check_none t = sum_is_zero ops laws n _ (λ i q. mul_zero ops laws _)

    -- a helper's point, to the power of the check
    helper_point_lem : (k t : ℕ) → k < l.helpers → ops.mul (pow ops (Q (K k)) t) (Y k) ≡ side_term f l h p helpers shares e m t k
    unfolding Q K Y place_point group_point helper_place side_term
    helper_point_lem k t q =
        let pt = point (shape_of f l) (get_or helpers k 0) (digit (digits l) (layer_of (digits l) h p 0) (get_or helpers k 0)) 0 in
        ap (λ y. ops.mul (pow ops y t) (Y k)) (join_add (digits l) _ _ (unskip h (get_or helpers k 0))
        ∙ ap (λ i. pow ops (point (shape_of f l) i (digit (digits l) (layer_of (digits l) h p 0) i) 0) l.size) (skip_unskip h (get_or helpers k 0) (ch.other k q)))
        ∙ sym (mul_assoc ops laws (pow ops (pow ops pt l.size) t) (pow ops pt m) (sent_symbol f l e shares m p k))
        ∙ ap (λ y. ops.mul y (sent_symbol f l e shares m p k)) (sym (pow_split ops laws pt l.size t m)
        ∙ ap (λ y. pow ops y (l.size * t + m)) (sym (rack_point_lem W l adm (get_or helpers k 0) (layer_of (digits l) h p 0))))

    side : (t : ℕ) → rest ops Q n (free K l.helpers) (parity_racks l) (zeros ops) Told t ≡ ops.neg (right_side f l h p helpers shares e m t)
    unfolding rest Told check right_side
    side t =
        zero_add ops laws _ ∙ ap ops.neg (
        check_congr ops laws Q n K _ Told t (λ y q. free_zero y)
        ∙ check_fill ops laws Q n K Y (λ y. ops.zero) l.helpers t (rising_places K l.helpers n K-rising)
        ∙ ap (λ y. ops.add y (check ops (λ j. Q (K j)) l.helpers Y t)) (check_congr ops laws Q n K _ (λ y. ops.zero) t (λ y q. nothing y) ∙ check_none t)
        ∙ zero_add ops laws _
        ∙ sum_congr ops l.helpers _ _ (λ k q. helper_point_lem k t q))

    -- so what the solver gives, less the weight of the host's point, is the host's sum
    pub solved_is : (a : ℕ) → a < digits l →
        ops.mul (ops.inv (pow ops (point (shape_of f l) h a 0) m)) (solve ops (unknown_point f l h p helpers) (parity_racks l)
        (λ t. ops.neg (right_side f l h p helpers shares e m t)) a) ≡ sum_at f l h p helpers shares e m a
    unfolding sum_at host_sum erased known unknown_point place_point n K Q Y Told
    solved_is a k =
        let inside : a < parity_racks l = omega (arith, digits_under l adm) in
        ap (ops.mul (ops.inv (pow ops (point (shape_of f l) h a 0) m)))
        (sym (solve_congr ops _ _ a (parity_racks l) inside (λ k r. refl) (rest ops Q n (free K l.helpers) (parity_racks l) (zeros ops) Told) _ (λ t r. side t)))
