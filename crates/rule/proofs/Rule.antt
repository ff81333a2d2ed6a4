-- The host rack sums of a group: for any weight and shares the checks have a solution, and its host sums are those of the formula.
-- Assumes nothing.
use mathlib.Core.Path.{◌≡◌, sym, ◌∙◌, ap, subst}
use mathlib.Core.List.{List}
use Prim.Native.Nat.{ℕ, ◌+◌, ◌-◌, ◌/◌, ◌^◌, ◌<◌, ◌≤◌}
use native.Mathlib.Nat.{div-lt_iff_lt-mul}
use native.Mathlib.Numerals.{add-one}
use native.Mathlib.Omega.{arith}
use lib.ListN.{get_or}
use Rattle.algebra.specs.Shape.{Field}
use Rattle.algebra.specs.Layers.{digit, layer_of}
use Rattle.algebra.specs.Cabinet.{Helping, Solution}
use Rattle.algebra.proofs.Numbers.{rising_from}
use Rattle.algebra.proofs.Layers.{digit_below, layer_back, group_in}
use Rattle.algebra.specs.Repair.{host_sum}
use Rattle.algebra.proofs.Cabinet.{witness, solved, sums_only}
use Rattle.layout.specs.declared.Layout.{Layout}
use Rattle.layout.specs.Layout.{digits, layers, groups, parity_racks}
use Rattle.codeword.specs.Codeword.{shape_of, Solvable}
use Rattle.rule.specs.Rule.{group_at, Helpers}

-- rising racks other than the host, in the algebra's terms
pub helping_from : {A : Type 0} (f : Field A) (l : Layout) → parity_racks l + l.helpers ≡ digits l + (l.racks - 1) → l.helpers ≤ l.racks - 1 →
    (h : ℕ) (helpers : List ℕ) → h < l.racks → ((k : ℕ) → k < l.helpers → get_or helpers k 0 < l.racks) →
    ((k : ℕ) → k + 1 < l.helpers → get_or helpers k 0 < get_or helpers (k + 1) 0) → ((k : ℕ) → k < l.helpers → ¬ (get_or helpers k 0 ≡ h)) →
    Helping (shape_of f l) h (λ k. get_or helpers k 0) l.helpers (parity_racks l)
helping_from f l whole under h helpers host inside rising other = record {
  host_in = host;
  rising = rising_from (λ k. get_or helpers k 0) l.helpers l.racks
      (λ k q. subst (λ n. get_or helpers k 0 < get_or helpers n 0) (add-one k) (rising k (omega (arith, add-one k)))) inside;
  other = other;
  total = whole;
  few = under;
}

module _ {A : Type 0} (f : Field A) (l : Layout) (ok : Solvable f l) (x : ℕ) (helpers : List ℕ) (help : Helpers l x helpers) where
  pub host_in : x / l.size < l.racks
  host_in = (div-lt_iff_lt-mul ok.usable.fits.some_places).1 help.lost_in

  -- the helpers in the algebra's terms
  pub helping : Helping (shape_of f l) (x / l.size) (λ k. get_or helpers k 0) l.helpers (parity_racks l)
  helping = helping_from f l ok.total ok.few (x / l.size) helpers host_in help.inside help.rising help.other

  -- each layer is in a group below L/s
  pub group_below : (j : ℕ) → j < layers l → group_at l x j < groups l
  group_below j h = rw ok.groups_are (group_in (digits l) ok.usable.fits.some_digits l.racks (x / l.size) j host_in h)

  -- layer j is that of its group and its digit
  back : (p j : ℕ) → group_at l x j ≡ p → layer_of (digits l) (x / l.size) p (digit (digits l) j (x / l.size)) ≡ j
  back p j e = ap (λ q. layer_of (digits l) (x / l.size) q (digit (digits l) j (x / l.size))) (sym e) ∙ layer_back (digits l) ok.usable.fits.some_digits (x / l.size) j

  module _ (p : ℕ) (inside : p < groups l) where
    group : p < digits l ^ (l.racks - 1)
    group = rw ok.groups_are at inside

    -- the host's rack sums of every solution are those of the formula, for any weight and shares
    pub solution_sums : (m : ℕ) (share : ℕ → A) (sums : ℕ → ℕ → A) →
        Solution (shape_of f l) m (x / l.size) p (λ k. get_or helpers k 0) l.helpers (parity_racks l) share sums →
        (j : ℕ) → group_at l x j ≡ p →
        sums (x / l.size) j ≡ host_sum (shape_of f l) (x / l.size) (digit (digits l) (layer_of (digits l) (x / l.size) p 0)) (λ k. get_or helpers k 0) l.helpers (parity_racks l) m share
        (digit (digits l) j (x / l.size))
    solution_sums m share sums sol j e =
        ap (sums (x / l.size)) (sym (back p j e))
        ∙ sums_only (shape_of f l) ok.usable.fits (x / l.size) host_in p group m (λ k. get_or helpers k 0) l.helpers (parity_racks l) helping share sums sol
        (digit (digits l) j (x / l.size)) (digit_below (digits l) ok.usable.fits.some_digits j (x / l.size))

    -- and there is one
    pub witness_sums : (m : ℕ) (share : ℕ → A) → ℕ → ℕ → A
    witness_sums m share = witness (shape_of f l) ok.usable.fits (x / l.size) host_in p group m (λ k. get_or helpers k 0) l.helpers (parity_racks l) helping share

    pub witness_solves : (m : ℕ) (share : ℕ → A) →
        Solution (shape_of f l) m (x / l.size) p (λ k. get_or helpers k 0) l.helpers (parity_racks l) share (witness_sums m share)
    unfolding witness_sums
    witness_solves m share = solved (shape_of f l) ok.usable.fits (x / l.size) host_in p group m (λ k. get_or helpers k 0) l.helpers (parity_racks l) helping share
