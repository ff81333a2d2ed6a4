-- The checks t = u·w + m summed over a group have one solution: its host rack sums and the group sums of all other racks.
-- Assumes nothing.
use mathlib.Core.Path.{◌≡◌, sym, ◌∙◌, ap, subst}
use mathlib.Core.List.{List}
use Prim.Native.Nat.{ℕ, ◌+◌, ◌-◌, ◌/◌, ◌<◌}
use native.Mathlib.Omega.{arith}
use lib.ListN.{get_or}
use Rattle.algebra.specs.Sum.{sum, pow}
use Rattle.algebra.specs.Shape.{Field}
use Rattle.algebra.specs.Points.{point, rack_check}
use Rattle.algebra.specs.Layers.{digit, layer_of}
use Rattle.algebra.specs.Cabinet.{group_sum, Solution}
use Rattle.algebra.specs.Group.{skip, unskip, digits_at, group_word}
use Rattle.algebra.proofs.Ring.{mul_cancel}
use Rattle.algebra.proofs.Sum.{sum_congr}
use Rattle.algebra.proofs.Layers.{digit_below}
use Rattle.algebra.proofs.Skip.{skip_unskip, join_add}
use Rattle.algebra.proofs.Free.{unskip_below}
use Rattle.algebra.proofs.Repair.{solution, word_only, point_not_zero}
use Rattle.algebra.proofs.Cabinet.{digits_are, group_sum_lem}
use Rattle.layout.specs.declared.Layout.{Layout}
use Rattle.layout.specs.Layout.{digits, groups, parity_racks}
use Rattle.codeword.specs.Codeword.{shape_of, Solvable}
use Rattle.rule.specs.Rule.{group_at, Helpers}
use Rattle.rule.proofs.Rule.{host_in, helping, solution_sums}

module _ {A : Type 0} (f : Field A) (l : Layout) (ok : Solvable f l) (x : ℕ) (helpers : List ℕ) (help : Helpers l x helpers) (p : ℕ) (inside : p < groups l) (m : ℕ) (share : ℕ → A) where
  abbrev h : ℕ
  h = x / l.size

  -- the digits of the group's layers at the racks other than the host
  abbrev a : ℕ → ℕ
  a = digit (digits l) (layer_of (digits l) h p 0)

  a_below : (i : ℕ) → i < l.racks → a i < digits l
  a_below i k = digit_below (digits l) ok.usable.fits.some_digits (layer_of (digits l) h p 0) i

  -- what solves the group's checks t = u·w + m and agrees with the shares
  abbrev pub Solves : (ℕ → ℕ → A) → Type 0
  Solves = Solution (shape_of f l) m (x / l.size) p (λ k. get_or helpers k 0) l.helpers (parity_racks l) share

  over : (g : ℕ → A) → group_sum (shape_of f l) h p g ≡ sum f.ops (digits l) (λ b. g (layer_of (digits l) h p b))
  over = group_sum_lem (shape_of f l) ok.usable.fits h (host_in f l ok x helpers help) p (rw ok.groups_are at inside)

  -- the m-th power of the point of the j-th rack other than the host
  weight : ℕ → A
  weight j = pow f.ops (point (shape_of f l) (skip h j) (a (skip h j)) 0) m

  module _ (sums : ℕ → ℕ → A) (sol : Solves sums) where
    -- the sums digit by digit
    at : ℕ → ℕ → A
    at b i = sums i (layer_of (digits l) h p b)

    checks : (w : ℕ) → w < parity_racks l → sum f.ops (digits l) (λ b. rack_check (shape_of f l) (digits_at h a b) m (at b) w) ≡ f.ops.zero
    unfolding at
    checks w k =
        sum_congr f.ops (digits l) _ _ (λ b n. ap (λ e. rack_check (shape_of f l) e m (at b) w) (digits_are (digits l) h p b ok.usable.fits.some_digits n))
        ∙ sym (over (λ j. rack_check (shape_of f l) (digit (digits l) j) m (λ i. sums i j) w)) ∙ sol.checks w k

    group_word_lem : (j : ℕ) → j < l.racks - 1 →
        f.ops.mul (weight j) (group_sum (shape_of f l) h p (sums (skip h j)))
        ≡ solution (shape_of f l) ok.usable.fits h a a_below (λ k. get_or helpers k 0) l.helpers (parity_racks l) (helping f l ok x helpers help) m share (digits l + j)
    unfolding at group_word weight
    group_word_lem j k =
        ap (f.ops.mul (weight j)) (over (sums (skip h j)))
        ∙ sym (join_add (digits l) _ _ j)
        ∙ word_only (shape_of f l) ok.usable.fits h a a_below (λ k. get_or helpers k 0) l.helpers (parity_racks l) (helping f l ok x helpers help) m at share checks
        (λ k q. sym (sol.given k q) ∙ over (sums (get_or helpers k 0))) (digits l + j) (omega arith)

  -- two solutions have the same host rack sums in the group's layers, and the same group sums of every other rack
  pub solution_one : (one two : ℕ → ℕ → A) → Solves one → Solves two →
      ((j : ℕ) → group_at l x j ≡ p → one (x / l.size) j ≡ two (x / l.size) j)
      × ((i : ℕ) → i < l.racks → ¬ (i ≡ x / l.size) → group_sum (shape_of f l) (x / l.size) p (one i) ≡ group_sum (shape_of f l) (x / l.size) p (two i))
  unfolding weight
  solution_one one two s t = (
    λ j e. solution_sums f l ok x helpers help p inside m share one s j e ∙ sym (solution_sums f l ok x helpers help p inside m share two t j e),
    λ i k d.
        let j = unskip h i in
        let hj = unskip_below h i (l.racks - 1) (omega (arith, host_in f l ok x helpers help)) (omega arith) d in
        subst (λ n. group_sum (shape_of f l) h p (one n) ≡ group_sum (shape_of f l) h p (two n)) (skip_unskip h i d)
        (mul_cancel f.ops ok.usable.field.laws (weight j) _ _
        (point_not_zero (shape_of f l) ok.usable.fits h a a_below (λ k. get_or helpers k 0) l.helpers (parity_racks l) (helping f l ok x helpers help) (skip h j) (a (skip h j)) m)
        (group_word_lem one s j hj ∙ sym (group_word_lem two t j hj))),
  )
