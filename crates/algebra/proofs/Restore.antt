-- Any at most r trays of a codeword come back from the others, and the others decide whether there is one. Storing is the case where the trays k .. n - 1
-- are the ones worked out.
-- Assumes nothing.
use mathlib.Core.Path.{◌≡◌}
use Prim.Native.Nat.{ℕ, ◌*◌, ◌^◌, ◌≤◌, ◌<◌}
use native.Mathlib.Omega.{arith}
use Rattle.algebra.specs.Lagrange.{Distinct}
use Rattle.algebra.specs.Erasure.{zeros, Alike, Places, Meets, recover}
use Rattle.algebra.specs.Shape.{Shape, Fits}
use Rattle.algebra.specs.Layers.{digit}
use Rattle.algebra.specs.Cabinet.{layer_point, Codeword}
use Rattle.algebra.specs.Repair.{restored}
use Rattle.algebra.proofs.Erasure.{fill_outside, recovered, recovered_only, survivors}
use Rattle.algebra.proofs.Points.{trays_distinct}
use Rattle.algebra.proofs.Layers.{digit_below}

module _ {A : Type 0} (sh : Shape A) (fits : Fits sh) where
  open sh use {ops as o, racks as B, size as u, digits as s}
  open fits use {laws as L, some_digits}

  -- within a layer all points differ
  pub points_distinct : (j : ℕ) → Distinct (layer_point sh j) (B * u)
  unfolding layer_point
  points_distinct j = trays_distinct sh fits (digit s j) (λ i h. digit_below s some_digits j i)

  layer : (r : ℕ) (c : ℕ → ℕ → A) → Codeword sh r c → (j : ℕ) → j < s ^ B → Meets o (layer_point sh j) (B * u) r (zeros o) (λ x. c x j)
  layer r c good j h = record { at = λ t l. good.at j t h l }

  module _ (e : ℕ → ℕ) (m : ℕ) (places : Places e m (B * u)) where
    -- a tray that is not erased stays
    pub restored_others : (c : ℕ → ℕ → A) (x j : ℕ) → ((k : ℕ) → k < m → ¬ (x ≡ e k)) → restored sh e m c x j ≡ c x j
    unfolding restored recover
    restored_others c x j w = fill_outside e _ _ m x w

    -- with as many checks as trays erased it is a codeword, whatever the others hold
    pub restored_codeword : (c : ℕ → ℕ → A) → Codeword sh m (restored sh e m c)
    unfolding restored
    restored_codeword c = record { at = λ j t h l. (recovered o L (layer_point sh j) (B * u) e m places (points_distinct j) (zeros o) (λ y. c y j)).at t l }

    module _ (r : ℕ) (few : m ≤ r) (c d : ℕ → ℕ → A) (alike : (x j : ℕ) → x < B * u → j < s ^ B → ((k : ℕ) → k < m → ¬ (x ≡ e k)) → c x j ≡ d x j) (good : Codeword sh r d) where
      same : (j : ℕ) → j < s ^ B → Alike e m (B * u) (λ y. c y j) (λ y. d y j)
      same j h = record { at = λ y p w. alike y j p h w }

      -- with at least as many it is the only word that can be one
      pub restored_only : (x j : ℕ) → x < B * u → j < s ^ B → d x j ≡ restored sh e m c x j
      unfolding restored
      restored_only x j h l =
          recovered_only o L (layer_point sh j) (B * u) e m places (points_distinct j) (zeros o) (λ y. c y j) (λ y. d y j) (same j l)
          (record { at = λ t q. good.at j t l (omega arith) }) x h

      -- so if any codeword has these survivors, it is one
      pub restored_survivors : Codeword sh r (restored sh e m c)
      unfolding restored
      restored_survivors = record {
        at = λ j t l q.
            (survivors o L (layer_point sh j) (B * u) e m places (points_distinct j) (zeros o) (λ y. c y j) (λ y. d y j) r few (same j l) (layer r d good j l)).at t q;
      }
