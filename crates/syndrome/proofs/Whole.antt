-- Sums over all trays: with none left out they are the checks.
-- Assumes nothing.
use mathlib.Core.Path.{◌≡◌, ap, ◌∙◌}
use mathlib.Core.List.{List}
use Prim.Native.Nat.{ℕ, ◌+◌, ◌<◌}
use native.Mathlib.Omega.{arith}
use lib.ListN.{length}
use Rattle.algebra.specs.Sum.{pow}
use Rattle.algebra.specs.Lagrange.{check}
use Rattle.algebra.specs.Erasure.{fill}
use Rattle.algebra.proofs.Sum.{sum_congr}
use Rattle.algebra.specs.Shape.{Field}
use Rattle.kernel.specs.Inner.{cell}
use Rattle.layout.specs.declared.Layout.{Layout}
use Rattle.layout.specs.Layout.{trays}
use Rattle.codeword.specs.Codeword.{symbol_at, point_at, check_at}
use Rattle.syndrome.specs.Inner.{Listed, entry_of, survivor_at, Sums}

-- an empty list leaves no tray out
pub none_listed : (l : Layout) (es : List ℕ) → length es ≡ 0 → Listed l es
none_listed l es e = record {
  places = record { apart = λ j k hj hk q. absurd (omega arith); inside = λ k h. absurd (omega arith) };
  few = omega arith;
}

module _ {A : Type 0} (f : Field A) where
  open f use {ops}

  survivor_all : (l : Layout) (es c : List ℕ) → length es ≡ 0 → (j x : ℕ) → survivor_at f l es c j x ≡ symbol_at f l c x j
  unfolding survivor_at fill
  survivor_all l es c e j x = ap (λ n. fill (entry_of es) (λ k. ops.zero) n (λ y. symbol_at f l c y j) x) e

  -- so the sums are the checks
  pub sums_are : (l : Layout) (w first r : ℕ) (c es sums : List ℕ) → length es ≡ 0 → Sums f l w first r c es (trays l) sums → (t j : ℕ) → t < r → j < w →
      cell f w sums t j ≡ check_at f l c (first + j) t
  unfolding check_at check
  sums_are l w first r c es sums e s t j ht hj =
      s.at t j ht hj ∙ sum_congr ops (trays l) _ _ (λ x h. ap (ops.mul (pow ops (point_at f l (first + j) x) t)) (survivor_all l es c e (first + j) x))
