-- The theorems for every field that the code works over and every layout that is admissible for it with E = 0, and for document 01's field and the second one.
-- Assumes nothing.
use mathlib.Core.List.{List}
use Prim.Native.Nat.{ℕ}
use Rattle.algebra.specs.Shape.{Field}
use Rattle.algebra.specs.Plain.{Working}
use Rattle.symbol.specs.Elem.{gf256}
use Rattle.symbol.proofs.Working.{working as working-256}
use Rattle.symbol257.specs.Elem.{gf257}
use Rattle.symbol257.proofs.Working.{working as working-257}
use Rattle.layout.specs.declared.Layout.{Layout}
use Rattle.layout.specs.Layout.{AdmissibleWith}
use Rattle.layout.proofs.Numbers.{whole_low}
use Rattle.codeword.proofs.Usable.{solvable}
use Rattle.rule.specs.Rule.{Helpers}
use Rattle.least.specs.Least.{TrulyLeast}
use Rattle.least.proofs.Attained.{truly_least}

module _ {A : Type 0} {f : Field A} (W : Working f) (l : Layout) (a : AdmissibleWith f.order 0 l) (x : ℕ) (helpers : List ℕ) (help : Helpers l x helpers) where
  pub truly_least_at : TrulyLeast f l x helpers
  truly_least_at = truly_least f l (solvable W l a) x helpers help (whole_low l a.admissible.cabinet)

pub truly_least_256 : (l : Layout) → AdmissibleWith gf256.order 0 l → (x : ℕ) (helpers : List ℕ) → Helpers l x helpers → TrulyLeast gf256 l x helpers
truly_least_256 = truly_least_at working-256

pub truly_least_257 : (l : Layout) → AdmissibleWith gf257.order 0 l → (x : ℕ) (helpers : List ℕ) → Helpers l x helpers → TrulyLeast gf257 l x helpers
truly_least_257 = truly_least_at working-257
