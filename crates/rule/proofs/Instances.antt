-- The rule's one outcome for every field that the code works over and every layout that is admissible for it with E = 0.
-- Assumes nothing.
use mathlib.Core.List.{List, []}
use Prim.Native.Nat.{ℕ}
use Rattle.algebra.specs.Shape.{Field}
use Rattle.algebra.specs.Plain.{Working}
use Rattle.layout.specs.declared.Layout.{Layout}
use Rattle.layout.specs.Layout.{AdmissibleWith}
use Rattle.codeword.proofs.Usable.{solvable}
use Rattle.rule.specs.Lost.{Losses, One}
use Rattle.rule.proofs.Lost.{rule_one}

module _ {A : Type 0} {f : Field A} (W : Working f) (l : Layout) (a : AdmissibleWith f.order 0 l) (lost helpers : List ℕ) (given : Losses l lost helpers) (shares host : List ℕ) where
  pub rule_one_at : One f l lost helpers shares host
  rule_one_at = rule_one f l (solvable W l a) lost helpers given shares host
