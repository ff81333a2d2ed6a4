use Rattle.symbol.specs.Elem.{gf256}
use Rattle.horner.specs.Inner.{Left}
use Rattle.horner.proofs.steps.Given as goal

abbrev pub invariant-loop-a : goal.invariant-loop-a
invariant-loop-a l = Left gf256 l.s l.a l.t l.cur l.row l.initial.out l.out l.to l.len
