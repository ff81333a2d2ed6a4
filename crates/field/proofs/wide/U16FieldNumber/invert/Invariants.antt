use Rattle.symbol257.specs.Elem.{gf257}
use Rattle.field.specs.Numbers.{Inverted}
use Rattle.field.proofs.wide.U16FieldNumber.invert.Given as goal

abbrev pub invariant-loop-j : goal.invariant-loop-j
invariant-loop-j l = Inverted gf257 l.fn.out l.out l.to l.j
