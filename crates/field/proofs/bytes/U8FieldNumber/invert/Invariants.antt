use Rattle.symbol.specs.Elem.{gf256}
use Rattle.field.specs.Numbers.{Inverted}
use Rattle.field.proofs.bytes.U8FieldNumber.invert.Given as goal

abbrev pub invariant-loop-j : goal.invariant-loop-j
invariant-loop-j l = Inverted gf256 l.fn.out l.out l.to l.j
