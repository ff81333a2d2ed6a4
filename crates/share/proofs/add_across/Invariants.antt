use Rattle.symbol.specs.Elem.{gf256}
use Rattle.share.specs.Inner.{AcrossAdded}
use Rattle.share.proofs.add_across.Given as goal

abbrev pub invariant-loop-i : goal.invariant-loop-i
invariant-loop-i l = AcrossAdded gf256 l.s l.run l.count l.i l.symbols l.at l.far l.m l.initial.sums l.sums
