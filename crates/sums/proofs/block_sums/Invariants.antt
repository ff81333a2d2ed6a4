use Rattle.symbol.specs.Elem.{gf256}
use Rattle.sums.specs.Inner.{SumsTo}
use Rattle.sums.proofs.block_sums.Given as goal

abbrev pub invariant-loop-m : goal.invariant-loop-m
invariant-loop-m l = SumsTo gf256 l.l l.h l.w l.first l.helpers l.shares l.e l.m l.sums
