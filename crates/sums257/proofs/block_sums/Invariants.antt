-- Made by tools/twin.py from crates/sums/proofs/block_sums/Invariants.antt.
use Rattle.symbol257.specs.Elem.{gf257}
use Rattle.sums.specs.Inner.{SumsTo}
use Rattle.sums257.proofs.block_sums.Given as goal

abbrev pub invariant-loop-m : goal.invariant-loop-m
invariant-loop-m l = SumsTo gf257 l.l l.h l.w l.first l.helpers l.shares l.e l.m l.sums
