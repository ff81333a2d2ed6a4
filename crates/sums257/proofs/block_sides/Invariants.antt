-- Made by tools/twin.py from crates/sums/proofs/block_sides/Invariants.antt.
use Rattle.symbol257.specs.Elem.{gf257}
use Rattle.sums.specs.Inner.{SidesTo}
use Rattle.sums257.proofs.block_sides.Given as goal

abbrev pub invariant-loop-k : goal.invariant-loop-k
invariant-loop-k l = SidesTo gf257 l.l l.h l.w l.first l.helpers l.shares l.e l.m l.k l.sides
