-- Made by tools/twin.py from crates/share/proofs/add_rest/Invariants.antt.
use Rattle.symbol257.specs.Elem.{gf257}
use Rattle.share.specs.Inner.{Rested}
use Rattle.share257.proofs.add_rest.Given as goal

abbrev pub invariant-loop-k : goal.invariant-loop-k
invariant-loop-k l = Rested gf257 l.l l.count l.h l.x l.symbols l.at l.k l.initial.shares l.shares
