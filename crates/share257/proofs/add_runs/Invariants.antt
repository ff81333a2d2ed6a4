-- Made by tools/twin.py from crates/share/proofs/add_runs/Invariants.antt.
use Rattle.symbol257.specs.Elem.{gf257}
use Rattle.share.specs.Inner.{TraysAdded}
use Rattle.share257.proofs.add_runs.Given as goal

abbrev pub invariant-loop-q : goal.invariant-loop-q
invariant-loop-q l = TraysAdded gf257 l.s l.run l.q l.symbols l.at l.far l.m l.initial.sums l.sums
