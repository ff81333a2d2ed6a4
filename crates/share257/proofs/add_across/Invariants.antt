-- Made by tools/twin.py from crates/share/proofs/add_across/Invariants.antt.
use Rattle.symbol257.specs.Elem.{gf257}
use Rattle.share.specs.Inner.{AcrossAdded}
use Rattle.share257.proofs.add_across.Given as goal

abbrev pub invariant-loop-i : goal.invariant-loop-i
invariant-loop-i l = AcrossAdded gf257 l.s l.run l.count l.i l.symbols l.at l.far l.m l.initial.sums l.sums
