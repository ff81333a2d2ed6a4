-- Made by tools/twin.py from crates/batch_repair/proofs/subtract_rack/Invariants.antt.
use Rattle.symbol257.specs.Elem.{gf257}
use Rattle.kernel.specs.Inner.{Run}
use Rattle.batch_repair.specs.Inner.{less_rack}
use Rattle.batch_repair257.proofs.subtract_rack.Given as goal

abbrev pub invariant-loop-g : goal.invariant-loop-g
invariant-loop-g l = Run (less_rack gf257 l.initial.out l.to l.host l.from l.far l.lost l.g) l.initial.out l.out l.to l.len
