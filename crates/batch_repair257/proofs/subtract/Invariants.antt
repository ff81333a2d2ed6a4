-- Made by tools/twin.py from crates/batch_repair/proofs/subtract/Invariants.antt.
use Rattle.symbol257.specs.Elem.{gf257}
use Rattle.kernel.specs.Inner.{Run}
use Rattle.batch_repair.specs.Inner.{lessened}
use Rattle.batch_repair257.proofs.subtract.Given as goal

abbrev pub invariant-loop-j : goal.invariant-loop-j
invariant-loop-j l = Run (lessened gf257 l.initial.out l.to l.src l.from) l.initial.out l.out l.to l.j
