-- Made by tools/twin.py from crates/group/proofs/gather/Invariants.antt.
use Rattle.std.proofs.Common.{◌*◌}
use Rattle.kernel.specs.Inner.{Run}
use Rattle.group.specs.Inner.{gathered}
use Rattle.group257.proofs.gather.Given as goal

abbrev pub invariant-loop-c : goal.invariant-loop-c
invariant-loop-c l = Run (gathered l.src l.start l.run l.stride) l.initial.out l.out 0 (l.c * l.run)
