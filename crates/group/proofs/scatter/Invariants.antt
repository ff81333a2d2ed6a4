use Rattle.std.proofs.Common.{◌*◌}
use Rattle.group.specs.Inner.{Scattered}
use Rattle.group.proofs.scatter.Given as goal

abbrev pub invariant-loop-c : goal.invariant-loop-c
invariant-loop-c l = Scattered l.start l.run l.stride (l.c * l.run) l.src l.from l.initial.out l.out
