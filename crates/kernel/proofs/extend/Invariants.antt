use Rattle.std.proofs.Common.{◌*◌, ◌≤◌}
use Rattle.kernel.specs.Inner.{Run, repeated}
use Rattle.std.proofs.Common.{◌-◌}
use Rattle.kernel.proofs.extend.Given as goal

abbrev pub invariant-loop-c : goal.invariant-loop-c
invariant-loop-c g l = let n = g.N.FieldNumber in record {
  some : 1 ≤ l.c;
  within : l.c ≤ l.count;
  done : Run (repeated (n.codes l.fn.row) l.period) (n.codes l.fn.row) (n.codes l.row) 0 (l.c * l.period);
}

abbrev pub decreases-loop-c : goal.decreases-loop-c
decreases-loop-c g l = l.count - l.c
