use Rattle.std.proofs.Common.{◌≡◌, ◌*◌}
use Rattle.kernel.specs.Inner.{Run}
use Rattle.syndrome.specs.Inner.{times_power, power_run}
use Rattle.syndrome.proofs.power_runs.Given as goal

-- a runs stand, and v is the next one's symbol
abbrev pub invariant-loop-a : goal.invariant-loop-a
invariant-loop-a g l = let n = g.N.FieldNumber in record {
  next : n.code l.v ≡ times_power n.field (n.code l.z) (n.code l.fn.first) l.a;
  runs : Run (power_run n.field (n.code l.z) (n.code l.fn.first) l.run) (n.codes l.fn.row) (n.codes l.row) 0 (l.a * l.run);
}
