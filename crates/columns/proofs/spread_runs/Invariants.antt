use Rattle.std.proofs.Common.{◌*◌}
use Rattle.kernel.specs.Inner.{Run}
use Rattle.columns.specs.Inner.{stretched}
use Rattle.columns.proofs.spread_runs.Given as goal

abbrev pub invariant-loop-c : goal.invariant-loop-c
invariant-loop-c g l =
    let n = g.N.FieldNumber in
    Run (stretched (n.codes l.coefs) l.at l.run) (n.codes l.fn.row) (n.codes l.row) 0 (l.c * l.run)
