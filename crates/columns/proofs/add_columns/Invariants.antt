use Rattle.std.proofs.Common.{◌*◌}
use Rattle.kernel.specs.Inner.{Run}
use Rattle.columns.specs.Inner.{weighted}
use Rattle.columns.proofs.add_columns.Given as goal

abbrev pub invariant-loop-c : goal.invariant-loop-c
invariant-loop-c g l =
    let n = g.N.FieldNumber in
    Run (weighted n.field (n.codes l.fn.found) l.to l.v l.run (n.codes l.sums) l.from (n.codes l.coefs) l.at)
    (n.codes l.fn.found) (n.codes l.found) l.to (l.c * l.run)
