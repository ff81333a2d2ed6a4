use Rattle.kernel.specs.Inner.{Run}
use Rattle.columns.specs.Inner.{scaled}
use Rattle.columns.proofs.runs.scale.Given as goal

abbrev pub invariant-loop-j : goal.invariant-loop-j
invariant-loop-j g l =
    let n = g.N.FieldNumber in
    Run (scaled n.field (n.codes l.fn.out) l.to (n.codes l.by) l.at) (n.codes l.fn.out) (n.codes l.out) l.to l.j
