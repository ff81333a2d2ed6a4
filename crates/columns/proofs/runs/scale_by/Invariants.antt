use Rattle.kernel.specs.Inner.{Run}
use Rattle.columns.specs.Inner.{scaled_by}
use Rattle.columns.proofs.runs.scale_by.Given as goal

abbrev pub invariant-loop-j : goal.invariant-loop-j
invariant-loop-j g l =
    let n = g.N.FieldNumber in
    Run (scaled_by n.field (n.codes l.fn.out) l.to (n.code l.x)) (n.codes l.fn.out) (n.codes l.out) l.to l.j
