use Rattle.kernel.specs.Inner.{Run}
use Rattle.columns.specs.Inner.{negated}
use Rattle.columns.proofs.runs.negate.Given as goal

abbrev pub invariant-loop-j : goal.invariant-loop-j
invariant-loop-j g l =
    let n = g.N.FieldNumber in
    Run (negated n.field (n.codes l.src) l.from) (n.codes l.fn.out) (n.codes l.out) l.to l.j
