use Rattle.kernel.specs.Inner.{Run}
use Rattle.columns.specs.Inner.{divided}
use Rattle.columns.proofs.runs.divide.Given as goal

abbrev pub invariant-loop-j : goal.invariant-loop-j
invariant-loop-j g l =
    let n = g.N.FieldNumber in
    Run (divided n.field (n.codes l.src) l.from (n.codes l.fn.out) l.next (n.codes l.by) l.at) (n.codes l.fn.out) (n.codes l.out) l.to l.j
