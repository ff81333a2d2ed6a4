use Rattle.columns.specs.Inner.{Combined}
use Rattle.columns.proofs.combine.Given as goal

abbrev pub invariant-loop-t : goal.invariant-loop-t
invariant-loop-t g l =
    let n = g.N.FieldNumber in
    Combined n.field l.w l.v l.run l.t l.i (n.codes l.sums) (n.codes l.coefs) (n.codes l.initial.found) (n.codes l.found)
