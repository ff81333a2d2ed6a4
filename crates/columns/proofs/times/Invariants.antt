use Rattle.columns.specs.Inner.{Timing}
use Rattle.columns.proofs.times.Given as goal

abbrev pub invariant-loop-t : goal.invariant-loop-t
invariant-loop-t g l =
    let n = g.N.FieldNumber in
    Timing n.field l.v l.q (n.codes l.points) (n.codes l.fn.out) (n.codes l.out) (n.codes l.carry) l.t
