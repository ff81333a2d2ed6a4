use Rattle.syndrome.specs.Inner.{Adding}
use Rattle.syndrome.proofs.later_terms.Given as goal

-- the checks below t have their terms
abbrev pub invariant-loop-t : goal.invariant-loop-t
invariant-loop-t g l =
    let n = g.N.FieldNumber in
    Adding n.field l.w (n.codes l.row) (n.codes l.fn.cur) (n.codes l.fn.sums) (n.codes l.sums) (n.codes l.cur) l.t
