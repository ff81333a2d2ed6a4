use Rattle.std.proofs.Common.{arith}
use Rattle.columns.proofs.Dividing.{two_runs, turn_more}
use Rattle.columns.proofs.turn.Goals as goal

-- the rows of the two runs
pub part-requires : goal.part-requires
part-requires g c =
    let a = c.args in
    let e = two_runs a.v a.m a.k c.requires.2 in
    let s = c.requires.0 in
    (omega arith, omega arith, omega arith)

pub part-requires-2 : goal.part-requires-2
part-requires-2 g c =
    let a = c.args in
    let e = two_runs a.v a.m a.k c.requires.2 in
    let s = c.requires.0 in
    (omega arith, omega arith, omega arith)

pub returns : goal.returns
returns g c = turn_more g.met.N.FieldNumber.working _ _ _ _ _ _ _ c.requires.1 c.requires.2 c.part.ensures c.part-2.ensures c.requires.3
