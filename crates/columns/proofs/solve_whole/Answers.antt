use Rattle.std.proofs.Common.{arith}
use Rattle.columns.proofs.Rows.{whole_of}
use Rattle.columns.proofs.solve_whole.Goals as goal

pub returns : goal.returns
returns g c =
    let p = c.requires in
    let one = p.0.one in
    whole_of g.met.N.FieldNumber.working _ _ _ _ _ _ _ _ _ _ _ (omega arith) p.1 p.3 p.4 one _ _ c.at.ensures
    c.scale_by.ensures c.combine.ensures
