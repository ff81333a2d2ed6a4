use Rattle.columns.proofs.Rows.{row_of}
use Rattle.columns.proofs.solve_columns.Goals as goal

pub returns : goal.returns
returns g c =
    let p = c.requires in
    row_of g.met.N.FieldNumber.working _ _ _ _ _ _ _ _ _ _ _ p.0.columns_low p.1 p.3 p.4 _ c.combine.ensures c.divide_row.ensures
