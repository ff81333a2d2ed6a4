use Rattle.columns.proofs.Rows.{divided_of}
use Rattle.columns.proofs.divide_row.Goals as goal

pub returns : goal.returns
returns g c = divided_of g.met.N.FieldNumber.working _ _ _ _ _ _ _ _ _ _ c.requires.3 c.widen.ensures c.scale.ensures
