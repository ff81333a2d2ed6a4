use Rattle.columns.proofs.Rows.{row_wide}
use Rattle.columns.proofs.add_row.Goals as goal

pub returns : goal.returns
returns g c = row_wide g.met.N.FieldNumber.working _ _ _ _ _ _ _ _ _ _ _ _ c.widen.ensures c.add_product.ensures
