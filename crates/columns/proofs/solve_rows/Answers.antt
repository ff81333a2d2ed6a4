use Rattle.columns.proofs.Rows.{solved_more}
use Rattle.columns.proofs.solve_rows.Goals as goal

pub loop-i-preserved : goal.loop-i-preserved
loop-i-preserved g c = solved_more g.met.N.FieldNumber.working _ _ _ _ c.loop-i.i _ _ _ _ c.loop-i.invariant c.solve_row.ensures
