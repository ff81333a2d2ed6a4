use Rattle.std.proofs.Common.{arith}
use Rattle.columns.proofs.Rows.{solved_one}
use Rattle.columns.proofs.solve_first.Goals as goal

pub returns-then-m-eq1 : goal.returns-then-m-eq1
returns-then-m-eq1 g c = solved_one g.met.N.FieldNumber.working _ _ _ _ _ _ _ _ _ c.if-m-eq1.true (omega arith) c.negate.ensures
