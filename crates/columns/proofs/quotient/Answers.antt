use Rattle.std.proofs.Common.{arith}
use Rattle.columns.proofs.Dividing.{quotient_start, quotient_more}
use Rattle.columns.proofs.quotient.Goals as goal

pub loop-t-init : goal.loop-t-init
loop-t-init g c = quotient_start g.met.N.FieldNumber.working _ _ _ _ c.requires.2 _ _ (rw c.one.ensures at c.fill.ensures)

pub loop-t-preserved : goal.loop-t-preserved
loop-t-preserved g c =
    quotient_more g.met.N.FieldNumber.working _ _ _ _ c.requires.2 c.loop-t.t _ _ _ (omega arith) (omega arith)
    c.requires.3 c.loop-t.invariant c.divide.ensures
