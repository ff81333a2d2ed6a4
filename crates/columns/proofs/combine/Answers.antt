use Rattle.std.proofs.Common.{arith}
use Rattle.columns.proofs.Rows.{combined_none, combined_more, combined_end}
use Rattle.columns.proofs.combine.Goals as goal

pub loop-t-init : goal.loop-t-init
loop-t-init g c = combined_none g.met.N.FieldNumber.working _ _ _ _ _ _ _ _ (rw c.zero.ensures at c.fill.ensures)

pub loop-t-preserved : goal.loop-t-preserved
loop-t-preserved g c =
    combined_more g.met.N.FieldNumber.working _ _ _ c.args.turns c.loop-t.t _ _ _ _ _ _ c.requires.0.width c.loop-t.invariant
    c.add_row.ensures

pub returns : goal.returns
returns g c =
    combined_end g.met.N.FieldNumber.working _ _ _ _ c.loop-t.t _ _ _ _ _ _ (rw c.zero.ensures at c.fill.ensures) c.loop-t.invariant
    (omega arith) (omega arith)
