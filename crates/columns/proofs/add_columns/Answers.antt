use Rattle.std.proofs.Common.{arith, ◌*◌}
use Rattle.kernel.proofs.Rows.{row_before}
use Rattle.columns.proofs.Rows.{columns_more}
use Rattle.columns.proofs.add_columns.Goals as goal

-- where the column lies
pub add_multiple-requires : goal.add_multiple-requires
add_multiple-requires g c =
    let e = row_before c.loop-c.c (c.args.v * c.args.turns) c.args.run c.loop-c-test.true in
    (omega arith, omega arith)

pub loop-c-preserved : goal.loop-c-preserved
loop-c-preserved g c =
    columns_more g.met.N.FieldNumber.working _ _ _ _ _ _ _ _ _ _ c.loop-c.c _ c.loop-c.invariant c.at.ensures c.add_multiple.ensures
