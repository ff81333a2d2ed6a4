use Rattle.std.proofs.Common.{arith}
use Rattle.symbol257.specs.Elem.{gf257}
use Rattle.field.proofs.Inverting.{inverted_more}
use Rattle.field.proofs.wide.U16FieldNumber.invert.Goals as goal

pub loop-j-preserved : goal.loop-j-preserved
loop-j-preserved c = inverted_more gf257 _ _ c.args.to c.loop-j.j _ c.loop-j.invariant (omega arith) c.inverse_by.ensures
