use Rattle.std.proofs.Common.{arith}
use Rattle.symbol.specs.Elem.{gf256}
use Rattle.field.proofs.Inverting.{inverted_more}
use Rattle.field.proofs.bytes.U8FieldNumber.invert.Goals as goal

pub loop-j-preserved : goal.loop-j-preserved
loop-j-preserved c = inverted_more gf256 _ _ c.args.to c.loop-j.j _ c.loop-j.invariant (omega arith) c.inverse_by.ensures
