use Rattle.symbol.proofs.Working.{minus_one_is}
use Rattle.field.proofs.bytes.U8FieldNumber.minus_one.Goals as goal

pub returns : goal.returns
returns c = minus_one_is
