use Rattle.symbol257.proofs.Working.{minus_one_is}
use Rattle.field.proofs.wide.U16FieldNumber.minus_one.Goals as goal

pub returns : goal.returns
returns c = minus_one_is
