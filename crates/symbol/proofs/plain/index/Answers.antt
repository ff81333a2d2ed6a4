use Rattle.std.proofs.Common.{arith}
use Rattle.symbol.proofs.Working.{reduced_is}
use Rattle.symbol.proofs.plain.index.Goals as goal

pub returns : goal.returns
returns c = (reduced_is _ (omega arith), omega arith)
