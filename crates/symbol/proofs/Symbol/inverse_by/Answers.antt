use Rattle.algebra.proofs.Tables.{inverse_none, inverse_at}
use Rattle.symbol.proofs.Working.{working}
use Rattle.symbol.proofs.Symbol.inverse_by.Goals as goal

pub returns-then-x-eq0 : goal.returns-then-x-eq0
returns-then-x-eq0 c = search (inverse_none working)

pub returns : goal.returns
returns c = search (inverse_at working)
