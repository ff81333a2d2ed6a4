use Rattle.symbol.proofs.Working.{working}
use Rattle.locating.proofs.Rows.{agrees_more, agrees_not}
use Rattle.locating.proofs.row_agrees.Goals as goal

pub returns-then-difference-ne0 : goal.returns-then-difference-ne0
returns-then-difference-ne0 c = search (agrees_not working)

pub loop-j-preserved : goal.loop-j-preserved
loop-j-preserved c = search (agrees_more working)
