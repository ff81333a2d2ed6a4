use Rattle.symbol.proofs.Working.{working}
use Rattle.locating.proofs.Rows.{gaps_none, gaps_more, gaps_end}
use Rattle.locating.proofs.residues.gap_row.Goals as goal

pub loop-i-init : goal.loop-i-init
loop-i-init c = search (gaps_none working)

pub loop-i-preserved : goal.loop-i-preserved
loop-i-preserved c = search (gaps_more working)

pub returns : goal.returns
returns c = search (gaps_end working)
