-- Made by tools/twin.py from crates/locating/proofs/residues/gap_row/Answers.antt.
use Rattle.symbol257.proofs.Working.{working}
use Rattle.locating.proofs.Rows.{gaps_none, gaps_more, gaps_end}
use Rattle.locating257.proofs.residues.gap_row.Goals as goal

pub loop-i-init : goal.loop-i-init
loop-i-init c = search (gaps_none working)

pub loop-i-preserved : goal.loop-i-preserved
loop-i-preserved c = search (gaps_more working)

pub returns : goal.returns
returns c = search (gaps_end working)
