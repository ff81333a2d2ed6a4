-- Made by tools/twin.py from crates/sums/proofs/add_share/Answers.antt.
use Rattle.symbol257.proofs.Working.{working}
use Rattle.sums.proofs.Sides.{share_added}
use Rattle.sums257.proofs.add_share.Goals as goal

pub returns : goal.returns
returns c = search (share_added working)
