use Rattle.symbol.proofs.Working.{working}
use Rattle.sums.proofs.Sides.{share_added}
use Rattle.sums.proofs.add_share.Goals as goal

pub returns : goal.returns
returns c = search (share_added working)
