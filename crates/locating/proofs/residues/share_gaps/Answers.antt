use Rattle.symbol.proofs.Working.{working}
use Rattle.locating.proofs.Parts.{gap_groups, gap_few, gap_first, share_gaps}
use Rattle.locating.proofs.residues.share_gaps.Goals as goal

pub cell-at-requires : goal.cell-at-requires
cell-at-requires c = (search gap_groups, search gap_few, search gap_first)

pub returns : goal.returns
returns c = search (share_gaps working)
