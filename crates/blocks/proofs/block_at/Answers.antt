use Rattle.std.proofs.Common.{rules}
use Rattle.blocks.proofs.Widths.{next_low, block_from, width_low}
use Rattle.blocks.proofs.block_at.Goals as goal

pub allowed-requires : goal.allowed-requires
allowed-requires c = (search next_low, search rules)

pub returns-then-not-allowed : goal.returns-then-not-allowed
returns-then-not-allowed c = (search block_from, search rules, search width_low)
