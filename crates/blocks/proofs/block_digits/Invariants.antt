use Rattle.std.proofs.Common.{◌≡◌, ◌*◌, ◌^◌, ◌≤◌}
use Rattle.blocks.specs.Inner.{block_limit, room_limit}
use Rattle.blocks.proofs.block_digits.Given as goal

abbrev pub invariant-loop-e : goal.invariant-loop-e
invariant-loop-e l = (l.w ≡ l.s ^ l.e) × (l.w ≤ block_limit) × (l.r * l.w ≤ room_limit)
