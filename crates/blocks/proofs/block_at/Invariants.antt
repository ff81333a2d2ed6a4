use Rattle.std.proofs.Common.{◌≡◌, ◌^◌}
use Rattle.blocks.specs.Inner.{Allowed}
use Rattle.blocks.proofs.block_at.Given as goal

abbrev pub invariant-loop-n : goal.invariant-loop-n
invariant-loop-n l = (l.w ≡ l.s ^ l._n) × Allowed l.p l.left l.rows l.w
