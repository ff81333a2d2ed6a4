use Rattle.std.proofs.Common.{◌-◌, ◌≤◌}
use Rattle.symbol.proofs.Working.{working}
use Rattle.batch_share.proofs.Batches.{Partly}
use Rattle.batch_share.proofs.gather.Given as goal

abbrev pub invariant-loop-g : goal.invariant-loop-g
invariant-loop-g l = (l.g ≤ l.u) × Partly working l.l l.h l.many l.rack l.g l.out

abbrev pub decreases-loop-g : goal.decreases-loop-g
decreases-loop-g l = l.u - l.g
