use Rattle.std.proofs.Common.{◌≡◌}
use Rattle.algebra.specs.Group.{free}
use Rattle.algebra.specs.Repair.{helper_place}
use Rattle.sums.specs.Inner.{helper_at}
use Rattle.sums.proofs.free_place.Given as goal

abbrev pub invariant-loop-helper : goal.invariant-loop-helper
invariant-loop-helper l = l.x ≡ free (helper_place l.s l.h (helper_at l.helpers)) l.helper-index l.i
