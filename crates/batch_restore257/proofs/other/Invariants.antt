-- Made by tools/twin.py from crates/batch_restore/proofs/other/Invariants.antt.
use Rattle.std.proofs.Common.{◌≡◌, get_or}
use Rattle.algebra.specs.Group.{free}
use Rattle.batch_restore257.proofs.other.Given as goal

abbrev pub invariant-loop-q : goal.invariant-loop-q
invariant-loop-q l = l.x ≡ free (λ k. get_or l.es k 0) l.q-index l.i
