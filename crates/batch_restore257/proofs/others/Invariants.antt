-- Made by tools/twin.py from crates/batch_restore/proofs/others/Invariants.antt.
use Rattle.std.proofs.Common.{ℕ, ◌≡◌, ◌<◌, length, get_or}
use Rattle.algebra.specs.Group.{free}
use Rattle.batch_restore257.proofs.others.Given as goal

abbrev pub invariant-loop-i : goal.invariant-loop-i
invariant-loop-i l = (n : ℕ) → n < l.i → get_or l.ks n 0 ≡ free (λ k. get_or l.es k 0) (length l.es) n
