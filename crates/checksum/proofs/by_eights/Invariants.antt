use Rattle.std.proofs.Common.{◌≡◌, ◌≤◌, ◌-◌, length, drop}
use Rattle.checksum.specs.Checksum.{fed}
use Rattle.checksum.proofs.by_eights.Given as goal

-- what is still to be fed makes the result
abbrev pub invariant-loop-i : goal.invariant-loop-i
invariant-loop-i l = record { in_range : l.i ≤ length l.bytes; rest : fed l.r (drop l.i l.bytes) ≡ fed l.start l.bytes }

abbrev pub decreases-loop-i : goal.decreases-loop-i
decreases-loop-i l = length l.bytes - l.i
