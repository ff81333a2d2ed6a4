use Rattle.std.proofs.Common.{◌≡◌, drop}
use Rattle.checksum.specs.Checksum.{fed}
use Rattle.checksum.proofs.by_ones.Given as goal

-- what is still to be fed makes the result
abbrev pub invariant-loop-byte : goal.invariant-loop-byte
invariant-loop-byte l = fed l.r (drop l.byte-index l.bytes) ≡ fed l.start l.bytes
