use Rattle.std.proofs.Common.{◌*◌}
use Rattle.testing.proofs.Blocks.{SoundTo}
use Rattle.testing.proofs.scan_blocks.Given as goal

-- the layers of q blocks are sound
abbrev pub invariant-loop-q : goal.invariant-loop-q
invariant-loop-q g l = SoundTo g.met.N.FieldNumber.working l.l (g.N.FieldNumber.codes l.c) (l.q * l.w)
