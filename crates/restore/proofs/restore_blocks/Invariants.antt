use Rattle.std.proofs.Common.{◌*◌}
use Rattle.symbol.specs.Elem.{gf256}
use Rattle.restore.specs.Inner.{RestoredTo}
use Rattle.restore.proofs.restore_blocks.Given as goal

-- q blocks are restored
abbrev pub invariant-loop-q : goal.invariant-loop-q
invariant-loop-q l = RestoredTo gf256 l.l l.es l.fn.c (l.q * l.w) l.c
