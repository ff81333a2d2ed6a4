-- Made by tools/twin.py from crates/restore/proofs/restore_blocks/Invariants.antt.
use Rattle.std.proofs.Common.{◌*◌}
use Rattle.symbol257.specs.Elem.{gf257}
use Rattle.restore.specs.Inner.{RestoredTo}
use Rattle.restore257.proofs.restore_blocks.Given as goal

-- q blocks are restored
abbrev pub invariant-loop-q : goal.invariant-loop-q
invariant-loop-q l = RestoredTo gf257 l.l l.es l.fn.c (l.q * l.w) l.c
