-- Made by tools/twin.py from crates/test_kept/proofs/first/bad_block/Invariants.antt.
use Rattle.std.proofs.Common.{◌*◌}
use Rattle.symbol257.specs.Elem.{gf257}
use Rattle.test_kept.proofs.Blocks.{FitTo}
use Rattle.test_kept257.proofs.first.bad_block.Given as goal

abbrev pub invariant-loop-q : goal.invariant-loop-q
invariant-loop-q l = FitTo gf257 l.l l.w l.from l.es l.c (l.q * l.w)
