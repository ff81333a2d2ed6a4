-- Made by tools/twin.py from crates/batch_restore/proofs/blocks/Invariants.antt.
use Rattle.std.proofs.Common.{◌≤◌, ◌-◌}
use Rattle.symbol257.specs.Elem.{gf257}
use Rattle.batch_kernel.specs.Wide.{weight_at}
use Rattle.batch_restore.specs.Inner.{BlockTo}
use Rattle.batch_restore257.proofs.blocks.Given as goal

abbrev pub invariant-loop-b : goal.invariant-loop-b
invariant-loop-b l = (l.b ≤ l.m) × BlockTo gf257 (weight_at gf257 l.picks l.wide) l.es l.ks l.gap l.first l.b l.initial.c l.c

abbrev pub decreases-loop-b : goal.decreases-loop-b
decreases-loop-b l = l.m - l.b
