use Rattle.std.proofs.Common.{◌≤◌, ◌-◌}
use Rattle.symbol.specs.Elem.{gf256}
use Rattle.batch_kernel.specs.Ready.{weight_at}
use Rattle.batch_restore.specs.Inner.{BlockTo}
use Rattle.batch_restore.proofs.blocks.Given as goal

abbrev pub invariant-loop-b : goal.invariant-loop-b
invariant-loop-b l = (l.b ≤ l.m) × BlockTo gf256 (weight_at gf256 l.picks l.wide) l.es l.ks l.gap l.first l.b l.initial.c l.c

abbrev pub decreases-loop-b : goal.decreases-loop-b
decreases-loop-b l = l.m - l.b
