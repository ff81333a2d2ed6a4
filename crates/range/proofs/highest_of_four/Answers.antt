use Rattle.std.proofs.Common.{arith}
use Rattle.range.proofs.Symbols.{four_none, four_more, four_end}
use Rattle.range.proofs.highest_of_four.Goals as goal

pub loop-k-init : goal.loop-k-init
loop-k-init g c = rw c.zero-top.ensures (four_none _ _ _)

pub loop-k-preserved : goal.loop-k-preserved
loop-k-preserved g c = let t = c.higher-top.ensures in four_more _ _ _ c.loop-k.k _ _ _ c.loop-k.invariant c.loop-k-test.true c.highest_apart.ensures t.0 t.1 t.2

pub returns : goal.returns
returns g c = four_end _ _ _ c.loop-k.k _ c.loop-k.invariant (omega arith)
