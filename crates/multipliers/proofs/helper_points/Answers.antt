use Rattle.std.proofs.Common.{arith, rules}
use Rattle.symbol.proofs.Working.{working}
use Rattle.multipliers.proofs.Sides.{helper_tray, points_end, points_more, points_none, size_under}
use Rattle.multipliers.proofs.helper_points.Goals as goal

pub loop-k-init : goal.loop-k-init
loop-k-init c = search (points_none working)

pub point_power-v-requires : goal.point_power-v-requires
point_power-v-requires c = (search rules, search helper_tray, search (rules, size_under))

pub loop-k-preserved : goal.loop-k-preserved
loop-k-preserved c =
    points_more working _ _ _ _ c.requires.0 _ _ _ _ _ c.layer_of-j.ensures.0 (omega arith)
    c.point_power-v.ensures c.fill.ensures c.loop-k.invariant

pub returns : goal.returns
returns c = search (points_end working)
