use Rattle.std.proofs.Common.{arith}
use Rattle.symbol.proofs.Working.{working}
use Rattle.batch_restore.proofs.Rows.{points_none, points_more, points_end, pointing_adm, pointing_in}
use Rattle.batch_restore.proofs.list_points.Goals as goal

pub loop-t-init : goal.loop-t-init
loop-t-init c = points_none working _ _ _ _

pub point_power-v-requires : goal.point_power-v-requires
point_power-v-requires c = (search pointing_adm, search pointing_in, omega arith)

pub loop-t-preserved : goal.loop-t-preserved
loop-t-preserved c = search (points_more working)

pub returns : goal.returns
returns c = search (points_end working)
