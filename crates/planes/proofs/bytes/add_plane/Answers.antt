use Rattle.planes.proofs.Planes.{plane_none, plane_more}
use Rattle.planes.proofs.bytes.add_plane.Goals as goal

pub loop-t-init : goal.loop-t-init
loop-t-init c = plane_none _ _ _ _ _ _ _

pub loop-t-preserved : goal.loop-t-preserved
loop-t-preserved c = search plane_more
