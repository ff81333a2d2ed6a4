use Rattle.planes.specs.Inner.{Plane}
use Rattle.planes.proofs.bytes.add_plane.Given as goal

abbrev pub invariant-loop-t : goal.invariant-loop-t
invariant-loop-t l = Plane l.w l.t l.i l.k l.sums l.coefs l.at l.initial.found l.found
