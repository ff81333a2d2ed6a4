use Rattle.std.proofs.Common.{◌≡◌}
use Rattle.nibble.specs.Elem.{elem}
use Rattle.box_recover.specs.Inner.{weight_at}
use Rattle.box_recover.proofs.lagrange.weight.Given as goal

-- the factors of the points before are multiplied
abbrev pub invariant-loop-j : goal.invariant-loop-j
invariant-loop-j l = elem l.product ≡ weight_at l.points l.i (elem l.x) l.j
