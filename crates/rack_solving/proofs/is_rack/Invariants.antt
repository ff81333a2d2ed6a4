use Rattle.rack_solving.specs.Inner.{RackTo}
use Rattle.rack_solving.proofs.is_rack.Given as goal

-- the entries are places of one rack as far as place g
abbrev pub invariant-loop-g : goal.invariant-loop-g
invariant-loop-g l = RackTo l.u l.es l.i l.g
