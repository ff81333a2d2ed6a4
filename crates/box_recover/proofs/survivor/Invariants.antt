use Rattle.std.proofs.Common.{◌≡◌}
use Rattle.algebra.specs.Group.{free}
use Rattle.box_recover.specs.Inner.{entry_of}
use Rattle.box_recover.proofs.survivor.Given as goal

-- x is past the trays listed before
abbrev pub invariant-loop-tray : goal.invariant-loop-tray
invariant-loop-tray l = l.x ≡ free (entry_of l.erased) l.tray-index l.i
