use Rattle.box_recover.specs.Inner.{Filled}
use Rattle.box_recover.proofs.fill.Given as goal

-- the trays listed before are copied, and nothing else
abbrev pub invariant-loop-tray : goal.invariant-loop-tray
invariant-loop-tray l = Filled l.erased l.word l.initial.c l.c l.tray-index
