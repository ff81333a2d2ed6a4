use Rattle.std.proofs.Common.{arith}
use Rattle.box_recover.specs.Inner.{entry_of}
use Rattle.box_recover.proofs.Steps.{free_none, free_more, free_small, survivor_is}
use Rattle.box_recover.proofs.survivor.Goals as goal

pub loop-tray-init : goal.loop-tray-init
loop-tray-init c = free_none _ _

pub skipped-x-requires : goal.skipped-x-requires
skipped-x-requires c =
    let few = c.requires.0.few in
    omega (arith, free_small (entry_of c.args.erased.now) c.loop-tray.tray-index c.args.i _ c.loop-tray.invariant c.requires.1)

pub loop-tray-preserved : goal.loop-tray-preserved
loop-tray-preserved c =
    free_more (entry_of c.args.erased.now) c.loop-tray.tray-index c.args.i _ _ c.loop-tray.invariant c.skipped-x.ensures

pub returns : goal.returns
returns c = survivor_is c.args.erased.now c.loop-tray.tray-index c.args.i _ c.requires.0 c.requires.1 (omega arith) c.loop-tray.invariant
