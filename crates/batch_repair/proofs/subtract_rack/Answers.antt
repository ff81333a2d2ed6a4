use Rattle.std.proofs.Common.{refl, arith}
use Rattle.symbol.proofs.Working.{working}
use Rattle.batch_repair.proofs.Rows.{rack_none, rack_more, rack_end}
use Rattle.batch_repair.proofs.subtract_rack.Goals as goal

pub loop-g-init : goal.loop-g-init
loop-g-init c = search (rack_none working)

pub overflow_mul-g : goal.overflow_mul-g
overflow_mul-g c = omega (arith, c.requires.rows _ c.loop-g-test.true)

pub overflow_add-from : goal.overflow_add-from
overflow_add-from c = omega (arith, c.requires.rows _ c.loop-g-test.true)

pub subtract_sound-requires : goal.subtract_sound-requires
subtract_sound-requires c = (omega (arith, c.loop-g.invariant.long, c.requires.room), c.requires.rows _ c.loop-g-test.true)

pub loop-g-preserved : goal.loop-g-preserved
loop-g-preserved c = rack_more working _ _ _ _ _ _ _ _ _ _ _ refl c.loop-g.invariant c.subtract_sound.ensures

pub returns : goal.returns
returns c = search (rack_end working)
