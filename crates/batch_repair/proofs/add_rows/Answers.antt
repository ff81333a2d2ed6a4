use Rattle.std.proofs.Common.{arith}
use Rattle.symbol.proofs.Working.{working}
use Rattle.batch_repair.proofs.Rows.{card_none, card_more, card_end}
use Rattle.batch_repair.proofs.add_rows.Goals as goal

pub loop-k-init : goal.loop-k-init
loop-k-init c = search (card_none working)

pub overflow_mul-k : goal.overflow_mul-k
overflow_mul-k c = omega (arith, c.requires.rows _ c.loop-k-test.true)

pub overflow_add-from : goal.overflow_add-from
overflow_add-from c = omega (arith, c.requires.rows _ c.loop-k-test.true)

pub add_multiple-requires : goal.add_multiple-requires
add_multiple-requires c = (omega (arith, c.loop-k.invariant.long, c.requires.room), c.requires.rows _ c.loop-k-test.true)

pub loop-k-preserved : goal.loop-k-preserved
loop-k-preserved c = search (card_more working)

pub returns : goal.returns
returns c = search (card_end working)
