use Rattle.std.proofs.Common.{arith, rules}
use Rattle.symbol.proofs.Working.{working}
use Rattle.batch_restore.proofs.Layers.{batch_none, batch_more, batch_end, job_still}
use Rattle.batch_restore.proofs.all_layers.Goals as goal

pub loop-j-init : goal.loop-j-init
loop-j-init c = search (batch_none, working)

pub layer-requires : goal.layer-requires
layer-requires c = (search job_still, search rules, omega arith, search rules, search rules)

pub loop-j-preserved : goal.loop-j-preserved
loop-j-preserved c = search (batch_more, working)

pub returns : goal.returns
returns c = search (batch_end, working)
