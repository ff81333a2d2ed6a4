use Rattle.symbol.proofs.Working.{working}
use Rattle.rack_checks.proofs.Places.{last_next}
use Rattle.rack_checks.proofs.Raising.{weights_more}
use Rattle.rack_checks.proofs.raise_rack.Goals as goal

pub loop-m-preserved : goal.loop-m-preserved
loop-m-preserved c = record { raised = search (weights_more working); last = last_next working _ _ _ _ _ _ _ _ c.rack_sum.ensures }
