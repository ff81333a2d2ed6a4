use Rattle.std.proofs.Common.{sym}
use Rattle.box_recover.proofs.Steps.{survivor_listed, survivor_tested}
use Rattle.box_recover.proofs.survivor_at.Goals as goal

pub returns-then-not-is_absent : goal.returns-then-not-is_absent
returns-then-not-is_absent c = survivor_listed _ _ _ (sym c.if-not-is_absent.ensures)

pub returns : goal.returns
returns c = survivor_tested _ _ _ (sym c.if-not-is_absent.ensures)
