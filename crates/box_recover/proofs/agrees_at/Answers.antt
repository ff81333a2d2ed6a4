use Rattle.std.proofs.Common.{sym}
use Rattle.box_recover.proofs.Steps.{agrees_listed, agrees_tested}
use Rattle.box_recover.proofs.agrees_at.Goals as goal

pub returns-then-not-is_absent : goal.returns-then-not-is_absent
returns-then-not-is_absent c = agrees_listed _ _ _ _ (sym c.if-not-is_absent.ensures)

pub returns : goal.returns
returns c = agrees_tested _ _ _ _ (sym c.if-not-is_absent.ensures)
