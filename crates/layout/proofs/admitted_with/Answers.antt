use Rattle.layout.proofs.Facts.{with_other, with_same}
use Rattle.layout.proofs.admitted_with.Goals as goal

pub returns-then-e-errors : goal.returns-then-e-errors
returns-then-e-errors c = with_other _ _ _ c.if-e-errors.true

pub returns : goal.returns
returns c = with_same _ _ _ _ c.if-e-errors.false c.admitted.ensures
