-- `power` meets its contract.
-- Assumes nothing.
use Rattle.algebra.proofs.Plain.{raised_none, raised_even, raised_odd}
use Rattle.symbol257.proofs.Working.{working}
use Rattle.symbol257.proofs.plain.+power.Goals as goal

pub returns-then-e-eq0 : goal.returns-then-e-eq0
returns-then-e-eq0 t c = raised_none working _ _ c.if-e-eq0.true

pub returns-then-e-eq1 : goal.returns-then-e-eq1
returns-then-e-eq1 t c = raised_odd working _ _ _ _ _ c.if-e-eq1.true c.product.ensures c.power-h.ensures c.product-then-e-eq1.ensures

pub returns-else-e-eq1 : goal.returns-else-e-eq1
returns-else-e-eq1 t c = raised_even working _ _ _ _ c.if-e-eq1.false c.product.ensures c.power-h.ensures
