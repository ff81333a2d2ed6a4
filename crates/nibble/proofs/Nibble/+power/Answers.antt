-- `Nibble::power` meets its contract.
-- Assumes nothing.
use Rattle.nibble.proofs.Shifts.{power_none, halved, halved_odd}
use Rattle.nibble.proofs.Nibble.+power.Goals as goal

pub returns-then-e-eq0 : goal.returns-then-e-eq0
returns-then-e-eq0 t c = power_none _ _ c.if-e-eq0.true

pub returns-then-e-eq1 : goal.returns-then-e-eq1
returns-then-e-eq1 t c = halved_odd _ c.args.e c.if-e-eq1.true c.mul.ensures c.power-h.ensures c.mul-then-e-eq1.ensures

pub returns-else-e-eq1 : goal.returns-else-e-eq1
returns-else-e-eq1 t c = halved _ c.args.e c.if-e-eq1.false c.mul.ensures c.power-h.ensures
