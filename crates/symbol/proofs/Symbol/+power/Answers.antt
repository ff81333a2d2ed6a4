-- `Symbol::power` meets its contract.
-- Assumes nothing.
use Rattle.std.proofs.Common.{sym, ap, ◌∙◌, arith}
use Rattle.symbol.specs.Arithmetic.{power as power_of}
use Rattle.symbol.proofs.Power.{power_zero, halved, halved_odd}
use Rattle.symbol.proofs.Symbol.+power.Goals as goal

pub returns-then-e-eq0 : goal.returns-then-e-eq0
returns-then-e-eq0 t c = sym (ap (power_of c.args.self.0) c.if-e-eq0.true ∙ power_zero c.args.self.0)

pub returns-then-e-eq1 : goal.returns-then-e-eq1
returns-then-e-eq1 t c = halved_odd (omega arith) c.args.e c.if-e-eq1.true c.mul.ensures c.power-h.ensures c.mul-then-e-eq1.ensures

pub returns-else-e-eq1 : goal.returns-else-e-eq1
returns-else-e-eq1 t c = halved (omega arith) c.args.e c.if-e-eq1.false c.mul.ensures c.power-h.ensures
