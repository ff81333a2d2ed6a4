-- `Symbol::power` ends: the exponent falls at each call.
-- Assumes nothing.
use Rattle.symbol.proofs.Symbol.+power.Given as goal

abbrev pub decreases-power : goal.decreases-power
decreases-power l = l.e
