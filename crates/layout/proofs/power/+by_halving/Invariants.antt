-- `by_halving` ends: the exponent falls at each call.
-- Assumes nothing.
use Rattle.layout.proofs.power.+by_halving.Given as goal

abbrev pub decreases-by_halving : goal.decreases-by_halving
decreases-by_halving l = l.e
