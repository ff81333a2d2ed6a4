use Rattle.std.proofs.Common.{ℕ, ◌*◌, ◌<◌}
use Rattle.symbol.specs.Elem.{gf256}
use Rattle.restore.specs.Inner.{LayerFits}
use Rattle.restore.proofs.blocks_fit.Given as goal

-- the layers of q blocks fit
abbrev pub invariant-loop-q : goal.invariant-loop-q
invariant-loop-q l = (j : ℕ) → j < l.q * l.w → LayerFits gf256 l.l l.es l.c j
