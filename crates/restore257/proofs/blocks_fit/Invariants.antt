-- Made by tools/twin.py from crates/restore/proofs/blocks_fit/Invariants.antt.
use Rattle.std.proofs.Common.{ℕ, ◌*◌, ◌<◌}
use Rattle.symbol257.specs.Elem.{gf257}
use Rattle.restore.specs.Inner.{LayerFits}
use Rattle.restore257.proofs.blocks_fit.Given as goal

-- the layers of q blocks fit
abbrev pub invariant-loop-q : goal.invariant-loop-q
invariant-loop-q l = (j : ℕ) → j < l.q * l.w → LayerFits gf257 l.l l.es l.c j
