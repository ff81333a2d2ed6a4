-- Made by tools/twin.py from crates/locating/proofs/residues/all_residues/Invariants.antt.
use Rattle.symbol257.specs.Elem.{gf257}
use Rattle.std.proofs.Common.{◌≤◌, ◌-◌}
use Rattle.locating.specs.Inner.{Kept}
use Rattle.locating257.proofs.residues.all_residues.Given as goal

abbrev pub invariant-loop-p : goal.invariant-loop-p
invariant-loop-p l = record { in_range : l.p ≤ l.total; kept : Kept gf257 l.l l.h l.helpers l.shares l.p l.zeroth l.first }

abbrev pub decreases-loop-p : goal.decreases-loop-p
decreases-loop-p l = l.total - l.p
