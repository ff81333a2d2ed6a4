-- Made by tools/twin.py from crates/share/proofs/gather/Invariants.antt.
use Rattle.symbol257.specs.Elem.{gf257}
use Rattle.symbol257.proofs.Working.{working}
use Rattle.std.proofs.Common.{◌≡◌, ◌-◌, ◌≤◌}
use Rattle.share.proofs.Parts.{partly}
use Rattle.share257.proofs.gather.Given as goal

abbrev pub invariant-loop-g : goal.invariant-loop-g
invariant-loop-g l = record { in_range : l.g ≤ l.u; fed : l.out ≡ partly gf257 working.field l.l l.count l.h l.helper l.rack l.g }

abbrev pub decreases-loop-g : goal.decreases-loop-g
decreases-loop-g l = l.u - l.g
