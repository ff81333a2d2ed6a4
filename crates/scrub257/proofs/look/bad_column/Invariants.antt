-- Made by tools/twin.py from crates/scrub/proofs/look/bad_column/Invariants.antt.
use Rattle.std.proofs.Common.{◌≡◌, ℕ, ◌+◌, ◌*◌, ◌<◌, get_or}
use Rattle.algebra.specs.Plain.{reduced}
use Rattle.symbol257.specs.Elem.{gf257}
use Rattle.scrub257.proofs.look.bad_column.Given as goal

-- the checks before t are not broken
abbrev pub invariant-loop-t : goal.invariant-loop-t
invariant-loop-t l = (v : ℕ) → v < l.t → reduced gf257 (get_or l.sums (v * l.w + l.j) 0) ≡ 0
