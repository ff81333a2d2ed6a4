use Rattle.std.proofs.Common.{◌≡◌, ℕ, ◌+◌, ◌*◌, ◌<◌, get_or}
use Rattle.algebra.specs.Plain.{reduced}
use Rattle.symbol.specs.Elem.{gf256}
use Rattle.scrub.proofs.look.bad_column.Given as goal

-- the checks before t are not broken
abbrev pub invariant-loop-t : goal.invariant-loop-t
invariant-loop-t l = (v : ℕ) → v < l.t → reduced gf256 (get_or l.sums (v * l.w + l.j) 0) ≡ 0
