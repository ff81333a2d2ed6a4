use Rattle.std.proofs.Common.{◌≡◌, ℕ, ◌<◌, get_or}
use Rattle.algebra.specs.Plain.{reduced}
use Rattle.kernel.proofs.all_zero.Given as goal

abbrev pub invariant-loop-j : goal.invariant-loop-j
invariant-loop-j g l = let n = g.N.FieldNumber in (i : ℕ) → i < l.j → reduced n.field (get_or (n.codes l.xs) i 0) ≡ 0
