use Rattle.std.proofs.Common.{◌≡◌, ℕ, ◌+◌, ◌*◌}
use Rattle.symbol.specs.Elem.{gf256}
use Rattle.rack_checks.specs.Inner.{Weighed}
use Rattle.rack_checks.proofs.raise_weight.Given as goal

-- t is the check p of the weight, and those before are raised
abbrev pub invariant-loop-t : goal.invariant-loop-t
invariant-loop-t l = (p : ℕ) × (l.t ≡ p * l.l.size + l.m) × Weighed gf256 l.l l.w l.first l.i l.m l.cur l.fn.sums l.sums p
