use Rattle.std.proofs.Common.{arith, ap, ◌/◌, ◌%◌}
use native.Mathlib.Nat.{one-le-pow}
use Rattle.algebra.specs.Layers.{digit}
use Rattle.layout.proofs.digit_at.Goals as goal

pub nonzero_div-result : goal.nonzero_div-result
nonzero_div-result c = omega (arith, one-le-pow c.args.i c.args.s c.requires.0)

pub returns : goal.returns
unfolding digit
returns c = ap (λ p. c.args.j / p % c.args.s) (omega arith)
