use Rattle.std.proofs.Common.{ℕ, ap, ◌∙◌, eqb}
use Rattle.algebra.specs.Plain.{reduced}
use Rattle.testing.proofs.is_zero.Goals as goal

pub returns : goal.returns
returns g c = ap (λ (y : ℕ). eqb y 0) (c.index.ensures.0 ∙ ap (reduced g.N.FieldNumber.field) c.at.ensures)
