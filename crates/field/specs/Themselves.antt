-- Numbers are read as themselves.
-- Assumes nothing.
use Rattle.std.specs.Prelude.{ℕ}
use Rattle.std.proofs.Common.{sym}
use Rattle.std.proofs.lemmas.List.{map-id}
use Rattle.field.specs.Numbers.{AsNumbers}

pub themselves : AsNumbers {S = ℕ} (λ x. x) (λ xs. xs)
themselves = record { each = λ xs. sym (map-id xs) }
