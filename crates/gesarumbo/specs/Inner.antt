-- What an inner function gives. Nothing here has to be believed.
-- Assumes nothing.
use Rattle.std.specs.Prelude.{cond, ℕ, eqb}
use Rattle.gesarumbo.specs.declared.numbers.PartNumbers.{PartNumbers}

-- the numbers of a part of n symbols that was read, which begins at `start` if it lies in the codeword
abbrev pub run_numbers : ℕ → ℕ → ℕ → ℕ → ℕ → PartNumbers
run_numbers lost tray first start n =
    record { refusal = 0; source = cond (eqb tray lost) 2 1; offset = cond (eqb tray lost) first start; length = n }
