use Rattle.lists.proofs.Loops.{Upto}
use Rattle.image.specs.Image.{edition2, symbol_at}
use Rattle.image257.proofs.copy_symbols.Given as goal

-- the places before hold their symbols, the others what they held
abbrev pub invariant-loop-j : goal.invariant-loop-j
invariant-loop-j l = Upto (symbol_at edition2 l.image) l.initial.places l.places l.j
