use Rattle.std.proofs.Common.{◌*◌}
use Rattle.lists.proofs.Loops.{Upto}
use Rattle.image257.proofs.Second.{byte_of}
use Rattle.image257.proofs.write_symbols.Given as goal

-- the bytes of the symbols before stand in their places
abbrev pub invariant-loop-j : goal.invariant-loop-j
invariant-loop-j l = Upto (byte_of l.symbols) l.initial.out l.out (2 * l.j)
