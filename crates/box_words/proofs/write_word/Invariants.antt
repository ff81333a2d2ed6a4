use Rattle.lists.proofs.Loops.{Upto}
use Rattle.box_words.proofs.Answers.{symbol_of}
use Rattle.box_words.proofs.write_word.Given as goal

-- the places before hold their symbols
abbrev pub invariant-loop-x : goal.invariant-loop-x
invariant-loop-x l = Upto (symbol_of l.given) l.initial.out l.out l.x
