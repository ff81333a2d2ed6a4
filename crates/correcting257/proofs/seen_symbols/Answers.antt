-- Made by tools/twin.py from crates/correcting/proofs/seen_symbols/Answers.antt.
use Rattle.correcting.proofs.Symbols.{seen_shares, seen_before, seen_after}
use Rattle.correcting257.proofs.seen_symbols.Goals as goal

pub returns-then-not-are_symbols : goal.returns-then-not-are_symbols
returns-then-not-are_symbols c = search seen_shares

pub returns-then-not-are_symbols-2 : goal.returns-then-not-are_symbols-2
returns-then-not-are_symbols-2 c = search seen_before

pub returns : goal.returns
returns c = search seen_after
