use Rattle.seen.proofs.Piece.{looking_of, piece_false, piece_left, piece_none, piece_told}
use Rattle.seen.proofs.piece_symbols.Goals as goal

pub returns-then-e-eq0 : goal.returns-then-e-eq0
returns-then-e-eq0 g c = search piece_none

pub returns-then-total-first : goal.returns-then-total-first
returns-then-total-first g c = search piece_left

pub returns-then-not-rows_are_symbols : goal.returns-then-not-rows_are_symbols
returns-then-not-rows_are_symbols g c = search piece_false

pub host_symbols-requires : goal.host_symbols-requires
host_symbols-requires g c = search looking_of

pub returns : goal.returns
returns g c = search piece_told
