use Rattle.std.proofs.Common.{sym}
use Rattle.box_words.proofs.Answers.{ground_2, ground_3, ground_0}
use Rattle.box_words.proofs.refusal.Goals as goal

pub returns-then-given-ne-DIMENSION : goal.returns-then-given-ne-DIMENSION
returns-then-given-ne-DIMENSION c = ground_2 _ _ (λ p q. c.if-given-ne-DIMENSION.true p)

pub returns-then-room-ne-TRAYS : goal.returns-then-room-ne-TRAYS
returns-then-room-ne-TRAYS c = ground_2 _ _ (λ p q. c.if-room-ne-TRAYS.true q)

pub returns-then-not-all_symbols : goal.returns-then-not-all_symbols
returns-then-not-all_symbols c = ground_3 _ _ c.if-given-ne-DIMENSION.false c.if-room-ne-TRAYS.false (sym c.if-not-all_symbols.ensures)

pub returns : goal.returns
returns c = ground_0 _ _ c.if-given-ne-DIMENSION.false c.if-room-ne-TRAYS.false (sym c.if-not-all_symbols.ensures)
