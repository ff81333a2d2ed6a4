use Rattle.box_recover.proofs.Grounds.{data_length, data_list}
use Rattle.box_recover.proofs.data_refusal.Goals as goal

pub returns-then-c-ne-TRAYS : goal.returns-then-c-ne-TRAYS
returns-then-c-ne-TRAYS c = data_length _ _ _ (λ p q. c.if-c-ne-TRAYS.true p)

pub returns-then-room-ne-DIMENSION : goal.returns-then-room-ne-DIMENSION
returns-then-room-ne-DIMENSION c = data_length _ _ _ (λ p q. c.if-room-ne-DIMENSION.true q)

pub returns : goal.returns
returns c = data_list _ _ _ _ c.if-c-ne-TRAYS.false c.if-room-ne-DIMENSION.false c.list_refusal.ensures
