use Rattle.box_recover.proofs.Grounds.{recover_length, recover_list}
use Rattle.box_recover.proofs.recover_refusal.Goals as goal

pub returns-then-c-ne-TRAYS : goal.returns-then-c-ne-TRAYS
returns-then-c-ne-TRAYS c = recover_length _ _ c.if-c-ne-TRAYS.true

pub returns : goal.returns
returns c = recover_list _ _ _ c.if-c-ne-TRAYS.false c.list_refusal.ensures
