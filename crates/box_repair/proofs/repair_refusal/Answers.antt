use Rattle.std.proofs.Common.{sym}
use Rattle.box_repair.proofs.Grounds.{repair_2, repair_3, repair_rest}
use Rattle.box_repair.proofs.repair_refusal.Goals as goal

pub returns-then-shares : goal.returns-then-shares
returns-then-shares c = repair_2 _ _ _ _ _ (λ p q r. c.if-shares.true p)

pub returns-then-rack-ne-SIZE : goal.returns-then-rack-ne-SIZE
returns-then-rack-ne-SIZE c = repair_2 _ _ _ _ _ (λ p q r. c.if-rack-ne-SIZE.true q)

pub returns-then-room-ne1 : goal.returns-then-room-ne1
returns-then-room-ne1 c = repair_2 _ _ _ _ _ (λ p q r. c.if-room-ne1.true r)

pub returns-then-not-numbers_fit : goal.returns-then-not-numbers_fit
returns-then-not-numbers_fit c =
    repair_3 _ _ _ _ _ c.if-shares.false c.if-rack-ne-SIZE.false c.if-room-ne1.false (sym c.if-not-numbers_fit.ensures)

pub returns : goal.returns
returns c =
    repair_rest _ _ _ _ _ c.if-shares.false c.if-rack-ne-SIZE.false c.if-room-ne1.false _ (sym c.if-not-numbers_fit.ensures)
    c.helper_refusal.ensures
