use Rattle.std.proofs.Common.{sym}
use Rattle.box_repair.proofs.Grounds.{helper_4, helper_5, helper_6, helper_8, helper_0}
use Rattle.box_repair.proofs.helper_refusal.Goals as goal

pub returns-then-not-strictly_rising : goal.returns-then-not-strictly_rising
returns-then-not-strictly_rising c = helper_4 _ _ _ (sym c.if-not-strictly_rising.ensures)

pub returns-then-helpers : goal.returns-then-helpers
returns-then-helpers c = helper_5 _ _ _ (sym c.if-not-strictly_rising.ensures) c.if-helpers.true

pub returns-then-not-is_absent : goal.returns-then-not-is_absent
returns-then-not-is_absent c = helper_6 _ _ _ (sym c.if-not-strictly_rising.ensures) c.if-helpers.false (sym c.if-not-is_absent.ensures)

pub returns-then-shares : goal.returns-then-shares
returns-then-shares c =
    helper_8 _ _ _ (sym c.if-not-strictly_rising.ensures) c.if-helpers.false (sym c.if-not-is_absent.ensures) c.if-shares.true

pub returns : goal.returns
returns c = helper_0 _ _ _ (sym c.if-not-strictly_rising.ensures) c.if-helpers.false (sym c.if-not-is_absent.ensures) c.if-shares.false
