use Rattle.std.proofs.Common.{sym, ◌∙◌, rules}
use Rattle.box_recover.proofs.Steps.{restored_long}
use Rattle.box_recover.proofs.Grounds.{recoverable}
use Rattle.box_recover.proofs.Answers.{recover_refused, recover_none, recover_done}
use Rattle.box_recover.proofs.box_recover.Goals as goal

pub returns-then-ground-ne0 : goal.returns-then-ground-ne0
returns-then-ground-ne0 c = recover_refused _ _ _ c.recover_refusal-ground.ensures c.if-ground-ne0.true

pub restore-requires : goal.restore-requires
restore-requires c = let p = recoverable _ _ (sym c.recover_refusal-ground.ensures ∙ c.if-ground-ne0.false) in (p.1, p.0, search rules)

pub all_agree-requires : goal.all_agree-requires
all_agree-requires c =
    let p = recoverable _ _ (sym c.recover_refusal-ground.ensures ∙ c.if-ground-ne0.false) in
    (p.0, restored_long _ _ _ c.restore.ensures)

pub returns-then-not-all_agree : goal.returns-then-not-all_agree
returns-then-not-all_agree c =
    recover_none _ _ (sym c.recover_refusal-ground.ensures ∙ c.if-ground-ne0.false) _ c.restore.ensures (sym c.if-not-all_agree.ensures)

pub fill-requires : goal.fill-requires
fill-requires c =
    let p = recoverable _ _ (sym c.recover_refusal-ground.ensures ∙ c.if-ground-ne0.false) in
    (p.1, restored_long _ _ _ c.restore.ensures, p.0)

pub returns : goal.returns
returns c =
    recover_done _ _ (sym c.recover_refusal-ground.ensures ∙ c.if-ground-ne0.false) _ c.restore.ensures _
    (sym c.if-not-all_agree.ensures) c.fill.ensures
