use Rattle.std.proofs.Common.{sym, ◌∙◌, rules}
use Rattle.box_recover.proofs.Steps.{restored_long}
use Rattle.box_recover.proofs.Grounds.{givable}
use Rattle.box_recover.proofs.Answers.{data_refused, data_none, data_done}
use Rattle.box_recover.proofs.box_data.Goals as goal

pub returns-then-ground-ne0 : goal.returns-then-ground-ne0
returns-then-ground-ne0 c = data_refused _ _ _ _ c.data_refusal-ground.ensures c.if-ground-ne0.true

pub restore-requires : goal.restore-requires
restore-requires c = let p = givable _ _ _ (sym c.data_refusal-ground.ensures ∙ c.if-ground-ne0.false) in (p.2, p.0, search rules)

pub all_agree-requires : goal.all_agree-requires
all_agree-requires c =
    let p = givable _ _ _ (sym c.data_refusal-ground.ensures ∙ c.if-ground-ne0.false) in
    (p.0, restored_long _ _ _ c.restore.ensures)

pub returns-then-not-all_agree : goal.returns-then-not-all_agree
returns-then-not-all_agree c =
    data_none _ _ _ (sym c.data_refusal-ground.ensures ∙ c.if-ground-ne0.false) _ c.restore.ensures (sym c.if-not-all_agree.ensures)

pub coefficients-requires : goal.coefficients-requires
coefficients-requires c =
    let p = givable _ _ _ (sym c.data_refusal-ground.ensures ∙ c.if-ground-ne0.false) in
    (restored_long _ _ _ c.restore.ensures, p.1)

pub returns : goal.returns
returns c =
    data_done _ _ _ (sym c.data_refusal-ground.ensures ∙ c.if-ground-ne0.false) _ c.restore.ensures _
    (sym c.if-not-all_agree.ensures) c.coefficients.ensures
