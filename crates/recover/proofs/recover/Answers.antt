use Rattle.std.proofs.Common.{sym, ◌∙◌}
use Rattle.symbol.proofs.Working.{working}
use Rattle.restore.proofs.Says.{says_true, says_false}
use Rattle.recover.proofs.Grounds.{recoverable}
use Rattle.recover.proofs.Answers.{answer_refused, answer_none, answer_done, told}
use Rattle.recover.proofs.recover.Goals as goal

pub returns-then-ground-ne0 : goal.returns-then-ground-ne0
returns-then-ground-ne0 c = answer_refused working _ _ _ _ c.refusal-ground.ensures c.if-ground-ne0.true

pub layer_count-total-requires : goal.layer_count-total-requires
layer_count-total-requires c = (recoverable working _ _ _ (sym c.refusal-ground.ensures ∙ c.if-ground-ne0.false)).adm.cabinet

pub all_fit-requires : goal.all_fit-requires
all_fit-requires c =
    let none = sym c.refusal-ground.ensures ∙ c.if-ground-ne0.false in
    (told working _ _ _ none _ c.layer_count-total.ensures, (recoverable working _ _ _ none).adm)

pub returns-then-not-all_fit : goal.returns-then-not-all_fit
returns-then-not-all_fit c =
    answer_none working _ _ _ (sym c.refusal-ground.ensures ∙ c.if-ground-ne0.false) (says_false _ c.if-not-all_fit.true c.all_fit.ensures)

pub restore-requires : goal.restore-requires
restore-requires c = told working _ _ _ (sym c.refusal-ground.ensures ∙ c.if-ground-ne0.false) _ c.layer_count-total.ensures

pub returns : goal.returns
returns c =
    let none = sym c.refusal-ground.ensures ∙ c.if-ground-ne0.false in
    answer_done working _ _ _ none _ (says_true _ c.if-not-all_fit.false c.all_fit.ensures) c.restore.ensures
