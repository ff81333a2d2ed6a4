-- Made by tools/twin.py from crates/correcting/proofs/repair_correcting/Answers.antt.
use Rattle.std.proofs.Common.{arith, sym, ◌∙◌, length, subst, get_or}
use Rattle.symbol257.proofs.Working.{working}
use Rattle.symbol257.specs.Elem.{gf257}
use Rattle.layout.proofs.Facts.{size_pos}
use Rattle.correcting.specs.declared.Corrected.TheVariants.{Done, Refused}
use Rattle.correcting.specs.Correcting.{report, CorrectingDone, CorrectingRefused}
use Rattle.correcting.proofs.Layouts.{two_racks}
use Rattle.correcting.proofs.Answers.{refused_answer, accepted_layout, rebuilding_all, leaving_out, sending_of, none_answer, clean_answer, named_answer}
use Rattle.correcting257.proofs.repair_correcting.Goals as goal

pub returns-then-ground-ne0 : goal.returns-then-ground-ne0
returns-then-ground-ne0 c =
    let a = c.args in
    subst (λ y. CorrectingRefused gf257 a.l y a.helpers.now a.shares.now a.host.now a.spare.now a.spare.now (report (Refused c.refusal-ground.result)))
    c.number-x.ensures
    (refused_answer working a.l c.number-x.result a.helpers.now a.shares.now a.host.now a.spare.now _ c.refusal-ground.ensures c.if-ground-ne0.true)

pub plain_layout-requires : goal.plain_layout-requires
plain_layout-requires c =
    let a = c.args in (
      accepted_layout working a.l c.number-x.result a.helpers.now a.shares.now a.host.now a.spare.now (sym c.refusal-ground.ensures ∙ c.if-ground-ne0.false),
      two_racks,
    )

pub nonzero_div-x : goal.nonzero_div-x
nonzero_div-x c =
    let a = c.args in
    size_pos a.l (accepted_layout working a.l c.number-x.result a.helpers.now a.shares.now a.host.now a.spare.now
    (sym c.refusal-ground.ensures ∙ c.if-ground-ne0.false)).admissible.cabinet

pub locate-k-requires : goal.locate-k-requires
locate-k-requires c =
    let a = c.args in
    sending_of working a.l c.number-x.result a.helpers.now a.shares.now a.host.now a.spare.now (sym c.refusal-ground.ensures ∙ c.if-ground-ne0.false) _
    c.plain_layout.ensures

pub returns-then-d-k : goal.returns-then-d-k
returns-then-d-k c =
    let a = c.args in
    subst (λ y. CorrectingRefused gf257 a.l y a.helpers.now a.shares.now a.host.now a.spare.now a.spare.now (report (Refused 14))) c.number-x.ensures
    (none_answer working a.l c.number-x.result a.helpers.now a.shares.now a.host.now a.spare.now (sym c.refusal-ground.ensures ∙ c.if-ground-ne0.false)
    c.plain_layout.result c.plain_layout.ensures c.locate-k.result c.locate-k.ensures c.if-d-k.true)

pub rebuild-requires : goal.rebuild-requires
rebuild-requires c =
    let a = c.args in
    rebuilding_all working a.l c.number-x.result a.helpers.now a.shares.now a.host.now a.spare.now (sym c.refusal-ground.ensures ∙ c.if-ground-ne0.false)

pub returns-then-k-d : goal.returns-then-k-d
returns-then-k-d c =
    let a = c.args in
    subst (λ y. CorrectingDone gf257 a.l y a.helpers.now a.shares.now a.host.now a.spare.now c.rebuild.new.spare
    (report (Done a.l.racks (length a.shares.now)))) c.number-x.ensures
    (clean_answer working a.l c.number-x.result a.helpers.now a.shares.now a.host.now a.spare.now (sym c.refusal-ground.ensures ∙ c.if-ground-ne0.false)
    c.plain_layout.result c.plain_layout.ensures c.locate-k.result c.locate-k.ensures _ c.if-k-d.true c.rebuild.ensures)

pub rebuild_others-requires : goal.rebuild_others-requires
rebuild_others-requires c =
    let a = c.args in
    leaving_out working a.l c.number-x.result a.helpers.now a.shares.now a.host.now a.spare.now (sym c.refusal-ground.ensures ∙ c.if-ground-ne0.false)
    c.locate-k.result (omega (arith, c.if-d-k.false, c.if-k-d.false))

pub returns : goal.returns
returns c =
    let a = c.args in
    subst (λ y. CorrectingDone gf257 a.l y a.helpers.now a.shares.now a.host.now a.spare.now c.rebuild_others.new.spare
    (report (Done (get_or a.helpers.now c.locate-k.result 0) (length a.shares.now)))) c.number-x.ensures
    (named_answer working a.l c.number-x.result a.helpers.now a.shares.now a.host.now a.spare.now (sym c.refusal-ground.ensures ∙ c.if-ground-ne0.false)
    c.plain_layout.result c.plain_layout.ensures c.locate-k.result c.locate-k.ensures _ (omega (arith, c.if-d-k.false, c.if-k-d.false))
    c.rebuild_others.ensures)
