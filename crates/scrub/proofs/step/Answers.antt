use Rattle.std.proofs.Common.{arith, sym, ◌∙◌}
use Rattle.symbol.specs.Elem.{gf256}
use Rattle.layout.proofs.Facts.{admissible_facts}
use Rattle.scrub.proofs.Answers.{step_refused, step_done, accepted, in_order}
use Rattle.scrub.proofs.step.Goals as goal

pub returns-then-no-ne0 : goal.returns-then-no-ne0
returns-then-no-ne0 c = step_refused _ _ _ _ _ _ c.refusal-no.ensures c.if-no-ne0.true

pub layer_count-total-requires : goal.layer_count-total-requires
layer_count-total-requires c =
    (admissible_facts gf256.order _ (accepted gf256 c.args.l c.args.c.now c.args.walk c.args.budget (cc)).adm).cabinet

pub step_layers-count-requires : goal.step_layers-count-requires
step_layers-count-requires c =
    omega (arith, in_order _ _ (accepted gf256 c.args.l c.args.c.now c.args.walk c.args.budget (cc)).record_ok)

pub look_on-seen-requires : goal.look_on-seen-requires
look_on-seen-requires c =
    let t = accepted gf256 c.args.l c.args.c.now c.args.walk c.args.budget (cc) in
    let o = in_order _ _ t.record_ok in
    record {
      scannable = record { adm = (admissible_facts gf256.order _ t.adm).cabinet; total_is = c.layer_count-total.ensures; long = t.long };
      room = omega arith;
      bad_in = o.1;
    }

pub returns : goal.returns
returns c =
    step_done _ _ _ _ _ _ _ _ _ (sym c.refusal-no.ensures ∙ c.if-no-ne0.false) c.layer_count-total.ensures
    c.step_layers-count.ensures c.look_on-seen.ensures c.report_of.ensures
