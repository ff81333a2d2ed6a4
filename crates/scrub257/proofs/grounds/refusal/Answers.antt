-- Made by tools/twin.py from crates/scrub/proofs/grounds/refusal/Answers.antt.
use Rattle.std.proofs.Common.{arith, sym, ap₂, ◌∙◌, ◌*◌}
use Rattle.symbol257.specs.Elem.{gf257}
use Rattle.layout.proofs.Facts.{admissible_facts}
use Rattle.scrub.proofs.Answers.{refused_1, refused_2, refused_record, refused_symbol, not_refused, in_order}
use Rattle.scrub257.proofs.grounds.refusal.Goals as goal

pub returns-then-not-admitted : goal.returns-then-not-admitted
returns-then-not-admitted c = refused_1 _ _ _ _ _ (cc)

pub layer_count-total-requires : goal.layer_count-total-requires
layer_count-total-requires c = (admissible_facts gf257.order c.args.l (cc)).cabinet

pub tray_count-requires : goal.tray_count-requires
tray_count-requires c = (admissible_facts gf257.order c.args.l (cc)).cabinet

pub returns-then-c-tray_count : goal.returns-then-c-tray_count
returns-then-c-tray_count c =
    refused_2 _ _ _ _ _ (cc) (λ e. c.if-c-tray_count.true (e ∙ sym (ap₂ ◌*◌ c.tray_count.ensures c.layer_count-total.ensures)))

pub returns-then-not-takes : goal.returns-then-not-takes
returns-then-not-takes c = refused_record _ _ _ _ _ (cc) (cc) (cc)

pub step_symbols-requires : goal.step_symbols-requires
step_symbols-requires c = (
  record {
    adm = (admissible_facts gf257.order c.args.l (cc)).cabinet;
    total_is = c.layer_count-total.ensures;
    long = (cc);
  },
  omega (arith, in_order c.layer_count-total.result c.args.walk (cc)),
)

pub returns-then-not-step_symbols : goal.returns-then-not-step_symbols
returns-then-not-step_symbols c = refused_symbol _ _ _ _ _ (cc) (cc) (cc) (cc)

pub returns : goal.returns
returns c = not_refused _ _ _ _ _ (cc) (cc) (cc) (cc)
