-- Made by tools/twin.py from crates/scrub/proofs/reset/Answers.antt.
use Rattle.symbol257.specs.Elem.{gf257}
use Rattle.layout.proofs.Facts.{admissible_facts}
use Rattle.scrub.proofs.Answers.{not_begun, is_begun_lem}
use Rattle.scrub257.proofs.reset.Goals as goal

pub returns-then-not-admitted : goal.returns-then-not-admitted
returns-then-not-admitted c = not_begun _ _ _ (cc)

pub layer_count-requires : goal.layer_count-requires
layer_count-requires c = (admissible_facts gf257.order c.args.l (cc)).cabinet

pub returns : goal.returns
returns c = is_begun_lem _ _ _ _ (cc) c.layer_count.ensures
