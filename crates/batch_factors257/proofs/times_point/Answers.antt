-- Made by tools/twin.py from crates/batch_factors/proofs/times_point/Answers.antt.
use Rattle.symbol257.specs.Elem.{gf257}
use Rattle.batch_factors.proofs.Steps.{timed_of}
use Rattle.batch_factors257.proofs.times_point.Goals as goal

pub returns : goal.returns
returns c = search (timed_of gf257)
