-- Made by tools/twin.py from crates/batch_factors/proofs/factor_row/Answers.antt.
use Rattle.symbol257.proofs.Working.{working}
use Rattle.batch_factors.proofs.Steps.{row_of}
use Rattle.batch_factors257.proofs.factor_row.Goals as goal

pub returns : goal.returns
returns c = search (row_of working)
