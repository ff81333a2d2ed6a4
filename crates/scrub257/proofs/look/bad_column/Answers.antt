-- Made by tools/twin.py from crates/scrub/proofs/look/bad_column/Answers.antt.
use Rattle.std.proofs.Common.{below_more}
use Rattle.symbol257.specs.Elem.{gf257}
use Rattle.scrub.proofs.Columns.{zero_at, column_bad_lem, column_good}
use Rattle.scrub257.proofs.look.bad_column.Goals as goal

pub returns-then-index-ne0 : goal.returns-then-index-ne0
returns-then-index-ne0 c = search column_bad_lem

pub loop-t-preserved : goal.loop-t-preserved
loop-t-preserved c = below_more _ _ c.loop-t.invariant (zero_at gf257 c.args.sums.now _ _ _ c.at.ensures c.index.ensures.0 c.if-index-ne0.false)

pub returns : goal.returns
returns c = search column_good
