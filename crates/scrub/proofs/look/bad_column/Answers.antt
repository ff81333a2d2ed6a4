use Rattle.std.proofs.Common.{below_more}
use Rattle.symbol.specs.Elem.{gf256}
use Rattle.scrub.proofs.Columns.{zero_at, column_bad_lem, column_good}
use Rattle.scrub.proofs.look.bad_column.Goals as goal

pub returns-then-index-ne0 : goal.returns-then-index-ne0
returns-then-index-ne0 c = search column_bad_lem

pub loop-t-preserved : goal.loop-t-preserved
loop-t-preserved c = below_more _ _ c.loop-t.invariant (zero_at gf256 c.args.sums.now _ _ _ c.at.ensures c.index.ensures.0 c.if-index-ne0.false)

pub returns : goal.returns
returns c = search column_good
