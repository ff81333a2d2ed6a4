use Rattle.std.proofs.Common.{sym, ◌∙◌, arith}
use Rattle.algebra.proofs.Skip.{skip_low, skip_high}
use Rattle.batch_restore.proofs.skipped.Goals as goal

pub returns-then-x-q : goal.returns-then-x-q
returns-then-x-q c = sym (skip_low c.args.q c.args.x c.if-x-q.true)

pub returns : goal.returns
returns c = sym (skip_high c.args.q c.args.x (omega arith) ∙ omega arith)
