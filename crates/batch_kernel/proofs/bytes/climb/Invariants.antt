use Rattle.symbol.specs.Elem.{gf256}
use Rattle.kernel.specs.Inner.{Standing}
use Rattle.batch_kernel.specs.Inner.{ladder_at}
use Rattle.batch_kernel.proofs.bytes.climb.Given as goal

abbrev pub invariant-loop-j : goal.invariant-loop-j
invariant-loop-j l = Standing gf256 (ladder_at l.tab l.picks l.at l.wide) l.initial.cur l.cur 0 l.j
