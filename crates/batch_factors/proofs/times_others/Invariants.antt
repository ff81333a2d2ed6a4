use Rattle.symbol.specs.Elem.{gf256}
use Rattle.kernel.specs.Inner.{Standing}
use Rattle.batch_factors.specs.Inner.{product_at}
use Rattle.batch_factors.proofs.times_others.Given as goal

abbrev pub invariant-loop-q : goal.invariant-loop-q
invariant-loop-q l = Standing gf256 (product_at gf256 l.initial.g l.to l.xs l.points l.q) l.initial.g l.g l.to l.len
