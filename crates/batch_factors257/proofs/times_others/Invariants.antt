-- Made by tools/twin.py from crates/batch_factors/proofs/times_others/Invariants.antt.
use Rattle.symbol257.specs.Elem.{gf257}
use Rattle.kernel.specs.Inner.{Standing}
use Rattle.batch_factors.specs.Inner.{product_at}
use Rattle.batch_factors257.proofs.times_others.Given as goal

abbrev pub invariant-loop-q : goal.invariant-loop-q
invariant-loop-q l = Standing gf257 (product_at gf257 l.initial.g l.to l.xs l.points l.q) l.initial.g l.g l.to l.len
