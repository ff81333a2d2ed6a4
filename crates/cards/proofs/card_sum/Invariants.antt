use Rattle.std.proofs.Common.{◌≡◌}
use Rattle.symbol.specs.Elem.{gf256}
use Rattle.cards.specs.Inner.{part_sum}
use Rattle.cards.proofs.card_sum.Given as goal

abbrev pub invariant-loop-k : goal.invariant-loop-k
invariant-loop-k l = gf256.coding.elem l.v ≡ gf256.ops.neg (part_sum gf256 l.card l.shares l.d l.n l.p l.b l.k)
