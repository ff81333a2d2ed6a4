-- Made by tools/twin.py from crates/cards/proofs/card_sum/Invariants.antt.
use Rattle.std.proofs.Common.{◌≡◌}
use Rattle.symbol257.specs.Elem.{gf257}
use Rattle.cards.specs.Inner.{part_sum}
use Rattle.cards257.proofs.card_sum.Given as goal

abbrev pub invariant-loop-k : goal.invariant-loop-k
invariant-loop-k l = gf257.coding.elem l.v ≡ gf257.ops.neg (part_sum gf257 l.card l.shares l.d l.n l.p l.b l.k)
