use Rattle.std.proofs.Common.{arith}
use Rattle.image257.proofs.Second.{held_false, held_true}
use Rattle.image257.proofs.symbols_held.Goals as goal

pub returns-then-symbol_at : goal.returns-then-symbol_at
returns-then-symbol_at c = search held_false

pub returns : goal.returns
returns c = held_true _ _ (λ i h. c.loop-j.invariant i (omega arith))
