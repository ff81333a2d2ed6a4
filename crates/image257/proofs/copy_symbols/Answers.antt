use Rattle.std.proofs.Common.{arith}
use Rattle.image257.proofs.Second.{copied_all}
use Rattle.image257.proofs.copy_symbols.Goals as goal

pub returns : goal.returns
returns c = copied_all _ _ _ c.loop-j.j c.loop-j.invariant (omega (arith, c.loop-j.invariant.same))
