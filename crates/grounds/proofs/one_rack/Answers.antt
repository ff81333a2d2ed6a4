use Rattle.std.proofs.Common.{arith}
use Rattle.grounds.proofs.Grounds.{rack_false, rack_true}
use Rattle.grounds.proofs.one_rack.Goals as goal

pub returns-then-tray-u : goal.returns-then-tray-u
returns-then-tray-u c = search rack_false

pub returns : goal.returns
returns c = rack_true _ _ (λ k h. c.loop-tray.invariant k (omega arith))
