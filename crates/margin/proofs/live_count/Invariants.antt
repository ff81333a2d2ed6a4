use Rattle.std.proofs.Common.{◌≡◌}
use Rattle.margin.specs.Margin.{live}
use Rattle.margin.proofs.live_count.Given as goal

abbrev pub invariant-loop-state : goal.invariant-loop-state
invariant-loop-state l = l.count ≡ live l.states l.state-index
