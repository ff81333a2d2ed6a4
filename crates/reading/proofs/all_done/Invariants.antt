use Rattle.std.proofs.Common.{ℕ, ◌<◌, ◌≤◌}
use Rattle.rule.specs.Rule.{group_at}
use Rattle.reading.proofs.all_done.Given as goal

abbrev pub invariant-loop-j : goal.invariant-loop-j
invariant-loop-j l = (i : ℕ) → l.first ≤ i → i < l.j → group_at l.l l.x i < l.done
