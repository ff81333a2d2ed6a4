-- Made by tools/twin.py from crates/store/proofs/count_from/Answers.antt.
use Rattle.std.proofs.Common.{ℕ, ◌+◌, length, rules}
use Rattle.lists.proofs.Tables.{is_table}
use Rattle.store257.proofs.count_from.Goals as goal

pub returns : goal.returns
returns c = is_table c.loop-i.list (λ (k : ℕ). c.args.first + k) (length c.args.list.now) (search rules) (search rules)
