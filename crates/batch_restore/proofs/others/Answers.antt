use Rattle.std.proofs.Common.{length, get_or, rules}
use Rattle.algebra.specs.Group.{free}
use Rattle.lists.proofs.Tables.{is_table}
use Rattle.batch_restore.proofs.others.Goals as goal

pub returns : goal.returns
returns c =
    is_table c.loop-i.ks (free (λ k. get_or c.args.es.now k 0) (length c.args.es.now)) (length c.args.ks.now) (search rules) (search
    rules)
