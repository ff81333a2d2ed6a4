use Rattle.std.proofs.Common.{length}
use Rattle.symbol.proofs.Working.{working}
use Rattle.batch_restore.proofs.Known.{known_job, known_complement, restoring_es, restoring_ks}
use Rattle.batch_restore.proofs.restore_listed.Goals as goal

pub others-requires : goal.others-requires
others-requires c = (search restoring_es, search restoring_ks)

pub restore_from-requires : goal.restore_from-requires
restore_from-requires c =
    let a = c.args in (
      known_job a.l a.m (length a.ks.now) a.es.now a.c.now c.others.new.ks c.requires.0 c.requires.1 c.others.ensures,
      known_complement a.l a.m (length a.ks.now) a.es.now a.c.now c.others.new.ks c.requires.0 c.requires.1 c.others.ensures working,
    )
