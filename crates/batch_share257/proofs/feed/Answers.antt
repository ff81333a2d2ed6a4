-- Made by tools/twin.py from crates/batch_share/proofs/feed/Answers.antt.
use Rattle.std.proofs.Common.{refl, arith}
use Rattle.symbol257.proofs.Working.{working}
use Rattle.batch_share.proofs.Batches.{in_trays, fed, far_in, start_in, run_in}
use Rattle.batch_share257.proofs.feed.Goals as goal

pub overflow_mul-far : goal.overflow_mul-far
overflow_mul-far c =
    let a = c.args in let p = c.requires in
    omega (arith, far_in working a.l a.h a.many a.rack.now a.g a.m a.out.now p.0 _ _ _ _ p.1)

pub overflow_mul-run : goal.overflow_mul-run
overflow_mul-run c =
    let a = c.args in let p = c.requires in
    omega (arith, run_in working a.l a.h a.many a.rack.now a.g a.m a.out.now p.0 _ _ _ _ p.1)

pub overflow_mul-g : goal.overflow_mul-g
overflow_mul-g c =
    let a = c.args in let p = c.requires in
    omega (arith, start_in working a.l a.h a.many a.rack.now a.g a.m a.out.now p.0 _ _ _ _ p.1)

pub add_long-requires : goal.add_long-requires
add_long-requires c =
    let a = c.args in let p = c.requires in
    in_trays working a.l a.h a.many a.rack.now a.g a.m a.out.now p.0 _ _ _ _ p.1 _ _ refl refl

pub returns : goal.returns
returns c =
    let a = c.args in let p = c.requires in
    fed working a.l a.h a.many a.rack.now a.g a.m a.out.now p.0 _ _ _ _ p.1 _ _ refl refl _ c.add_long.ensures
