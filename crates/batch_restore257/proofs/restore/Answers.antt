-- Made by tools/twin.py from crates/batch_restore/proofs/restore/Answers.antt.
use Rattle.std.proofs.Common.{◌-◌, length, sym}
use Rattle.batch_restore.proofs.Known.{restoring_adm, left_low, left_few, left_count}
use Rattle.batch_restore.proofs.Rows.{zeros_long}
use Rattle.batch_restore257.proofs.restore.Goals as goal

pub tray_count-requires : goal.tray_count-requires
tray_count-requires c = search restoring_adm

pub overflow_sub-n : goal.overflow_sub-n
overflow_sub-n c = search left_low

pub slice_bounds-ks-end : goal.slice_bounds-ks-end
slice_bounds-ks-end c = search left_few

pub slice_bounds-restore_listed-end : goal.slice_bounds-restore_listed-end
slice_bounds-restore_listed-end c = zeros_long (c.tray_count.result - length c.args.es.now) (search left_few)

pub restore_listed-requires : goal.restore_listed-requires
restore_listed-requires c =
    let a = c.args in (
      c.requires,
      left_count a.l a.m a.es.now a.c.now c.requires c.tray_count.result c.tray_count.ensures _ (sym
          (zeros_long (c.tray_count.result - length a.es.now) (search left_few))),
    )
