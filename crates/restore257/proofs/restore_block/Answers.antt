-- Made by tools/twin.py from crates/restore/proofs/restore_block/Answers.antt.
use Rattle.symbol257.proofs.Working.{working}
use Rattle.restore.proofs.Put.{cells_of, block_restored}
use Rattle.restore.proofs.Room.{found_next}
use Rattle.restore257.proofs.restore_block.Goals as goal

pub put_block-requires : goal.put_block-requires
put_block-requires c =
    let a = c.args in
    cells_of a.l a.total a.w a.first a.es.now a.c.now c.solve_block.new.found c.requires.0 c.requires.3
    (found_next a.l a.w a.sums.now a.found.now c.solve_block.new.found a.points.now a.coefs.now a.row.now c.requires.4 c.solve_block.auto.found)

pub returns : goal.returns
returns c =
    block_restored working c.args.l c.args.total c.args.w c.args.first c.args.es.now c.args.c.now c.sum_kept.new.sums
    c.solve_block.new.found c.put_block.new.c c.requires.0 c.requires.3 c.sum_kept.ensures c.solve_block.ensures c.put_block.ensures
