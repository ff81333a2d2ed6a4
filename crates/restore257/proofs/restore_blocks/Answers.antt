-- Made by tools/twin.py from crates/restore/proofs/restore_blocks/Answers.antt.
use Rattle.std.proofs.Common.{◌/◌, arith}
use Rattle.symbol257.proofs.Working.{working}
use Rattle.blocks.proofs.Whole.{width_pos, block_of, count_whole}
use Rattle.restore.proofs.Put.{restored_none, restored_more, restored_end}
use Rattle.restore.proofs.Room.{space_next, space_as, erasing_next}
use Rattle.restore257.proofs.restore_blocks.Goals as goal

pub loop-q-init : goal.loop-q-init
loop-q-init c = restored_none working _ _ _ _

pub nonzero_div-q-end : goal.nonzero_div-q-end
nonzero_div-q-end c =
    let a = c.args in width_pos a.l a.e c.block_width-w.result a.total c.requires.1.adm c.requires.0 c.block_width-w.ensures c.requires.1.total_is

pub restore_block-requires : goal.restore_block-requires
restore_block-requires c =
    let a = c.args in let p = c.requires in let w = c.block_width-w in let q = c.loop-q in (
      block_of a.l a.e w.result a.total p.1.adm p.0 w.ensures p.1.total_is q.q c.loop-q-test.true,
      p.0,
      w.ensures,
      erasing_next a.l a.total a.es.now a.c.now q.c p.1 q.auto.c,
      space_next a.l w.result a.sums.now a.found.now a.points.now a.coefs.now a.row.now q.sums q.found q.points q.coefs q.row
          (space_as a.l a.e w.result a.sums.now a.found.now a.points.now a.coefs.now a.row.now w.ensures p.2)
          q.auto.sums q.auto.found q.auto.points q.auto.coefs q.auto.row,
      omega (arith, w.ensures, p.3, q.auto.cur),
    )

pub loop-q-preserved : goal.loop-q-preserved
loop-q-preserved c =
    let a = c.args in let w = c.block_width-w in
    restored_more working a.l a.es.now a.c.now w.result c.loop-q.q c.loop-q.c c.restore_block.new.c c.requires.1.listed.places
    (block_of a.l a.e w.result a.total c.requires.1.adm c.requires.0 w.ensures c.requires.1.total_is c.loop-q.q c.loop-q-test.true).inside
    c.loop-q.invariant c.restore_block.ensures

pub returns : goal.returns
returns c =
    let a = c.args in let w = c.block_width-w in
    restored_end working a.l a.es.now a.c.now w.result c.loop-q.q (a.total / w.result) c.loop-q.c c.loop-q.invariant (omega arith) (omega arith)
    (count_whole a.l a.e w.result a.total c.requires.1.adm c.requires.0 w.ensures c.requires.1.total_is)
