-- Made by tools/twin.py from crates/restore/proofs/blocks_fit/Answers.antt.
use Rattle.std.proofs.Common.{◌/◌, arith}
use Rattle.symbol257.proofs.Working.{working}
use Rattle.blocks.proofs.Whole.{width_pos, block_of, count_whole}
use Rattle.restore.proofs.Fits.{fit_more, fit_end, fit_block}
use Rattle.restore.proofs.Room.{space_next, space_as}
use Rattle.restore.proofs.Says.{says_true, says_false}
use Rattle.restore257.proofs.blocks_fit.Goals as goal

pub nonzero_div-q-end : goal.nonzero_div-q-end
nonzero_div-q-end c =
    let a = c.args in width_pos a.l a.e c.block_width-w.result a.total c.requires.1.adm c.requires.0 c.block_width-w.ensures c.requires.1.total_is

pub block_fits-requires : goal.block_fits-requires
block_fits-requires c =
    let a = c.args in let p = c.requires in let w = c.block_width-w in let q = c.loop-q in (
      block_of a.l a.e w.result a.total p.1.adm p.0 w.ensures p.1.total_is q.q c.loop-q-test.true,
      p.0,
      w.ensures,
      p.1,
      space_next a.l w.result a.sums.now a.found.now a.points.now a.coefs.now a.row.now q.sums q.found q.points q.coefs q.row
          (space_as a.l a.e w.result a.sums.now a.found.now a.points.now a.coefs.now a.row.now w.ensures p.2)
          q.auto.sums q.auto.found q.auto.points q.auto.coefs q.auto.row,
      omega (arith, w.ensures, p.3, q.auto.cur),
    )

pub returns-then-not-block_fits : goal.returns-then-not-block_fits
returns-then-not-block_fits c = λ all.
    let a = c.args in let w = c.block_width-w in
    says_false c.block_fits.result c.if-not-block_fits.true c.block_fits.ensures
    (fit_block working a.l w.result c.loop-q.q a.es.now a.c.now
    (block_of a.l a.e w.result a.total c.requires.1.adm c.requires.0 w.ensures c.requires.1.total_is c.loop-q.q c.loop-q-test.true).inside all)

pub loop-q-preserved : goal.loop-q-preserved
loop-q-preserved c =
    let a = c.args in
    fit_more working a.l c.block_width-w.result c.loop-q.q a.es.now a.c.now c.loop-q.invariant
    (says_true c.block_fits.result c.if-not-block_fits.false c.block_fits.ensures)

pub returns : goal.returns
returns c =
    let a = c.args in let w = c.block_width-w in
    fit_end working a.l w.result c.loop-q.q (a.total / w.result) a.es.now a.c.now c.loop-q.invariant (omega arith) (omega arith)
    (count_whole a.l a.e w.result a.total c.requires.1.adm c.requires.0 w.ensures c.requires.1.total_is)
