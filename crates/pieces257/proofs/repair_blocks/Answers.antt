-- Made by tools/twin.py from crates/pieces/proofs/repair_blocks/Answers.antt.
use Rattle.std.proofs.Common.{◌+◌, ◌-◌, arith, length, rules, subst}
use Rattle.rule.specs.Lost.{Piece}
use Rattle.symbol257.specs.Elem.{gf257}
use Rattle.pieces.proofs.Blocks.{fitting_in, groups_of, groups_under, rooms_next, start_fits}
use Rattle.pieces.proofs.Pieces.{piece_more, piece_none, piecing_next}
use Rattle.pieces257.proofs.repair_blocks.Goals as goal

pub loop-k-init : goal.loop-k-init
loop-k-init c = (omega arith, piece_none _ _ _ _ _ _ _ _)

pub overflow_add-first : goal.overflow_add-first
overflow_add-first c = search start_fits

pub block_at-w-requires : goal.block_at-w-requires
block_at-w-requires c =
    let p = c.requires.0 in
    (search rules, omega arith, omega (arith, p.within, groups_under c.args.l), search rules)

pub repair_block-requires : goal.repair_block-requires
repair_block-requires c =
    let a = c.args in
    let o = c.loop-k in
    let w = c.block_at-w in (
      piecing_next gf257.order a.l a.lost.now a.helpers.now a.shares.now a.host.now a.first a.count o.k w.result a.spare.now _
          c.requires.0 (omega (arith, w.ensures.1.within)) o.invariant.1.long,
      groups_of a.l (a.first + o.k) (a.count - o.k) _ w.result (omega (arith, c.requires.0.within)) w.ensures.0 w.ensures.1,
      fitting_in a.l (length a.lost.now) _ _ _ _ a.count _ _ c.row_count-rows.ensures w.ensures.1
          (omega (arith, w.ensures.1.within)) c.requires.1 o.auto.sums,
      rooms_next a.sums.now a.sides.now a.found.now a.points.now a.coefs.now a.row.now a.cur.now _ _ _ _ _ _ _ c.requires.2 o.auto.sums
          o.auto.sides o.auto.found o.auto.points o.auto.coefs o.auto.row o.auto.cur,
    )

pub loop-k-preserved : goal.loop-k-preserved
loop-k-preserved c =
    let a = c.args in
    let o = c.loop-k in
    let w = c.block_at-w.ensures.1.within in (
      omega arith,
      piece_more gf257 a.l a.lost.now a.helpers.now a.shares.now a.host.now a.first o.k _ a.spare.now o.spare _ o.invariant.1
          c.repair_block.ensures,
    )

pub returns : goal.returns
returns c =
    let a = c.args in
    subst (λ n. Piece gf257 a.l a.lost.now a.helpers.now a.shares.now a.host.now a.first n a.spare.now c.loop-k.spare) (omega arith)
    c.loop-k.invariant.1
