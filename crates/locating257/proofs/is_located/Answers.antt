-- Made by tools/twin.py from crates/locating/proofs/is_located/Answers.antt.
use Rattle.std.proofs.Common.{arith}
use Rattle.symbol257.proofs.Working.{working}
use Rattle.sums.proofs.Sides.{size_high}
use Rattle.restore.proofs.Says.{says_true, says_false}
use Rattle.locating.proofs.Blocks.{within_layers, located_more, located_not}
use Rattle.locating257.proofs.is_located.Goals as goal

pub block_at-w-requires : goal.block_at-w-requires
block_at-w-requires c =
    (c.requires.0.adm, omega arith, within_layers c.args.l _ _ c.group_count-total.ensures (omega arith), omega arith)

pub rack_powers-requires : goal.rack_powers-requires
rack_powers-requires c =
    let p = c.requires in
    (c.block_at-w.ensures.0, p.0.host_in, p.0.inside _ p.1, p.0.other _ p.1, size_high c.args.l p.0.adm, omega (arith, p.4, c.block_at-w.ensures.1.small))

pub row_agrees-requires : goal.row_agrees-requires
row_agrees-requires c =
    let p = c.requires in
    let b = c.block_at-w.ensures.1 in (
      omega (arith, b.within, p.2, c.group_count-total.ensures),
      omega (arith, b.within, p.3, c.group_count-total.ensures),
      omega (arith, p.4, b.small),
    )

pub returns-then-not-row_agrees : goal.returns-then-not-row_agrees
returns-then-not-row_agrees c =
    let a = c.args in
    let p = c.requires in
    located_not working a.l a.h a.helpers.now a.zeroth.now a.first.now a.k p.0 p.1 _ _ _ c.rack_powers.ensures
    (omega (arith, c.block_at-w.ensures.1.within, c.group_count-total.ensures)) (says_false c.row_agrees.result (cc) c.row_agrees.ensures)

pub loop-p-preserved : goal.loop-p-preserved
loop-p-preserved c =
    let a = c.args in
    let p = c.requires in
    record {
      in_range = omega (arith, c.block_at-w.ensures.1.within);
      points = located_more working a.l a.h a.helpers.now a.zeroth.now a.first.now a.k p.0 p.1 _ _ _ c.rack_powers.ensures
          (says_true c.row_agrees.result (cc) c.row_agrees.ensures) c.loop-p.invariant.points;
    }
