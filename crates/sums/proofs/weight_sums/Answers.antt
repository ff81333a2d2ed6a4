use Rattle.symbol.proofs.Working.{working}
use Rattle.sums.proofs.Rows.{weights_more}
use Rattle.sums.proofs.weight_sums.Goals as goal

pub returns : goal.returns
returns c =
    let a = c.args in
    weights_more working a.l a.h a.w a.first a.helpers.now a.shares.now a.e a.m _ _ a.sums.now _ c.requires.0.received.chosen
    c.block_sides.ensures c.solve_sides.ensures c.weigh_sums.ensures c.requires.2
