use Rattle.symbol.proofs.Working.{working}
use Rattle.restore.proofs.Fits.{block_says}
use Rattle.restore.proofs.block_fits.Goals as goal

pub returns : goal.returns
returns c =
    let a = c.args in
    block_says working a.l a.w a.first a.total c.check_count-r.result a.es.now a.c.now c.sum_kept.new.sums c.solve_block.new.found c.found_terms.new.sums
    c.requires.3 c.check_count-r.ensures c.sum_kept.ensures c.solve_block.ensures c.found_terms.ensures c.all_zero.result c.all_zero.ensures
