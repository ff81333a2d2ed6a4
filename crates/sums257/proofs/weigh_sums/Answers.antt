-- Made by tools/twin.py from crates/sums/proofs/weigh_sums/Answers.antt.
use Rattle.symbol257.proofs.Working.{working}
use Rattle.sums.proofs.Rows.{found_row, row_fits, row_fits_2, sums_row, weighed_end, weighed_more, weighed_none}
use Rattle.sums257.proofs.weigh_sums.Goals as goal

pub loop-a-init : goal.loop-a-init
loop-a-init c = search (weighed_none working)

pub overflow_mul-m : goal.overflow_mul-m
overflow_mul-m c = search row_fits

pub overflow_add-m : goal.overflow_add-m
overflow_add-m c = search row_fits_2

pub times_row-requires : goal.times_row-requires
times_row-requires c = (search sums_row, search found_row)

pub loop-a-preserved : goal.loop-a-preserved
loop-a-preserved c =
    let a = c.args in
    let k = c.loop-a in
    weighed_more working a.l a.h a.w a.m a.found.now a.sums.now k.a _ _ _ _ k.sums _ c.digit_count-s.ensures
    c.digit_point.ensures c.inverse.ensures c.difference-v.ensures k.invariant c.times_row.ensures

pub returns : goal.returns
returns c = search (weighed_end working)
