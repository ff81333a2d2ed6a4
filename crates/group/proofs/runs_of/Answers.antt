use Rattle.std.proofs.Common.{arith, refl}
use Rattle.sums.proofs.Sides.{first_in}
use Rattle.group.proofs.Layers.{lying, run_low}
use Rattle.group.proofs.runs_of.Goals as goal

pub layer_of-start-requires : goal.layer_of-start-requires
layer_of-start-requires c =
    let g = c.requires.0 in
    let n = first_in c.args.l c.args.w c.args.first _ g refl in
    record { adm = g.block.adm; host_in = c.requires.1; group_in = n; digit_in = omega arith }

pub nonzero_div-result : goal.nonzero_div-result
nonzero_div-result c = search run_low

pub returns : goal.returns
returns c =
    let a = c.args in
    lying a.l a.h a.w a.first a.a c.digit_count-s.result c.block_width-q.result c.min-run.result c.requires.0 c.requires.1 c.requires.2
    c.digit_count-s.ensures c.block_width-q.ensures c.min-run.ensures c.layer_of-start.result c.layer_of-start.ensures.0
