use Rattle.std.proofs.Common.{arith}
use Rattle.symbol.specs.Elem.{gf256}
use Rattle.reading.proofs.Grounds.{the_ground, refused_part, facts, spare_part, codeword_part, run_end}
-- twin: use Rattle.reading.proofs.Grounds.{run_high}
use Rattle.reading.proofs.read_part.Goals as goal

pub returns-then-ground-ne0 : goal.returns-then-ground-ne0
returns-then-ground-ne0 c = record { part = search (refused_part gf256.order); number = search (the_ground gf256.order) }

pub slice_bounds-result-count : goal.slice_bounds-result-count
slice_bounds-result-count c =
    let a = c.args in
    let g = facts gf256.order a.l a.codeword.now a.spare.now a.lost.0 a.done a.tray.0 a.first a.end _ _ _ c.number-x.ensures c.number-y.ensures
    c.refusal-ground.ensures c.if-ground-ne0.false in
    g.readable.rises

pub slice_bounds-result-start : goal.slice_bounds-result-start
slice_bounds-result-start c =
    let a = c.args in
    let g = facts gf256.order a.l a.codeword.now a.spare.now a.lost.0 a.done a.tray.0 a.first a.end _ _ _ c.number-x.ensures c.number-y.ensures
    c.refusal-ground.ensures c.if-ground-ne0.false in
    g.readable.rises

pub slice_bounds-result-end-then-y-x : goal.slice_bounds-result-end-then-y-x
slice_bounds-result-end-then-y-x c =
    let a = c.args in
    let g = facts gf256.order a.l a.codeword.now a.spare.now a.lost.0 a.done a.tray.0 a.first a.end _ _ _ c.number-x.ensures c.number-y.ensures
    c.refusal-ground.ensures c.if-ground-ne0.false in
    omega (arith, g.spare_long, g.readable.end_in)

pub layer_count-requires : goal.layer_count-requires
layer_count-requires c =
    let a = c.args in
    let g = facts gf256.order a.l a.codeword.now a.spare.now a.lost.0 a.done a.tray.0 a.first a.end _ _ _ c.number-x.ensures c.number-y.ensures
    c.refusal-ground.ensures c.if-ground-ne0.false in
    g.readable.adm

-- twin: pub offset_bounds-codeword-from : goal.offset_bounds-codeword-from
-- twin: offset_bounds-codeword-from c =
-- twin:     let a = c.args in
-- twin:     let g = facts gf256.order a.l a.codeword.now a.spare.now a.lost.0 a.done a.tray.0 a.first a.end _ _ _ c.number-x.ensures c.number-y.ensures
-- twin:         c.refusal-ground.ensures c.if-ground-ne0.false in
-- twin:     record { fits = omega (arith, run_high g c.number-y.ensures c.layer_count.ensures, g.readable.rises) }

pub slice_bounds-result-count-2 : goal.slice_bounds-result-count-2
slice_bounds-result-count-2 c =
    let a = c.args in
    let g = facts gf256.order a.l a.codeword.now a.spare.now a.lost.0 a.done a.tray.0 a.first a.end _ _ _ c.number-x.ensures c.number-y.ensures
    c.refusal-ground.ensures c.if-ground-ne0.false in
    omega (arith, g.readable.rises)

pub slice_bounds-result-start-2 : goal.slice_bounds-result-start-2
slice_bounds-result-start-2 c =
    let a = c.args in
    let g = facts gf256.order a.l a.codeword.now a.spare.now a.lost.0 a.done a.tray.0 a.first a.end _ _ _ c.number-x.ensures c.number-y.ensures
    c.refusal-ground.ensures c.if-ground-ne0.false in
    omega (arith, g.readable.rises)

pub slice_bounds-result-end-2 : goal.slice_bounds-result-end-2
slice_bounds-result-end-2 c =
    let a = c.args in
    let g = facts gf256.order a.l a.codeword.now a.spare.now a.lost.0 a.done a.tray.0 a.first a.end _ _ _ c.number-x.ensures c.number-y.ensures
    c.refusal-ground.ensures c.if-ground-ne0.false in
    run_end g c.number-y.ensures c.layer_count.ensures

pub returns-then-y-x : goal.returns-then-y-x
returns-then-y-x c = record { part = search (spare_part gf256.order); number = search (the_ground gf256.order) }

pub returns : goal.returns
returns c = record { part = search (codeword_part gf256.order); number = search (the_ground gf256.order) }
