use Rattle.std.proofs.Common.{refl, arith}
use Rattle.symbol.proofs.Working.{working}
use Rattle.batch_share.proofs.Batches.{partly_start, partly_told, partly_turn, partly_end}
use Rattle.batch_share.proofs.gather.Goals as goal

pub counts_of-n-requires : goal.counts_of-n-requires
counts_of-n-requires c = c.requires.adm.cabinet

pub runs_of-r-requires : goal.runs_of-r-requires
runs_of-r-requires c = let p = c.requires in (p.adm.cabinet, p.host_in, c.counts_of-n.ensures)

pub loop-g-init : goal.loop-g-init
loop-g-init c =
    (omega arith, partly_start working c.args.l c.args.h c.args.many c.args.rack.now c.args.out.now c.requires _ _ refl c.fill.ensures)

pub feed-requires : goal.feed-requires
feed-requires c =
    let a = c.args in (
      partly_told working a.l a.h a.many a.rack.now a.out.now c.requires _ _ _ c.loop-g.invariant.1 c.at_once-m.ensures
          c.loop-g-test.true,
      c.runs_of-r.ensures,
    )

pub loop-g-preserved : goal.loop-g-preserved
loop-g-preserved c =
    let a = c.args in
    let m = c.at_once-m.ensures in
    (omega arith, partly_turn working a.l a.h a.many a.rack.now _ _ _ _ c.loop-g.invariant.1 c.feed.ensures)

pub returns : goal.returns
returns c =
    let a = c.args in
    partly_end working a.l a.h a.many a.rack.now a.out.now c.requires _ _ c.loop-g.invariant.1 c.loop-g.invariant.0 (omega arith)
