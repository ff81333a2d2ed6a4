use Rattle.std.proofs.Common.{arith, ap, ◌∙◌, ◌*◌}
use Rattle.std.proofs.Common.{refl}
use Rattle.symbol.specs.Elem.{gf256}
use Rattle.symbol.proofs.Working.{working}
use Rattle.kernel.proofs.Rows.{row_before}
use Rattle.share.proofs.Parts.{partly_none, partly_all, gather_turn, gather_told}
use Rattle.share.proofs.gather.Goals as goal

pub loop-g-init : goal.loop-g-init
loop-g-init c = record { in_range = omega arith; fed = partly_none working _ _ _ _ _ _ _ _ c.requires.0.room refl c.fill.ensures }

pub feed-requires : goal.feed-requires
feed-requires c =
    let a = c.args in
    let p = c.requires in
    let m = c.at_once-m.ensures in
    let i = c.loop-g.invariant in
    let t = c.loop-g-test.true in (
      gather_told working a.l a.count a.h a.helper a.rack.now a.out.now p.0 c.loop-g.g _ _ _ (omega (arith, m.1)) m.0 m.2
          (omega (arith, ap (λ n. c.loop-g.g * n) c.runs_of-r.ensures.layers_are)) i.fed,
      c.runs_of-r.ensures,
      omega (arith, m.1, row_before a.helper a.l.racks a.l.size p.0.helper_in),
    )

pub loop-g-preserved : goal.loop-g-preserved
loop-g-preserved c =
    let a = c.args in
    let m = c.at_once-m.ensures in
    record {
      in_range = omega (arith, m.1);
      fed = gather_turn working a.l a.count a.h a.helper a.rack.now c.loop-g.g _ _ _ c.loop-g.out _
          (omega (arith, ap (λ n. c.loop-g.g * n) c.runs_of-r.ensures.layers_are)) refl c.loop-g.invariant.fed c.feed.ensures;
    }

pub returns : goal.returns
returns c = c.loop-g.invariant.fed ∙ partly_all gf256 working.field _ _ _ _ _ _ (omega arith)
