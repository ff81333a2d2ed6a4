-- Made by tools/twin.py from crates/scrub/proofs/look/look_blocks/Answers.antt.
use Rattle.std.proofs.Common.{arith, sym}
use Rattle.symbol257.specs.Elem.{gf257}
use Rattle.scrub.specs.Scrub.{bad_layer}
use Rattle.scrub.proofs.Blocks.{more}
use Rattle.scrub.proofs.Layers.{after_end}
use Rattle.scrub257.proofs.look.look_blocks.Goals as goal

pub look_block-seen-requires : goal.look_block-seen-requires
look_block-seen-requires c =
    let b = c.block_at-w.ensures in (
      b.0,
      c.loop-left.invariant.ahead.bad_in,
      c.requires.0.scannable.long,
      c.requires.1,
      record {
        sums_long = rw (sym c.check_count-r.ensures) (omega (arith, b.1.fits));
        cur_long = omega (arith, b.1.small);
        row_long = omega (arith, b.1.small);
      },
    )

pub loop-left-preserved : goal.loop-left-preserved
loop-left-preserved c =
    let o = c.loop-left in
    let b = c.block_at-w in
    let k = c.look_block-seen in
    let m = more gf257 c.args.l c.args.total c.args.c.now c.args.walk c.args.count o.seen k.result o.seen.next o.left
    c.check_count-r.result b.result b.ensures.1 k.ensures o.invariant.ahead o.invariant.to_go in
    record { ahead = m.0; to_go = m.1 }

pub returns : goal.returns
returns c =
    let o = c.loop-left in
    after_end (bad_layer gf257 c.args.l c.args.c.now) o.seen o.left (omega arith) o.invariant.to_go
