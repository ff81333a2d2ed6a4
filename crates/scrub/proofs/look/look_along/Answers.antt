use Rattle.std.proofs.Common.{arith}
use Rattle.symbol.specs.Elem.{gf256}
use Rattle.scrub.proofs.Columns.{looked_none, looked_more, looked_end}
use Rattle.scrub.proofs.look.look_along.Goals as goal

pub loop-j-init : goal.loop-j-init
loop-j-init c = search looked_none

pub look_at-seen-requires : goal.look_at-seen-requires
look_at-seen-requires c = let q = c.loop-j.invariant in (omega (arith, q.here, c.requires.1), q.high)

pub loop-j-preserved : goal.loop-j-preserved
loop-j-preserved c =
    let o = c.loop-j in
    looked_more gf256 c.args.w c.args.r c.args.sums.now c.args.walk o.seen c.look_at-seen.result o.j c.bad_column.result o.invariant
    c.loop-j-test.true c.bad_column.ensures c.look_at-seen.ensures

pub returns : goal.returns
returns c = search looked_end
