use Rattle.std.proofs.Common.{◌+◌, arith}
use Rattle.symbol.specs.Elem.{gf256}
use Rattle.rack_checks.proofs.Numbers.{next_check}
use Rattle.rack_checks.proofs.Raising.{weighed_none, weighed_more, weighed_end}
use Rattle.rack_checks.proofs.raise_weight.Goals as goal

pub loop-t-init : goal.loop-t-init
loop-t-init c = (0, omega arith, weighed_none gf256 _ _ _ _ _ _ _)

pub loop-t-preserved : goal.loop-t-preserved
loop-t-preserved c = let v = c.loop-t.invariant in
    (v.0 + 1, next_check v.0 c.args.l.size c.args.m c.loop-t.t v.1, weighed_more gf256 _ _ _ _ _ _ _ _ _ v.0 _ (omega arith) v.1 v.2 c.raise_check.ensures)

pub returns : goal.returns
returns c = let v = c.loop-t.invariant in weighed_end gf256 _ _ _ _ _ _ _ _ v.0 _ _ v.1 (omega arith) v.2

-- the next check would lie past the last
pub returns-2 : goal.returns-2
returns-2 c = let v = c.loop-t.invariant in
    weighed_end gf256 _ _ _ _ _ _ _ _ (v.0 + 1) (c.loop-t.t + c.args.l.size) _ (next_check v.0 c.args.l.size c.args.m c.loop-t.t v.1) (omega arith)
    (weighed_more gf256 _ _ _ _ _ _ _ _ _ v.0 _ (omega arith) v.1 v.2 c.raise_check.ensures)
