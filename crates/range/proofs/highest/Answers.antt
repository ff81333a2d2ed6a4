use Rattle.std.proofs.Common.{arith, sym, ◌+◌}
use Rattle.field.proofs.Numbers.{codes_at}
use Rattle.range.proofs.Symbols.{highest_none, highest_more}
use Rattle.range.proofs.highest.Goals as goal

pub loop-k-init : goal.loop-k-init
loop-k-init g c = rw c.zero-top.ensures (highest_none _ _)

pub loop-k-preserved : goal.loop-k-preserved
loop-k-preserved g c =
    let a = c.args in
    let t = c.higher-top.ensures in
    highest_more _ _ c.loop-k.k _ (g.N.FieldNumber.code c.index-xs-from.result) _ c.loop-k.invariant
    (sym (codes_at g.met.N.FieldNumber.numbers a.xs.now (a.from + c.loop-k.k) c.index-xs-from.is (omega arith))) t.0 t.1 t.2
