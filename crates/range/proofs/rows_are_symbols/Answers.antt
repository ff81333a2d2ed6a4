use Rattle.std.proofs.Common.{arith}
use Rattle.range.proofs.Symbols.{row_in, rows_false, rows_true}
use Rattle.range.proofs.rows_are_symbols.Goals as goal

pub are_symbols-requires : goal.are_symbols-requires
are_symbols-requires g c = let a = c.args in let p = c.requires in row_in a.xs.now a.rows a.width a.first a.count c.loop-r.r p.1 p.0 c.loop-r-test.true

pub returns-then-not-are_symbols : goal.returns-then-not-are_symbols
returns-then-not-are_symbols g c = rows_false g.N.FieldNumber.field _ _ _ _ _ c.loop-r.r _ c.loop-r-test.true c.are_symbols.ensures c.if-not-are_symbols.true-raw

pub returns : goal.returns
returns g c = rows_true g.N.FieldNumber.field _ _ _ _ _ c.args.rows (omega arith) (λ i h. c.loop-r.invariant i (omega arith))
