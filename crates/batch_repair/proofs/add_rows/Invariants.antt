use Rattle.symbol.specs.Elem.{gf256}
use Rattle.kernel.specs.Inner.{Run}
use Rattle.batch_repair.specs.Inner.{card_row}
use Rattle.batch_repair.proofs.add_rows.Given as goal

abbrev pub invariant-loop-k : goal.invariant-loop-k
invariant-loop-k l = Run (card_row gf256 l.card l.at l.shares l.from l.far l.k) l.initial.out l.out l.to l.len
