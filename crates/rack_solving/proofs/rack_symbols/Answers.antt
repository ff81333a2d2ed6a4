use Rattle.std.proofs.Common.{arith}
use Rattle.symbol.specs.Elem.{gf256}
use Rattle.rack_solving.proofs.Symbols.{last_more, places_more}
use Rattle.rack_solving.proofs.rack_symbols.Goals as goal

pub loop-m-preserved : goal.loop-m-preserved
loop-m-preserved c =
    let a = c.args in record {
      last = λ h. search last_more;
      done =
          places_more gf256 a.u a.w a.i a.ys.now c.loop-m.m c.opposite_place.result a.found.now c.loop-m.found c.copy.new.out
          c.weigh_rows.new.row (omega arith) c.opposite_place.ensures.answer c.loop-m.invariant.done c.weigh_rows.ensures c.copy.ensures;
    }
