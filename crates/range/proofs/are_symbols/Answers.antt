use Rattle.std.proofs.Common.{◌∙◌, arith}
use Rattle.range.proofs.Symbols.{symbols_highest, quarters}
use Rattle.range.proofs.are_symbols.Goals as goal

pub returns : goal.returns
returns g c =
    let f = g.N.FieldNumber.field in
    let t = c.higher.ensures in
    c.is_symbol.ensures
    ∙ symbols_highest f _ _ _ _ _ _ _ _ (omega (arith, g.met.N.FieldNumber.working.size_is)) (quarters c.args.len) c.highest_of_four-top.ensures c.highest-rest.ensures t.0 t.1 t.2
