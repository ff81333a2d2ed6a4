use Rattle.std.proofs.Common.{one-mul, sym, ◌∙◌}
use Rattle.layout.specs.Layout.{traffic}
use Rattle.cards.proofs.Grounds.{one_below}
use Rattle.cards.proofs.group_symbols.Goals as goal

pub piece_symbols-requires : goal.piece_symbols-requires
piece_symbols-requires c =
    let g = c.requires in
    (g.adm, one_below c.args.l c.args.x g.lost_in, g.shares_long ∙ sym (one-mul (traffic c.args.l)), g.host_long)
