use Rattle.symbol.specs.Elem.{gf256}
use Rattle.symbol.proofs.Working.{working}
use Rattle.scrub.specs.Scrub.{bad_layer}
use Rattle.scrub.proofs.Columns.{column_is}
use Rattle.scrub.proofs.look.look_block.Goals as goal

pub returns : goal.returns
returns c =
    let k = c.sum_kept in
    let n = c.check_count-r in
    c.look_along.ensures (bad_layer gf256 c.args.l c.args.c.now) (column_is working c.args.l c.args.w c.args.walk.next
    n.result c.args.c.now c.args.none.now k.new.sums c.requires.3 n.ensures k.ensures)
