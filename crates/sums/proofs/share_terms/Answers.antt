use Rattle.std.proofs.Common.{rules}
use Rattle.symbol.proofs.Working.{working}
use Rattle.sums.proofs.Sides.{first_in, groups_high, share_row, share_there, terms_are, terms_plain}
use Rattle.sums.proofs.share_terms.Goals as goal

pub cell-at-requires : goal.cell-at-requires
cell-at-requires c = (search groups_high, search share_row, search first_in)

pub copy-requires : goal.copy-requires
copy-requires c = (search rules, search share_there)

pub returns-then-m-eq0 : goal.returns-then-m-eq0
returns-then-m-eq0 c = search (terms_plain working)

pub add_product-requires : goal.add_product-requires
add_product-requires c = (search rules, search share_there, search rules)

pub returns : goal.returns
returns c = search (terms_are working)
