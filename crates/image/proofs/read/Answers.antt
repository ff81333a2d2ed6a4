use Rattle.std.proofs.Common.{rules}
use Rattle.image.proofs.Editions.{proper1}
use Rattle.image.proofs.ReadGrounds.{refused_symbols, refused_tray, given_long, given_byte, given_tray}
use Rattle.image.proofs.First.{given_part}
use Rattle.image.proofs.read.Goals as goal

pub returns-then-refusal-ne0-clause-part : goal.returns-then-refusal-ne0-clause-part
returns-then-refusal-ne0-clause-part c = search refused_symbols

pub returns-then-refusal-ne0-clause-tray : goal.returns-then-refusal-ne0-clause-tray
returns-then-refusal-ne0-clause-tray c = search refused_tray

pub byte_at-requires : goal.byte_at-requires
byte_at-requires c = search (given_byte, proper1, rules)

pub slice_bounds-result-count : goal.slice_bounds-result-count
slice_bounds-result-count c = search (given_long, proper1)

pub slice_bounds-result-start : goal.slice_bounds-result-start
slice_bounds-result-start c = search (given_long, proper1)

pub returns-clause-part : goal.returns-clause-part
returns-clause-part c = search given_part

pub returns-clause-tray : goal.returns-clause-tray
returns-clause-tray c = search given_tray
