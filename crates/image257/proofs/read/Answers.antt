use Rattle.std.proofs.Common.{rules}
use Rattle.image.proofs.Editions.{proper2}
use Rattle.image.proofs.ReadGrounds.{refused_symbols, refused_tray, given_byte, given_tray}
use Rattle.image257.proofs.Second.{copy_room, copied_given}
use Rattle.image257.proofs.read.Goals as goal

pub returns-then-number-ne0-clause-tray : goal.returns-then-number-ne0-clause-tray
returns-then-number-ne0-clause-tray c = search refused_tray

pub returns-then-number-ne0-clause-symbols : goal.returns-then-number-ne0-clause-symbols
returns-then-number-ne0-clause-symbols c = search refused_symbols

pub copy_symbols-requires : goal.copy_symbols-requires
copy_symbols-requires c = search copy_room

pub byte_at-requires : goal.byte_at-requires
byte_at-requires c = search (given_byte, proper2, rules)

pub returns-clause-tray : goal.returns-clause-tray
returns-clause-tray c = search given_tray

pub returns-clause-symbols : goal.returns-clause-symbols
returns-clause-symbols c = search copied_given
