use Rattle.symbol.specs.Elem.{gf256}
use Rattle.image.proofs.Editions.{all_tested}
use Rattle.image.proofs.all_symbols.Goals as goal

pub returns : goal.returns
returns c = search (all_tested gf256)
