use Rattle.symbol257.specs.Elem.{gf257}
use Rattle.image.proofs.Editions.{all_tested}
use Rattle.image257.proofs.all_symbols.Goals as goal

pub returns : goal.returns
returns c = search (all_tested gf257)
