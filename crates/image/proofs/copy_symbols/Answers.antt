use Rattle.image.proofs.First.{copied_places}
use Rattle.image.proofs.copy_symbols.Goals as goal

pub returns : goal.returns
returns c = search copied_places
