use Rattle.rack_solving.proofs.Symbols.{opposite_none, opposite_some}
use Rattle.rack_solving.proofs.opposite_place.Goals as goal

pub returns-then-m-eq0-clause-answer : goal.returns-then-m-eq0-clause-answer
returns-then-m-eq0-clause-answer c = search opposite_none

pub returns-else-m-eq0-clause-answer : goal.returns-else-m-eq0-clause-answer
returns-else-m-eq0-clause-answer c = search opposite_some
