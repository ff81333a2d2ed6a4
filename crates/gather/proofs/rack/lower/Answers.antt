use Rattle.gather.proofs.Racks.{lower_first, lower_second, lower_less, lower_more}
use Rattle.gather.proofs.rack.lower.Goals as goal

pub returns-then-a-eq0 : goal.returns-then-a-eq0
returns-then-a-eq0 c = search lower_first

pub returns-then-b-eq0 : goal.returns-then-b-eq0
returns-then-b-eq0 c = search lower_second

pub returns-then-b-a : goal.returns-then-b-a
returns-then-b-a c = search lower_less

pub returns : goal.returns
returns c = search lower_more
