use Rattle.planes.proofs.Planes.{bit_none, bit_one}
use Rattle.planes.proofs.bytes.add_bit.Goals as goal

pub returns-then-b-ne0 : goal.returns-then-b-ne0
returns-then-b-ne0 c = search bit_one

pub returns-else-b-ne0 : goal.returns-else-b-ne0
returns-else-b-ne0 c = search bit_none
