use Rattle.std.proofs.Common.{ap, bit_xor}
use Rattle.symbol.specs.Arithmetic.{◌⊕◌}
use Rattle.nibble.proofs.add_product.Goals as goal

pub returns : goal.returns
unfolding ◌⊕◌
returns c = ap (bit_xor c.args.sum) c.product.ensures
