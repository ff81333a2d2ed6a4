use Rattle.symbol.proofs.Working.{sum_product_is}
use Rattle.symbol.proofs.plain.sum_product.Goals as goal

pub returns : goal.returns
returns c = sum_product_is _ _ _ _ _ c.product.ensures c.sum.ensures
