use Rattle.symbol257.proofs.Working.{sum_product_is}
use Rattle.symbol257.proofs.plain.sum_product.Goals as goal

pub returns : goal.returns
returns c = sum_product_is _ _ _ _ _ _ c.lazy_product.ensures.0 c.lazy_sum.ensures c.settle.ensures
