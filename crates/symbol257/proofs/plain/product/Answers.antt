use Rattle.symbol257.proofs.Working.{product_is}
use Rattle.symbol257.proofs.plain.product.Goals as goal

pub returns : goal.returns
returns c = product_is _ _ _ _ c.lazy_product.ensures.0 c.settle.ensures
