use Rattle.std.proofs.Common.{ap₂, ◌*◌, arith}
use Rattle.symbol257.proofs.Working.{lazy_times, product_fits}
use Rattle.symbol257.proofs.plain.lazy_product.Goals as goal

pub returns : goal.returns
returns c = (
  lazy_times _ _ _ (product_fits _ _ _ _ (omega arith) (omega arith) c.wide.ensures c.wide-2.ensures) (ap₂ ◌*◌ c.wide.ensures c.wide-2.ensures),
  omega arith,
)
