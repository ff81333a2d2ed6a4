use Rattle.kernel.specs.Inner.{inverted}
use Rattle.kernel.proofs.invert.Goals as goal

pub returns : goal.returns
unfolding inverted
returns g c = let r = c.invert.ensures in record { long = r.long; done = r.done; low = r.low; high = r.high }
