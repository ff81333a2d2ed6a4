use Rattle.std.proofs.Common.{arith}
use Rattle.layout.proofs.Facts.{fits, fits_not}
use Rattle.layout.proofs.lost_count_fits.Goals as goal

pub returns-then-count-lt1 : goal.returns-then-count-lt1
returns-then-count-lt1 c = fits_not _ _ (λ s t. omega arith)

pub returns-then-u-k : goal.returns-then-u-k
returns-then-u-k c = fits_not _ _ (λ s t. omega arith)

pub returns : goal.returns
returns c = fits _ _ (omega arith) (omega arith)
