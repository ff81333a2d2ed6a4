-- Each edition's reader refuses the other's images.
-- Assumes nothing.
use native.Mathlib.Omega.{arith}
use Rattle.image.specs.Image.{edition1, edition2}
use Rattle.image.specs.Claims.{OtherRefused}
use Rattle.image.proofs.Editions.{proper1, proper2}
use Rattle.image.proofs.OtherEdition.{other_refused}

pub other_refused_both : OtherRefused edition1 edition2 × OtherRefused edition2 edition1
other_refused_both = (other_refused edition1 edition2 proper1 proper2 (λ e. omega arith), other_refused edition2 edition1 proper2 proper1 (λ e. omega arith))
