-- What is claimed holds over any field that code works in.
-- Assumes nothing.
use Rattle.algebra.specs.Shape.{Field}
use Rattle.algebra.specs.Plain.{Working}
use Rattle.recover_correcting.specs.Claims.{CorrectionClaims}
use Rattle.recover_correcting.proofs.Settled.{answer_unique, eight_exactly, one_wrong_returns, two_wrong_safe}
use Rattle.recover_correcting.proofs.Wrong.{at_most_one_wrong, none_wrong_returns, two_wrong_refused}
use Rattle.recover_correcting.proofs.Looks.{never_looks}

pub correction_claims : {A : Type 0} {f : Field A} → Working f → CorrectionClaims f
correction_claims {f = f} W = (
  (λ l es c d d' r r' p q. answer_unique f l W es c d d' r r' p q),
  (λ l es c c' d d' r r' s p q. never_looks f l es c c' s W d d' r r' p q),
  (λ l es c d r z p. eight_exactly f l W es c z d r p),
  (λ l es c d w y r z few t good s p. one_wrong_returns f l W es c z few y t w good s d r p),
  (λ l es c d w r z few good one p. at_most_one_wrong f l W es c w z good few one d r p),
  (λ l es c d w r z good g p. none_wrong_returns f l W es c w z good g d r p),
  (λ l es c d w y x r z few t u good s p h. two_wrong_safe f l W es c z few y x t u w good s d r p h),
  λ l es c d w y x r z few good t u n a b g p. two_wrong_refused f l W es c w z good few y x t u n a b g d r p,
)
