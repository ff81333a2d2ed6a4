-- What is claimed holds over any field that code works in.
-- Assumes nothing.
use Rattle.algebra.specs.Shape.{Field}
use Rattle.algebra.specs.Plain.{Working}
use Rattle.test_kept.specs.Claims.{KeptClaims}
use Rattle.test_kept.proofs.Settled.{answer_unique, answer_moved, as_recover, sound_exactly, nothing_tested}
use Rattle.test_kept.proofs.Whole.{as_test}

pub kept_claims : {A : Type 0} {f : Field A} → Working f → KeptClaims f
kept_claims {f = f} W = (
  (λ l es c r r' p q. answer_unique f l es c r r' p q),
  (λ l es c c' r r' s p q. answer_unique f l es c r r' p (answer_moved f l es c c' s r' q)),
  (λ l es c d number r p q. as_recover W l es c d number p r q),
  (λ l es c r z p. sound_exactly W l es c z r p),
  (λ l c t r p q. as_test W l c t r p q),
  λ l es c r z e p. nothing_tested W l es c z e r p,
)
