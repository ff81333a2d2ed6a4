-- What is claimed of the checksum holds.
-- Assumes nothing.
use mathlib.Core.Path.{refl, sym, ◌∙◌}
use mathlib.Core.List.{[], ◌∷◌}
use Rattle.symbol.specs.Arithmetic.{◌⊕◌}
use Rattle.checksum.specs.Checksum.{step, steps, fed, checksum_of}
use Rattle.checksum.specs.Claims.{joined, in_parts, ChecksumInParts, ChecksumOfDigits, ChecksumClaims}
use Rattle.checksum.proofs.Parts.{in_parts_lem, nothing}
use Rattle.checksum.proofs.Divided.{checksum_remains}
use Rattle.checksum.proofs.Unique.{remainder_unique}

in_all_parts : ChecksumInParts
unfolding joined in_parts
in_all_parts start [] = sym (nothing start)
in_all_parts start (part ∷ parts) = in_all_parts (checksum_of start part) parts ∙ in_parts_lem start part (joined parts)

of_digits : ChecksumOfDigits
unfolding checksum_of fed steps step ◌⊕◌
of_digits = refl

pub checksum_claims : ChecksumClaims
checksum_claims = (checksum_remains, remainder_unique, in_all_parts, of_digits)
