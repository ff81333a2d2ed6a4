-- What is claimed of the checksum. Proved in proofs/Claims.antt.
-- Assumes nothing.
use Rattle.std.specs.Prelude.{◌≡◌, List, [], ◌∷◌, ◌++◌, ℕ, ◌^◌, ◌<◌, get_or}
use Rattle.symbol.specs.Arithmetic.{◌⊕◌}
use Rattle.checksum.specs.Checksum.{ones, checksum_of}
use Rattle.checksum.specs.Remainder.{Remainder}

-- parts, one after the other
unfoldable pub joined : List (List ℕ) → List ℕ
joined [] = []
joined (part ∷ parts) = part ++ joined parts

-- a call for each part, each going on from what the one before gave
unfoldable pub in_parts : ℕ → List (List ℕ) → ℕ
in_parts start [] = start
in_parts start (part ∷ parts) = in_parts (checksum_of start part) parts

-- apart from the complements, a checksum is the remainder by the polynomial
abbrev pub ChecksumRemains : Type 0
ChecksumRemains =
    (start : ℕ) (bytes : List ℕ) → start < 2 ^ 64 → ((i : ℕ) → get_or bytes i 0 < 256)
    → Remainder (start ⊕ ones) bytes (checksum_of start bytes ⊕ ones)

-- and no other number of 64 bits is
abbrev pub RemainderUnique : Type 0
RemainderUnique =
    (start : ℕ) (bytes : List ℕ) (r r' : ℕ) → r < 2 ^ 64 → r' < 2 ^ 64 → Remainder start bytes r → Remainder start bytes r' → r ≡ r'

-- in parts as in one go, for every cutting of the bytes
abbrev pub ChecksumInParts : Type 0
ChecksumInParts = (start : ℕ) (parts : List (List ℕ)) → in_parts start parts ≡ checksum_of start (joined parts)

-- of the bytes of "123456789" it is what the catalogues of CRCs name as the check value of CRC-64/XZ
abbrev pub ChecksumOfDigits : Type 0
ChecksumOfDigits = checksum_of 0 (49 ∷ 50 ∷ 51 ∷ 52 ∷ 53 ∷ 54 ∷ 55 ∷ 56 ∷ 57 ∷ []) ≡ 0x995DC9BBDF1939FA

abbrev pub ChecksumClaims : Type 0
ChecksumClaims = ChecksumRemains × RemainderUnique × ChecksumInParts × ChecksumOfDigits
