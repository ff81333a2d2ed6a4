-- Bytes fed in two parts, and the complements between two calls.
-- Assumes nothing.
use mathlib.Core.Path.{◌≡◌, refl, sym, ap, ◌∙◌}
use mathlib.Core.List.{List, [], ◌∷◌, ◌++◌}
use Prim.Native.Nat.{ℕ}
use lib.Bits.{bit_xor}
use Rattle.symbol.specs.Arithmetic.{◌⊕◌}
use Rattle.symbol.proofs.Xor.{⊕-assoc, ⊕-self, ⊕-zero, zero_⊕}
use Rattle.checksum.specs.Checksum.{ones, steps, fed, checksum_of}

pub fed_append : (r : ℕ) (a b : List ℕ) → fed r (a ++ b) ≡ fed (fed r a) b
unfolding fed
fed_append r [] b = refl
fed_append r (x ∷ a) b = fed_append (steps 8 (r ⊕ x)) a b

-- a number added twice is gone
pub ⊕-twice : (a b : ℕ) → a ⊕ (a ⊕ b) ≡ b
⊕-twice a b = sym (⊕-assoc a a b) ∙ ap (λ (x : ℕ). x ⊕ b) (⊕-self a) ∙ zero_⊕ b

-- the complement of the complement
pub back : (r : ℕ) → r ⊕ ones ⊕ ones ≡ r
back r = ⊕-assoc r ones ones ∙ ap (λ x. r ⊕ x) (⊕-self ones) ∙ ⊕-zero r

-- of no bytes the checksum is the start
pub nothing : (start : ℕ) → checksum_of start [] ≡ start
unfolding checksum_of fed
nothing start = back start

pub in_parts_lem : (start : ℕ) (a b : List ℕ) → checksum_of (checksum_of start a) b ≡ checksum_of start (a ++ b)
unfolding checksum_of
in_parts_lem start a b = ap (λ r. fed r b ⊕ ones) (back (fed (start ⊕ ones) a)) ∙ ap (λ r. r ⊕ ones) (sym (fed_append (start ⊕ ones) a b))

pub checksum_is : (start out : ℕ) (bytes : List ℕ) → out ≡ fed (bit_xor start ones) bytes → bit_xor out ones ≡ checksum_of start bytes
unfolding checksum_of ◌⊕◌
checksum_is start out bytes e = ap (λ r. bit_xor r ones) e
