-- Eight bytes at a time: each with a byte of the state, by its own table.
-- Assumes nothing.
use mathlib.Core.Path.{◌≡◌, sym, ap, ◌∙◌}
use mathlib.Core.List.{List, [], ◌∷◌}
use Prim.Native.Nat.{ℕ, suc, ◌+◌, ◌*◌, ◌/◌, ◌%◌, ◌^◌, ◌<◌, ◌≤◌}
use native.Mathlib.Nat.{div-div-eq-div-mul}
use native.Mathlib.Numerals.{add-one}
use native.Mathlib.Omega.{arith}
use lib.Bits.{bit_xor}
use lib.ListN.{length, get_or, take, drop}
use lib.Seq.{drop-cons}
use Rattle.symbol.specs.Arithmetic.{◌⊕◌}
use Rattle.symbol.proofs.Xor.{⊕-assoc, ⊕-zero}
use Rattle.checksum.specs.Checksum.{steps, fed}
use Rattle.checksum.proofs.Fed.{fed_split}

-- what the steps of table k make of the lowest byte of r, with b added
abbrev entry : ℕ → ℕ → ℕ → ℕ
entry k r b = steps (8 * k + 8) (r % 256 ⊕ b)

-- the state is moved down by a byte before the next byte
next : (r n b : ℕ) (bs : List ℕ) → fed (r / n / 256) (b ∷ bs) ≡ entry (length bs) (r / (n * 256)) b ⊕ fed (r / (n * 256) / 256) bs
next r n b bs = ap (λ z. fed z (b ∷ bs)) (div-div-eq-div-mul r n 256) ∙ fed_split (r / (n * 256)) b bs

fed_eight : (r b0 b1 b2 b3 b4 b5 b6 b7 : ℕ) → r < 2 ^ 64
    → fed r (b0 ∷ b1 ∷ b2 ∷ b3 ∷ b4 ∷ b5 ∷ b6 ∷ b7 ∷ [])
    ≡ entry 7 r b0 ⊕ (entry 6 (r / 2 ^ 8) b1 ⊕ (entry 5 (r / 2 ^ 16) b2 ⊕ (entry 4 (r / 2 ^ 24) b3
    ⊕ (entry 3 (r / 2 ^ 32) b4 ⊕ (entry 2 (r / 2 ^ 40) b5 ⊕ (entry 1 (r / 2 ^ 48) b6 ⊕ entry 0 (r / 2 ^ 56) b7))))))
fed_eight r b0 b1 b2 b3 b4 b5 b6 b7 h =
    fed_split r b0 _ ∙ ap (λ z. entry 7 r b0 ⊕ z) (
    fed_split (r / 2 ^ 8) b1 _ ∙ ap (λ z. entry 6 (r / 2 ^ 8) b1 ⊕ z) (
    next r (2 ^ 8) b2 _ ∙ ap (λ z. entry 5 (r / 2 ^ 16) b2 ⊕ z) (
    next r (2 ^ 16) b3 _ ∙ ap (λ z. entry 4 (r / 2 ^ 24) b3 ⊕ z) (
    next r (2 ^ 24) b4 _ ∙ ap (λ z. entry 3 (r / 2 ^ 32) b4 ⊕ z) (
    next r (2 ^ 32) b5 _ ∙ ap (λ z. entry 2 (r / 2 ^ 40) b5 ⊕ z) (
    next r (2 ^ 40) b6 _ ∙ ap (λ z. entry 1 (r / 2 ^ 48) b6 ⊕ z) (
    next r (2 ^ 48) b7 [] ∙ ap (λ z. entry 0 (r / 2 ^ 56) b7 ⊕ z) last ∙ ⊕-zero (entry 0 (r / 2 ^ 56) b7))))))))
  where
    gone : r / 2 ^ 56 / 256 ≡ 0
    gone = omega arith

    last : fed (r / 2 ^ 56 / 256) [] ≡ 0
    last = unfold fed in gone

eight_listed : (bs : List ℕ) (i : ℕ) → i + 8 ≤ length bs
    → take 8 (drop i bs)
    ≡ get_or bs i 0 ∷ get_or bs (i + 1) 0 ∷ get_or bs (i + 2) 0 ∷ get_or bs (i + 3) 0
    ∷ get_or bs (i + 4) 0 ∷ get_or bs (i + 5) 0 ∷ get_or bs (i + 6) 0 ∷ get_or bs (i + 7) 0 ∷ []
eight_listed bs i h =
    ap (take 8) (drop-cons bs i 0 (omega arith) ∙ ap (λ l. get_or bs i 0 ∷ l) (ap (λ n. drop n bs) (sym (add-one i)) ∙
    at 1 (omega arith) ∙ ap (λ l. get_or bs (i + 1) 0 ∷ l) (
    at 2 (omega arith) ∙ ap (λ l. get_or bs (i + 2) 0 ∷ l) (
    at 3 (omega arith) ∙ ap (λ l. get_or bs (i + 3) 0 ∷ l) (
    at 4 (omega arith) ∙ ap (λ l. get_or bs (i + 4) 0 ∷ l) (
    at 5 (omega arith) ∙ ap (λ l. get_or bs (i + 5) 0 ∷ l) (
    at 6 (omega arith) ∙ ap (λ l. get_or bs (i + 6) 0 ∷ l) (
    at 7 (omega arith)))))))))
  where
    further : (k : ℕ) → suc (i + k) ≡ i + (k + 1)
    further k = omega arith

    at : (k : ℕ) → i + k < length bs → drop (i + k) bs ≡ get_or bs (i + k) 0 ∷ drop (i + (k + 1)) bs
    at k l = drop-cons bs (i + k) 0 l ∙ ap (λ n. get_or bs (i + k) 0 ∷ drop n bs) (further k)

grouped : (a b c d e f g h : ℕ) → a ⊕ b ⊕ (c ⊕ d ⊕ (e ⊕ f ⊕ (g ⊕ h))) ≡ a ⊕ (b ⊕ (c ⊕ (d ⊕ (e ⊕ (f ⊕ (g ⊕ h))))))
grouped a b c d e f g h = simp ⊕-assoc

pub eight_is : (bs : List ℕ) (i r e0 e1 e2 e3 e4 e5 e6 e7 : ℕ) → i + 8 ≤ length bs → r < 2 ^ 64
    → e0 ≡ entry 7 r (get_or bs i 0) → e1 ≡ entry 6 (r / 2 ^ 8) (get_or bs (i + 1) 0)
    → e2 ≡ entry 5 (r / 2 ^ 16) (get_or bs (i + 2) 0) → e3 ≡ entry 4 (r / 2 ^ 24) (get_or bs (i + 3) 0)
    → e4 ≡ entry 3 (r / 2 ^ 32) (get_or bs (i + 4) 0) → e5 ≡ entry 2 (r / 2 ^ 40) (get_or bs (i + 5) 0)
    → e6 ≡ entry 1 (r / 2 ^ 48) (get_or bs (i + 6) 0) → e7 ≡ entry 0 (r / 2 ^ 56) (get_or bs (i + 7) 0)
    → bit_xor (bit_xor e0 e1) (bit_xor (bit_xor e2 e3) (bit_xor (bit_xor e4 e5) (bit_xor e6 e7))) ≡ fed r (take 8 (drop i bs))
eight_is bs i r e0 e1 e2 e3 e4 e5 e6 e7 h l p0 p1 p2 p3 p4 p5 p6 p7 =
    summed ∙ sym (ap (fed r) (eight_listed bs i h) ∙ fed_eight r _ _ _ _ _ _ _ _ l)
  where
    summed : bit_xor (bit_xor e0 e1) (bit_xor (bit_xor e2 e3) (bit_xor (bit_xor e4 e5) (bit_xor e6 e7)))
        ≡ entry 7 r (get_or bs i 0) ⊕ (entry 6 (r / 2 ^ 8) (get_or bs (i + 1) 0)
        ⊕ (entry 5 (r / 2 ^ 16) (get_or bs (i + 2) 0) ⊕ (entry 4 (r / 2 ^ 24) (get_or bs (i + 3) 0)
        ⊕ (entry 3 (r / 2 ^ 32) (get_or bs (i + 4) 0) ⊕ (entry 2 (r / 2 ^ 40) (get_or bs (i + 5) 0)
        ⊕ (entry 1 (r / 2 ^ 48) (get_or bs (i + 6) 0) ⊕ entry 0 (r / 2 ^ 56) (get_or bs (i + 7) 0)))))))
    summed = rw (← p0, ← p1, ← p2, ← p3, ← p4, ← p5, ← p6, ← p7) (unfold ◌⊕◌ in grouped e0 e1 e2 e3 e4 e5 e6 e7)
