-- The two loops: what is still to be fed makes the result.
-- Assumes nothing.
use mathlib.Core.Path.{◌≡◌, sym, ap, ap₂, ◌∙◌}
use mathlib.Core.List.{List}
use Prim.Native.Nat.{ℕ, ◌+◌, ◌<◌, ◌≤◌}
use native.Mathlib.Numerals.{add-one}
use lib.ListN.{length, get_or, take, drop, take-append-drop}
use lib.Seq.{drop-cons, drop-drop}
use Rattle.std.proofs.lemmas.List.{drop_all}
use Rattle.symbol.specs.Arithmetic.{◌⊕◌}
use Rattle.checksum.specs.Checksum.{steps, fed}
use Rattle.checksum.proofs.Parts.{fed_append}

pub ones_more : (start r r' : ℕ) (bs : List ℕ) (i : ℕ) → fed r (drop i bs) ≡ fed start bs → i < length bs
    → r' ≡ steps 8 (r ⊕ get_or bs i 0) → fed r' (drop (i + 1) bs) ≡ fed start bs
unfolding fed
ones_more start r r' bs i e h s = ap₂ fed s (ap (λ k. drop k bs) (add-one i)) ∙ sym (ap (fed r) (drop-cons bs i 0 h)) ∙ e

pub ones_end : (start r : ℕ) (bs : List ℕ) (i : ℕ) → fed r (drop i bs) ≡ fed start bs → length bs ≤ i → r ≡ fed start bs
ones_end start r bs i e g = none ∙ e
  where
    none : r ≡ fed r (drop i bs)
    none = unfold fed in sym (ap (fed r) (drop_all i bs g))

pub eights_more : (start r r' : ℕ) (bs : List ℕ) (i : ℕ) → fed r (drop i bs) ≡ fed start bs → r' ≡ fed r (take 8 (drop i bs))
    → fed r' (drop (i + 8) bs) ≡ fed start bs
eights_more start r r' bs i e s =
    ap (λ x. fed x (drop (i + 8) bs)) s ∙ ap (fed (fed r (take 8 (drop i bs)))) (sym (drop-drop 8 i bs))
    ∙ sym (fed_append r (take 8 (drop i bs)) (drop 8 (drop i bs))) ∙ ap (fed r) (take-append-drop 8 (drop i bs)) ∙ e
