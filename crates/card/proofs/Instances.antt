-- The theorems for every field that the code works over and every layout that is admissible for it with E = 0, and that a card hangs on the lost tray's rack alone.
-- Assumes nothing.
use mathlib.Core.Path.{◌≡◌, subst}
use mathlib.Core.List.{List}
use Prim.Native.Nat.{ℕ, ◌/◌, ◌<◌}
use lib.ListN.{get_or}
use Rattle.algebra.specs.Shape.{Field}
use Rattle.algebra.specs.Plain.{Working}
use Rattle.algebra.specs.Layers.{digit, group_of}
use Rattle.layout.specs.declared.Layout.{Layout}
use Rattle.layout.specs.Layout.{digits, layers, groups, AdmissibleWith}
use Rattle.layout.proofs.Numbers.{whole_low}
use Rattle.codeword.specs.Codeword.{Codeword}
use Rattle.codeword.proofs.Usable.{solvable}
use Rattle.rule.specs.Rule.{rack_part, Helpers, weighted_sum, share_symbol}
use Rattle.card.specs.Card.{card_sum, Right, OneCard}
use Rattle.card.proofs.Right.{one_card}

-- a card is right for every tray of the rack or for none
pub right_rack : {A : Type 0} (f : Field A) (l : Layout) (x y : ℕ) (helpers : List ℕ) (p : ℕ) (card : List ℕ) → x / l.size ≡ y / l.size → Right f l x helpers p card →
    Right f l y helpers p card
right_rack f l x y helpers p card e r = record {
  gives = subst (λ h. (c : List ℕ) → Codeword f l c → (j : ℕ) → j < layers l → group_of (digits l) h j ≡ p →
      card_sum f l card (λ k. share_symbol f l 0 h (rack_part l c (get_or helpers k 0)) p) (digit (digits l) j h) ≡ weighted_sum f l 0 (rack_part l c h) j) e r.gives;
}

module _ {A : Type 0} {f : Field A} (W : Working f) (l : Layout) (a : AdmissibleWith f.order 0 l) (x : ℕ) (helpers : List ℕ) (help : Helpers l x helpers) (p : ℕ)
    (inside : p < groups l) where
  pub one_card_at : OneCard f l x helpers p
  one_card_at = one_card f l (solvable W l a) x helpers help p inside (whole_low l a.admissible.cabinet)
