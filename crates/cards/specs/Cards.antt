-- What the calls of repair cards answer, and what the lent symbols are afterwards: printing the right card, testing a card, and repairing a group by one.
-- Assumes nothing.
use Rattle.std.specs.Prelude.{◌≡◌, true, ◌&&◌, ◌⊎◌, List, [], ◌∷◌, ℕ, ◌*◌, ◌<◌, eqb, length}
use Rattle.algebra.specs.Shape.{Field}
use Rattle.layout.specs.declared.Layout.{Layout}
use Rattle.layout.specs.Layout.{digits, layers, traffic}
use Rattle.range.specs.Range.{symbols_from}
use Rattle.seen.specs.Seen.{piece_symbols}
use Rattle.repair.specs.declared.Repaired.{Repaired}
use Rattle.repair.specs.declared.Repaired.TheVariants.{Done, Refused}
use Rattle.repair.specs.Repair.{report, RepairDone}
use Rattle.card.specs.Card.{Card, Right, Carded}
use Rattle.card.specs.Grounds.{card_ground}

module _ {A : Type 0} (f : Field A) (l : Layout) (x : ℕ) (helpers : List ℕ) (group : ℕ) where
  -- the ground of printing, given the length of the room for the card; 0 for none
  unfoldable pub print_ground : ℕ → ℕ
  print_ground card = card_ground f l x helpers group (eqb card (digits l * l.helpers)) true

  -- the ground of a test before the last; 0 for none
  unfoldable pub test_ground : List ℕ → ℕ
  test_ground card = card_ground f l x helpers group (eqb (length card) (digits l * l.helpers)) (symbols_from f card 0 (length card))

  -- that of a repair, given the length of the spare; it looks at the group's d share symbols and at the host rack's sound trays in its layers
  unfoldable pub repair_ground : List ℕ → List ℕ → List ℕ → ℕ → ℕ
  repair_ground card shares host spare =
      card_ground f l x helpers group
      (eqb (length card) (digits l * l.helpers) && eqb (length shares) (traffic l) && eqb (length host) (l.size * layers l) && eqb spare (layers l))
      (symbols_from f card 0 (length card) && piece_symbols f l (x ∷ []) shares host group 1)

  -- the contract of printing: the right card, or a ground and no symbol changed
  pub record PrintAnswer (old new : List ℕ) (e : ℕ) : Type 0 where
    pub reason : e ≡ print_ground (length old)
    pub kept : 0 < e → new ≡ old
    pub printed : e ≡ 0 → Card f l new
    pub right : e ≡ 0 → Right f l x helpers group new

-- the ground e of a call with these grounds before the last: where there is one, it; else 0 where the card is right, and 15 where it is not
pub record Judged (before : ℕ) (right : Type 0) (e : ℕ) : Type 0 where
  pub earlier : 0 < before → e ≡ before
  pub last : before ≡ 0 → ((e ≡ 0) × right) ⊎ ((e ≡ 15) × ¬ right)

-- the contract of the test
abbrev pub TestAnswer : {A : Type 0} → Field A → Layout → ℕ → List ℕ → List ℕ → ℕ → ℕ → Type 0
TestAnswer f l x helpers card group e = Judged (test_ground f l x helpers group card) (Right f l x helpers group card) e

module _ {A : Type 0} (f : Field A) (l : Layout) (x : ℕ) (helpers card shares host : List ℕ) (group : ℕ) (old new : List ℕ) where
  -- the ground of a repair by card
  abbrev pub GroundIs : ℕ → Type 0
  GroundIs e = Judged (repair_ground f l x helpers group card shares host (length old)) (Right f l x helpers group card) e

  -- a repair that is done: with a right card, what the repair call with this first group and a budget of 1 answers and writes, and by the card's multipliers
  pub record CardDone (g c t : ℕ) : Type 0 where
    pub accepted : GroundIs 0
    pub piece : RepairDone f l (x ∷ []) helpers shares host group 1 old new (report (Done g c t))
    pub carded : Carded f l x group card shares host new

  -- one that is refused: no symbol changed
  pub record CardRefused (e : ℕ) : Type 0 where
    pub refused : GroundIs e
    pub reason : 0 < e
    pub kept : new ≡ old

-- the contract of the repair by card
abbrev pub CardAnswer : {A : Type 0} → Field A → Layout → ℕ → List ℕ → List ℕ → List ℕ → List ℕ → ℕ → List ℕ → List ℕ → Repaired → Type 0
CardAnswer f l x helpers card shares host group old new (Done g c t) = CardDone f l x helpers card shares host group old new g c t
CardAnswer f l x helpers card shares host group old new (Refused e) = CardRefused f l x helpers card shares host group old new e
