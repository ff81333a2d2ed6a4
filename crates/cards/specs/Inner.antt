-- What inner functions are told and give, over any field. Nothing here has to be believed.
-- Assumes nothing.
use Rattle.std.specs.Prelude.{◌≡◌, Bool, true, false, List, ℕ, ◌+◌, ◌*◌, ◌<◌, eqb, length, get_or}
use Rattle.lists.specs.Lists.{all}
use Rattle.algebra.specs.Sum.{sum}
use Rattle.algebra.specs.Shape.{Field}
use Rattle.layout.specs.declared.Layout.{Layout}
use Rattle.layout.specs.Layout.{trays, digits, layers, groups, traffic, Cabinet, AdmissibleWith}
use Rattle.rule.specs.Rule.{Helpers, shared_symbol}
use Rattle.card.specs.Card.{multiplier, card_sum, Right}
use Rattle.card.specs.Inner.{right_multiplier}

-- the first len numbers of two buffers are the same
unfoldable pub same_numbers : List ℕ → List ℕ → ℕ → Bool
same_numbers a b len = all (λ i. eqb (get_or a i 0) (get_or b i 0)) len

-- what the look at a group's symbols is told
pub record Looking (l : Layout) (x : ℕ) (shares host : List ℕ) : Type 0 where
  pub adm : Cabinet l
  pub lost_in : x < trays l
  pub shares_long : length shares ≡ traffic l
  pub host_long : length host ≡ l.size * layers l

-- a card, shares and a group
pub record Carding (l : Layout) (card shares : List ℕ) (p : ℕ) : Type 0 where
  pub adm : Cabinet l
  pub card_long : length card ≡ digits l * l.helpers
  pub shares_long : length shares ≡ traffic l
  pub inside : p < groups l

module _ {A : Type 0} (f : Field A) where
  open f use {ops}
  open f.coding use {elem}

  -- a card's numbers are the right multipliers
  abbrev pub Agreeing : Layout → ℕ → ℕ → List ℕ → List ℕ → Type 0
  Agreeing l h p helpers card = (b k : ℕ) → b < digits l → k < l.helpers → multiplier f l card b k ≡ right_multiplier f l h helpers p b k

  -- whether they are
  pub record Verdict (l : Layout) (h p : ℕ) (helpers card : List ℕ) (r : Bool) : Type 0 where
    pub right : r ≡ true → Agreeing l h p helpers card
    pub wrong : r ≡ false → ¬ Agreeing l h p helpers card

  -- the first n terms of the card's sum, in rows of d multipliers and m share symbols
  unfoldable pub part_sum : List ℕ → List ℕ → ℕ → ℕ → ℕ → ℕ → ℕ → A
  part_sum card shares d m p b n = sum ops n (λ k. ops.mul (elem (get_or card (b * d + k) 0)) (elem (get_or shares (k * m + p) 0)))

  -- less the card's sums of the digits below n
  pub record SumsBelow (l : Layout) (card shares : List ℕ) (p n : ℕ) (sums : List ℕ) : Type 0 where
    pub at : (b : ℕ) → b < n → elem (get_or sums b 0) ≡ ops.neg (card_sum f l card (shared_symbol f l shares p) b)

  -- what a repair by card past its grounds is given
  pub record CardRepairing (l : Layout) (x : ℕ) (helpers card shares host : List ℕ) (p : ℕ) (spare : List ℕ) : Type 0 where
    pub adm : AdmissibleWith f.order 0 l
    pub carding : Carding l card shares p
    pub help : Helpers l x helpers
    pub host_long : length host ≡ l.size * layers l
    pub spare_long : length spare ≡ layers l
    pub right : Right f l x helpers p card
