-- What the repair of a codeword's lost trays is given.
-- Assumes nothing.
use Rattle.std.specs.Prelude.{◌≡◌, List, ℕ, ◌+◌, ◌*◌, ◌/◌, ◌<◌, length, get_or, take, drop}
use Rattle.algebra.specs.Shape.{Field}
use Rattle.layout.specs.declared.Layout.{Layout}
use Rattle.layout.specs.Layout.{layers, groups, traffic}
use Rattle.codeword.specs.Codeword.{Codeword}
use Rattle.rule.specs.Rule.{rack_part}
use Rattle.rule.specs.Lost.{first_lost, Losses, SoundAlike}
use Rattle.share.specs.Share.{share_of}
use Rattle.share.specs.Many.{many_buffer}
use Rattle.repair.specs.Repair.{SoundSymbols}

module _ {A : Type 0} (f : Field A) (l : Layout) (lost helpers shares host c : List ℕ) where
  -- a codeword, lost trays of one rack, d helpers out of the other racks, shares of the right length, and a host rack whose sound trays are the codeword's,
  -- all symbols
  pub record Setting : Type 0 where
    pub codeword : Codeword f l c
    pub losses : Losses l lost helpers
    pub shares_long : length shares ≡ length lost * traffic l
    pub host_long : length host ≡ l.size * layers l
    pub host_range : SoundSymbols f l lost host
    pub sound : (j : ℕ) → j < layers l → SoundAlike f l lost j host (rack_part l c (first_lost l lost / l.size))

  -- the shares are those of the helpers' racks, one after another, each helper's for the weights m below e in order
  pub record Sent : Type 0 where
    pub setting : Setting
    pub share : (k m : ℕ) → k < l.helpers → m < length lost →
        take (groups l) (drop ((k * length lost + m) * groups l) shares) ≡ share_of f l m (first_lost l lost / l.size) (rack_part l c (get_or helpers k 0))

  -- the shares are what the share calls left: the k-th helper's was given e, the host's number, its own number and rack, and a room that held anything
  pub record Called : Type 0 where
    pub setting : Setting
    pub room : ℕ → List ℕ
    pub share : (k : ℕ) → k < l.helpers →
        take (length lost * groups l) (drop (k * (length lost * groups l)) shares)
        ≡ many_buffer f l (length lost) (first_lost l lost / l.size) (get_or helpers k 0) (rack_part l c (get_or helpers k 0)) (room k)
