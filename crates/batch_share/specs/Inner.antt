-- What inner functions are told and give. Nothing here has to be believed.
-- Assumes nothing.
use Rattle.std.specs.Prelude.{◌≡◌, List, ℕ, ◌+◌, ◌*◌, ◌≤◌, ◌<◌, length}
use Rattle.algebra.specs.Coding.{InRange}
use Rattle.algebra.specs.Shape.{Field}
use Rattle.layout.specs.declared.Layout.{Layout}
use Rattle.layout.specs.Layout.{layers, groups, Admissible}
use Rattle.share.specs.Share.{share_of}
use Rattle.share.specs.Inner.{fed_trays}
use Rattle.batch_parts.specs.Parts.{part}

module _ {A : Type 0} (f : Field A) (l : Layout) (h many : ℕ) where
  -- the racks of some codewords, and room for their shares
  pub record Gathering (rack out : List ℕ) : Type 0 where
    pub adm : Admissible f.order l
    pub some : 0 < many
    pub long : length rack ≡ l.size * layers l * many
    pub room : length out ≡ groups l * many
    pub host_in : h < l.racks
    pub given : InRange f.coding rack

  -- m trays from place g on, and what the shares hold
  pub record Feeding (rack : List ℕ) (g m : ℕ) (out : List ℕ) : Type 0 where
    pub told : Gathering rack out
    pub held : InRange f.coding out
    pub some_trays : 0 < m
    pub at_once : m ≤ 4
    pub within : g + m ≤ l.size

  -- their parts are added to each codeword's share
  pub record Fed (rack : List ℕ) (g m : ℕ) (was is : List ℕ) : Type 0 where
    pub same : length is ≡ length was
    pub parts : (q : ℕ) → q < many → (x : ℕ) → part many q is ≡ fed_trays f l 1 h x (part many q rack) (g * layers l) m (part many q was)

  -- each codeword's share
  pub record Shared (rack was is : List ℕ) : Type 0 where
    pub same : length is ≡ length was
    pub parts : (q : ℕ) → q < many → part many q is ≡ share_of f l 0 h (part many q rack)
