-- What is claimed of the repair of one lost tray x, in document 01's terms: `RuledOne` is its rule.
-- Assumes nothing.
use Rattle.std.specs.Prelude.{◌≡◌, List, [], ◌∷◌, ℕ, ◌+◌, ◌-◌, ◌*◌, ◌/◌, ◌%◌, ◌<◌, ◌≤◌, min, length, get_or, take, drop}
use Rattle.algebra.specs.Coding.{InRange}
use Rattle.algebra.specs.Shape.{Field}
use Rattle.layout.specs.declared.Layout.{Layout}
use Rattle.layout.specs.Layout.{layers, groups, traffic}
use Rattle.codeword.specs.Codeword.{Codeword, symbol_at}
use Rattle.rule.specs.Rule.{rack_part, tray_part, Helpers, group_at, Outside, RuledOne}
use Rattle.rule.specs.Lost.{Of}
use Rattle.share.specs.One.{share_buffer}
use Rattle.repair.specs.Repair.{SoundSymbols}
use Rattle.repair.specs.Calls.{Uncut}

-- two host racks are alike in layer j of the trays other than x
abbrev pub OthersAlike : {A : Type 0} → Field A → Layout → ℕ → ℕ → List ℕ → List ℕ → Type 0
OthersAlike f l x j host host' = (g : ℕ) → g < l.size → ¬ (g ≡ x % l.size) → symbol_at f l host g j ≡ symbol_at f l host' g j

module _ {A : Type 0} (f : Field A) (l : Layout) (x : ℕ) (helpers shares host : List ℕ) where
  -- what a done call reports and makes of the spare
  pub record OneDone (first budget : ℕ) (old new : List ℕ) (g crossed to_come : ℕ) : Type 0 where
    pub done_is : g ≡ min budget (groups l - first)
    pub crossed_is : crossed ≡ l.helpers * g
    pub to_come_is : to_come ≡ l.helpers * (groups l - (first + g))
    pub long : length new ≡ length old
    pub ruled : (p : ℕ) → first ≤ p → p < first + g → RuledOne f l x helpers shares host p new
    pub kept : (j : ℕ) → j < layers l → Outside l x first g j → get_or new j 0 ≡ get_or old j 0

  -- the cutting claim for a list of calls: what `Calls` tells of it and of the spare, `start` at first and `spare` now
  pub record CutOne (start : List ℕ) (G crossed to_come : ℕ) (spare : List ℕ) : Type 0 where
    pub within : G ≤ groups l
    pub long : length spare ≡ length start
    -- the layers of groups 0 .. G - 1 hold what the rule fixes
    pub ruled : (p : ℕ) → p < G → RuledOne f l x helpers shares host p spare
    -- which is what one call with first group 0 and budget L/s writes, over whatever other spare,
    pub uncut : (other : List ℕ) (one : Uncut f l (x ∷ []) helpers shares host other) → (j : ℕ) → j < layers l → group_at l x j < G → get_or spare j 0 ≡ get_or one.written j 0
    -- and over each spare of L symbols there is such a call, where what was fixed are symbols
    pub uncut_is : length shares ≡ traffic l → length host ≡ l.size * layers l → InRange f.coding shares → SoundSymbols f l (x ∷ []) host →
        (other : List ℕ) → length other ≡ layers l → Uncut f l (x ∷ []) helpers shares host other
    -- every other symbol is the one it held at first
    pub kept : (j : ℕ) → j < length start → ¬ (group_at l x j < G) → get_or spare j 0 ≡ get_or start j 0
    -- with G = L/s and the shares and sound trays of a codeword, the spare is that codeword's lost tray
    pub whole : G ≡ groups l → (c : List ℕ) → Of f l (x ∷ []) helpers shares host c → spare ≡ tray_part l c x
    pub crossed_is : crossed ≡ l.helpers * G
    pub to_come_is : to_come ≡ l.helpers * (groups l - G)
    pub adds_up : crossed + to_come ≡ traffic l

  -- what the repair of the codeword c's tray x is given: d helpers out of the other racks, their shares as the share calls left them in rooms that held anything,
  -- one after another, and a host rack whose other trays are the codeword's, all symbols
  pub record CalledOne (c : List ℕ) : Type 0 where
    pub codeword : Codeword f l c
    pub chosen : Helpers l x helpers
    pub shares_long : length shares ≡ traffic l
    pub room : ℕ → List ℕ
    pub share : (k : ℕ) → k < l.helpers →
        take (groups l) (drop (k * groups l) shares) ≡ share_buffer f l (x / l.size) (get_or helpers k 0) (rack_part l c (get_or helpers k 0)) (room k)
    pub host_long : length host ≡ l.size * layers l
    pub host_range : SoundSymbols f l (x ∷ []) host
    pub sound : (j : ℕ) → j < layers l → OthersAlike f l x j host (rack_part l c (x / l.size))
