-- Shares, groups and document 01's rule of repair for one lost tray, over any field. A rack's u·L numbers lie tray after tray, as a
-- codeword's do: `symbol_at` is the symbol of the tray at a place.
-- The rule for several lost trays, which the calls promise, is in Lost.antt; for one tray the two are the same (proofs/Single.antt), and the claims for one tray
-- (repair/specs/One.antt) are stated by this one.
-- Assumes nothing.
use Rattle.std.specs.Prelude.{◌≡◌, List, ℕ, ◌+◌, ◌*◌, ◌/◌, ◌%◌, ◌≤◌, ◌<◌, eqb, length, get_or, take, drop}
use Rattle.algebra.specs.Sum.{sum, pow}
use Rattle.algebra.specs.Erasure.{choose}
use Rattle.algebra.specs.Shape.{Field}
use Rattle.algebra.specs.Points.{place}
use Rattle.algebra.specs.Layers.{group_of}
use Rattle.algebra.specs.Cabinet.{group_sum, Solution}
use Rattle.layout.specs.declared.Layout.{Layout}
use Rattle.layout.specs.Layout.{trays, digits, layers, groups, parity_racks}
use Rattle.codeword.specs.Codeword.{shape_of, symbol_at}

-- rack i of a codeword, and tray x
unfoldable pub rack_part : Layout → List ℕ → ℕ → List ℕ
rack_part l c i = take (l.size * layers l) (drop (i * (l.size * layers l)) c)

unfoldable pub tray_part : Layout → List ℕ → ℕ → List ℕ
tray_part l c x = take (layers l) (drop (x * layers l) c)

-- d helpers in rising order out of the racks other than that of the lost tray x
pub record Helpers (l : Layout) (x : ℕ) (helpers : List ℕ) : Type 0 where
  pub lost_in : x < trays l
  pub many : length helpers ≡ l.helpers
  pub inside : (k : ℕ) → k < l.helpers → get_or helpers k 0 < l.racks
  pub rising : (k : ℕ) → k + 1 < l.helpers → get_or helpers k 0 < get_or helpers (k + 1) 0
  pub other : (k : ℕ) → k < l.helpers → ¬ (get_or helpers k 0 ≡ x / l.size)

-- the group of layer j, for the rack of the lost tray x
abbrev pub group_at : Layout → ℕ → ℕ → ℕ
group_at l x j = group_of (digits l) (x / l.size) j

-- layer j is in none of the groups first .. first + count - 1
abbrev pub Outside : Layout → ℕ → ℕ → ℕ → ℕ → Type 0
Outside l x first count j = ¬ ((first ≤ group_at l x j) × (group_at l x j < first + count))

module _ {A : Type 0} (f : Field A) (l : Layout) where
  open f.ops use {add, mul, neg, zero}

  -- the sum of a rack's symbols in layer j, each times the m-th power of its place's factor; document 01's rack sum has m = 0, where each factor is 1
  unfoldable pub weighted_sum : ℕ → List ℕ → ℕ → A
  weighted_sum m rack j = sum f.ops l.size (λ g. mul (pow f.ops (place (shape_of f l) g) m) (symbol_at f l rack g j))

  -- symbol p of a helper's share for the host rack h: the sum of its rack sums over the layers of group p
  unfoldable pub share_symbol : ℕ → ℕ → List ℕ → ℕ → A
  share_symbol m h rack p = group_sum (shape_of f l) h p (weighted_sum m rack)

  -- symbol p of the k-th of several helpers' shares that lie one after another
  unfoldable pub shared_symbol : List ℕ → ℕ → ℕ → A
  shared_symbol shares p k = f.coding.elem (get_or shares (k * groups l + p) 0)

  -- the sum in layer j of the host rack's trays other than the lost tray x
  unfoldable pub sound_sum : ℕ → List ℕ → ℕ → A
  sound_sum x host j = sum f.ops l.size (λ g. choose (eqb g (x % l.size)) zero (symbol_at f l host g j))

  -- the layers of group p in the spare hold what the rule fixes for the lost tray x: there are rack sums, by rack and layer, that solve the R checks
  -- t = u·w summed over the group and agree with the shares, and each symbol is the host rack's sum less the rack's other symbols
  pub record RuledOne (x : ℕ) (helpers shares host : List ℕ) (p : ℕ) (spare : List ℕ) : Type 0 where
    pub sums : ℕ → ℕ → A
    pub solution : Solution (shape_of f l) 0 (x / l.size) p (λ k. get_or helpers k 0) l.helpers (parity_racks l) (shared_symbol shares p) sums
    pub holds : (j : ℕ) → j < layers l → group_at l x j ≡ p → get_or spare j 0 ≡ f.coding.val (add (sums (x / l.size) j) (neg (sound_sum x host j)))
