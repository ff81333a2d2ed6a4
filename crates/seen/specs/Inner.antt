-- What inner functions are told and give: a tray's numbers by groups and digits, with unit = s^h. Nothing here has to be believed.
-- Assumes nothing.
use Rattle.std.specs.Prelude.{◌≡◌, Bool, true, cond, List, ℕ, ◌+◌, ◌*◌, ◌/◌, ◌%◌, ◌<◌, ◌≤◌, ltb, length, get_or}
use Rattle.lists.specs.Lists.{all, absent}
use Rattle.algebra.specs.Shape.{Field}
use Rattle.layout.specs.declared.Layout.{Layout}
use Rattle.layout.specs.Layout.{layers, groups, Cabinet}

-- the layer of group p whose digit is a, where a block has so many groups
unfoldable pub block_layer : ℕ → ℕ → ℕ → ℕ → ℕ
block_layer s unit p a = (p / unit * s + a) * unit + p % unit

-- the numbers of a tray that begins at a place, for so many groups from p on, are symbols
unfoldable pub group_symbols : {A : Type 0} → Field A → List ℕ → ℕ → ℕ → ℕ → ℕ → ℕ → Bool
group_symbols f host at s unit p w = all (λ k. all (λ a. ltb (get_or host (at + block_layer s unit (p + k) a) 0) f.coding.size) s) w

-- unless the tray is listed
unfoldable pub tray_symbols : {A : Type 0} → Field A → List ℕ → ℕ → List ℕ → ℕ → ℕ → ℕ → ℕ → ℕ → Bool
tray_symbols f lost tray host at s unit first count = cond (absent lost tray) (group_symbols f host at s unit first count) true

-- the tray's layers of the groups below `end` lie in the buffer
pub record Places {X : Type 0} (host : List X) (at s unit end : ℕ) : Type 0 where
  pub unit_pos : 0 < unit
  pub digits_pos : 0 < s
  pub inside : (p a : ℕ) → p < end → a < s → at + block_layer s unit p a < length host
  pub long : at + end * s ≤ length host

-- what the functions that look at symbols are told: a host rack h and groups of the layout
pub record Looking {X : Type 0} (l : Layout) (h : ℕ) (host : List X) (first count : ℕ) : Type 0 where
  pub adm : Cabinet l
  pub host_in : h < l.racks
  pub host_long : length host ≡ l.size * layers l
  pub within : first + count ≤ groups l
