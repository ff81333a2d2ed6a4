-- What inner functions are told and give. Nothing here has to be believed.
-- The work goes by layouts with E = 0 that have the points and groups of l: `plain_layout 2 l` has its helpers and as many checks as unknowns, and finds a wrong share;
-- the tray goes by it where all shares are right, and by `plain_layout 1 l`, which has one helper less, where one is wrong.
-- Assumes nothing.
use Rattle.std.specs.Prelude.{◌≡◌, List, ℕ, ◌+◌, ◌-◌, ◌*◌, ◌≤◌, ◌<◌, ltb, length, get_or}
use Rattle.algebra.specs.Erasure.{choose}
use Rattle.algebra.specs.Shape.{Field}
use Rattle.layout.specs.declared.Layout.{Layout}
use Rattle.layout.specs.Layout.{layers, groups, traffic, whole_racks, AdmissibleWith}
use Rattle.rule.specs.Rule.{Helpers, RuledOne}

-- n whole racks of data more, 2 - n helpers less, and E = 0
unfoldable pub plain_layout : ℕ → Layout → Layout
plain_layout n l = record { racks = l.racks; size = l.size; dimension = (whole_racks l + n) * l.size; helpers = l.helpers - (2 - n); errors = 0 }

-- one rack or two
pub record Racks (n : ℕ) : Type 0 where
  pub some : 1 ≤ n
  pub few : n ≤ 2

-- the numbers without k
unfoldable pub past_one : ℕ → ℕ → ℕ
past_one k i = choose (ltb i k) i (i + 1)

pub record HelpersLeft (k : ℕ) (helpers : List ℕ) (n : ℕ) (left : List ℕ) : Type 0 where
  pub long : length left ≡ n
  pub at : (i : ℕ) → i < n → get_or left i 0 ≡ get_or helpers (past_one k i) 0

pub record SharesLeft (k n each : ℕ) (shares left : List ℕ) : Type 0 where
  pub at : (i p : ℕ) → i < n → p < each → get_or left (i * each + p) 0 ≡ get_or shares (past_one k i * each + p) 0

-- the most symbols of the shares that are left
abbrev pub sent_limit : ℕ
sent_limit = 20480

-- what `rebuild` is told, in a field whose root has N powers
pub record Rebuilding (N : ℕ) (l : Layout) (n x : ℕ) (helpers shares host spare : List ℕ) : Type 0 where
  pub adm : AdmissibleWith N 1 l
  pub racks : Racks n
  pub help : Helpers (plain_layout n l) x helpers
  pub shares_long : length shares ≡ (l.helpers - (2 - n)) * groups l
  pub host_long : length host ≡ l.size * layers l
  pub spare_long : length spare ≡ layers l

-- the spare holds what document 01's rule fixes
pub record Rebuilt {A : Type 0} (f : Field A) (l : Layout) (n x : ℕ) (helpers shares host old new : List ℕ) : Type 0 where
  pub long : length new ≡ length old
  pub ruled : (p : ℕ) → p < groups l → RuledOne f (plain_layout n l) x helpers shares host p new

-- what is told where helper k is not to be taken
pub record LeavingOut (N : ℕ) (l : Layout) (x : ℕ) (helpers shares host : List ℕ) (k : ℕ) (spare : List ℕ) : Type 0 where
  pub adm : AdmissibleWith N 1 l
  pub help : Helpers l x helpers
  pub inside : k < l.helpers
  pub shares_long : length shares ≡ traffic l
  pub host_long : length host ≡ l.size * layers l
  pub spare_long : length spare ≡ layers l

-- the spare holds what the rule fixes for the other helpers
pub record RebuiltWithout {A : Type 0} (f : Field A) (l : Layout) (x : ℕ) (helpers shares host : List ℕ) (k : ℕ) (old new : List ℕ) : Type 0 where
  pub left : List ℕ
  pub sent : List ℕ
  pub helpers_left : HelpersLeft k helpers (l.helpers - 1) left
  pub shares_left : SharesLeft k (l.helpers - 1) (groups l) shares sent
  pub rebuilt : Rebuilt f l 1 x left sent host old new
