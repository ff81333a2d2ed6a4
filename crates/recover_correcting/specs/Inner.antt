-- What inner functions are told and give. Nothing here has to be believed.
-- Assumes nothing.
use Rattle.std.specs.Prelude.{◌≡◌, Bool, true, false, List, ℕ, ◌+◌, ◌*◌, ◌<◌, ◌≤◌, length, get_or}
use Rattle.algebra.specs.Shape.{Field}
use Rattle.layout.specs.declared.Layout.{Layout}
use Rattle.layout.specs.Layout.{trays, checks, layers, Admissible}
use Rattle.syndrome.specs.Inner.{Listed}
use Rattle.restore.specs.Inner.{LayerFits, RestoredTo}
use Rattle.recover_correcting.specs.RecoverCorrecting.{with_tray, Surviving}

-- a list of erased trays and a buffer, with two checks or more left over
pub record Wrong (N : ℕ) (l : Layout) (es c : List ℕ) : Type 0 where
  pub adm : Admissible N l
  pub long : length c ≡ trays l * layers l
  pub listed : Listed l es
  pub few : length es + 2 ≤ checks l

-- and the number of layers
pub record Trying (N : ℕ) (l : Layout) (total : ℕ) (es c : List ℕ) : Type 0 where
  pub wrong : Wrong N l es c
  pub total_is : total ≡ layers l

-- the erased trays, and one place more
pub record Begun (es list : List ℕ) : Type 0 where
  pub long : length list ≡ length es + 1
  pub at : (i : ℕ) → i < length es → get_or list i 0 ≡ get_or es i 0

module _ {A : Type 0} (f : Field A) (l : Layout) (es c : List ℕ) where
  -- without tray x every layer of the others meets its checks
  pub record Fitting (x : ℕ) : Type 0 where
    pub tray : Surviving l es x
    pub fits : (j : ℕ) → j < layers l → LayerFits f l (with_tray es x) c j

  -- what trying tray x gives
  pub record Tried (x : ℕ) (list : List ℕ) (r : Bool) : Type 0 where
    pub begun : Begun es list
    pub yes_list : r ≡ true → list ≡ with_tray es x
    pub yes_fits : r ≡ true → Fitting x
    pub no_fits : r ≡ false → ¬ Fitting x

  -- what trying all trays gives
  pub record Found (list : List ℕ) (r : ℕ) : Type 0 where
    pub high : r ≤ trays l
    pub list_is : r < trays l → list ≡ with_tray es r
    pub fits : r < trays l → Fitting r
    pub none : r ≡ trays l → (x : ℕ) → ¬ Fitting x

  -- and replacing the one found
  pub record Replaced (d : List ℕ) (r : ℕ) : Type 0 where
    pub high : r ≤ trays l
    pub fits : r < trays l → Fitting r
    pub restored : r < trays l → RestoredTo f l (with_tray es r) c (layers l) d
    pub none : r ≡ trays l → (x : ℕ) → ¬ Fitting x
    pub kept : r ≡ trays l → d ≡ c
