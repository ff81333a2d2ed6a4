-- What inner functions are told. Nothing here has to be believed.
-- Assumes nothing.
use Rattle.std.specs.Prelude.{◌≡◌, ◌&&◌, List, ℕ, ◌*◌, ◌≤◌, length}
use Rattle.lists.specs.Lists.{unless, all_below, strictly_rising}
use Rattle.layout.specs.declared.Layout.{Layout}
use Rattle.layout.specs.Layout.{trays, layers, groups, traffic, AdmissibleWith}
use Rattle.algebra.specs.Shape.{Field}
use Rattle.rule.specs.Lost.{Losses}
use Rattle.grounds.specs.Grounds.{one_rack}
use Rattle.seen.specs.Seen.{piece_symbols}

-- the grounds that the numbers in the lists and the symbols give; those after them are count_refusal (crate grounds)
unfoldable pub number_refusal : {A : Type 0} → Field A → Layout → List ℕ → List ℕ → List ℕ → List ℕ → ℕ → ℕ → ℕ
number_refusal f l lost helpers shares host first budget =
    unless (all_below lost (trays l) && one_rack l lost && all_below helpers l.racks && piece_symbols f l lost shares host first budget) 3
    (unless (strictly_rising lost && strictly_rising helpers) 4
    0)

-- what an accepted call is given, as facts
pub record Repairable (N : ℕ) (l : Layout) (lost helpers : List ℕ) (shares host spare first : ℕ) : Type 0 where
  pub adm : AdmissibleWith N 0 l
  pub shares_long : shares ≡ length lost * traffic l
  pub host_long : host ≡ l.size * layers l
  pub spare_long : spare ≡ length lost * layers l
  pub losses : Losses l lost helpers
  pub first_in : first ≤ groups l
