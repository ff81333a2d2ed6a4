-- Testing with trays missing, over any field: what the call answers.
-- Assumes nothing.
use Rattle.std.specs.Prelude.{◌≡◌, List, ℕ, ◌-◌, ◌<◌, length, get_or}
use Rattle.algebra.specs.Shape.{Field}
use Rattle.algebra.specs.Lagrange.{check}
use Rattle.layout.specs.declared.Layout.{Layout}
use Rattle.layout.specs.Layout.{trays, checks, layers}
use Rattle.codeword.specs.Codeword.{symbol_at, point_at}
use Rattle.recover.specs.Recover.{recover_refusal}
use Rattle.test_kept.specs.declared.Kept.{Kept}
use Rattle.test_kept.specs.declared.KeptNumbers.{KeptNumbers}
use Rattle.test_kept.specs.declared.Kept.TheVariants.{Sound, Bad, Refused}

-- the numbers of each answer: the refusal (0 for none), the verdict (1 sound, 2 bad), the layer (0 where it is sound) and the checks tested
abbrev pub report : Kept → KeptNumbers
report (Sound left) = record { refusal = 0; verdict = 1; layer = 0; checks = left }
report (Bad j left) = record { refusal = 0; verdict = 2; layer = j.0; checks = left }
report (Refused e) = record { refusal = e; verdict = 0; layer = 0; checks = 0 }

module _ {A : Type 0} (f : Field A) (l : Layout) (es c : List ℕ) where
  -- symbols of layer j, one for each tray: those of c at the trays that are not listed, any others at those that are; and every check of
  -- the layer holds
  pub record Solution (j : ℕ) : Type 0 where
    pub symbol : ℕ → A
    pub survivors : (x : ℕ) → x < trays l → ((k : ℕ) → k < length es → ¬ (x ≡ get_or es k 0)) → symbol x ≡ symbol_at f l c x j
    pub holds : (t : ℕ) → t < checks l → check f.ops (point_at f l j) (trays l) symbol t ≡ f.ops.zero

  -- layer j is the first that has no solution
  pub record FirstUnsolved (j : ℕ) : Type 0 where
    pub layer_in : j < layers l
    pub unsolved : ¬ Solution j
    pub earlier : (i : ℕ) → i < j → Solution i

  -- the contract of the call
  abbrev pub KeptAnswer : Kept → Type 0
  KeptAnswer (Sound left) = (recover_refusal f l es c ≡ 0) × (left ≡ checks l - length es) × ((j : ℕ) → j < layers l → Solution j)
  KeptAnswer (Bad j left) = (recover_refusal f l es c ≡ 0) × (left ≡ checks l - length es) × FirstUnsolved j.0
  KeptAnswer (Refused e) = (e ≡ recover_refusal f l es c) × (0 < e)
