-- What a test of a codeword answers.
-- Assumes nothing.
use Rattle.std.specs.Prelude.{◌≡◌, List, ℕ, ◌*◌, ◌<◌, eqb, length}
use Rattle.lists.specs.Lists.{unless, all_below}
use Rattle.algebra.specs.Shape.{Field}
use Rattle.layout.specs.declared.Layout.{Layout}
use Rattle.layout.specs.Layout.{trays, checks, layers, admissible}
use Rattle.codeword.specs.declared.Tested.{Tested}
use Rattle.codeword.specs.declared.Tested.TheVariants.{Sound, Bad, Refused}
use Rattle.codeword.specs.Codeword.{check_at, Codeword}

-- the refusal of a test; 0 for none. Ground 3 is a number that stands for no symbol, which no byte is
unfoldable pub test_refusal : {A : Type 0} → Field A → Layout → List ℕ → ℕ
test_refusal f l c = unless (admissible f.order l) 1 (unless (eqb (length c) (trays l * layers l)) 2 (unless (all_below c f.coding.size) 3 0))

module _ {A : Type 0} (f : Field A) (l : Layout) (c : List ℕ) where
  -- layer j is the first with a broken check, and t the least broken there
  pub record FirstBad (j t : ℕ) : Type 0 where
    pub layer_in : j < layers l
    pub check_in : t < checks l
    pub broken : ¬ (check_at f l c j t ≡ f.ops.zero)
    pub earlier_layers : (i : ℕ) → i < j → (v : ℕ) → v < checks l → check_at f l c i v ≡ f.ops.zero
    pub earlier_checks : (v : ℕ) → v < t → check_at f l c j v ≡ f.ops.zero

  -- the contract of the test
  abbrev pub TestAnswer : Tested → Type 0
  TestAnswer Sound = (test_refusal f l c ≡ 0) × Codeword f l c
  TestAnswer (Bad j t) = (test_refusal f l c ≡ 0) × FirstBad j.0 t
  TestAnswer (Refused e) = (e ≡ test_refusal f l c) × (0 < e)
