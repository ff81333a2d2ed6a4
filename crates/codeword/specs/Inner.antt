-- What inner functions are told and give. Nothing here has to be believed.
-- Assumes nothing.
use Rattle.std.specs.Prelude.{◌≡◌, List, ℕ, ◌+◌, ◌*◌, ◌/◌, ◌%◌, ◌<◌, length}
use Rattle.algebra.specs.Layers.{digit}
use Rattle.algebra.specs.Shape.{Field}
use Rattle.layout.specs.declared.Layout.{Layout}
use Rattle.layout.specs.Layout.{trays, checks, digits, layers, Cabinet}
use Rattle.codeword.specs.declared.Tested.{Tested}
use Rattle.codeword.specs.declared.Tested.TheVariants.{Sound, Bad, Refused}
use Rattle.codeword.specs.Codeword.{check_at}
use Rattle.codeword.specs.Test.{FirstBad}

-- the exponent of the point of tray x in layer j, where the root has N powers
unfoldable pub exponent_at : ℕ → Layout → ℕ → ℕ → ℕ
exponent_at N l x j = x / l.size * digits l + digit (digits l) j (x / l.size) + x % l.size * (N / l.size)

-- a cabinet's layout, its number of layers, and a buffer of the right length
pub record Scannable (l : Layout) (total : ℕ) (c : List ℕ) : Type 0 where
  pub adm : Cabinet l
  pub total_is : total ≡ layers l
  pub long : length c ≡ trays l * layers l

-- what a test past its refusals finds
abbrev pub Scanned : {A : Type 0} → Field A → Layout → List ℕ → Tested → Type 0
Scanned f l c Sound = (j : ℕ) → j < layers l → (t : ℕ) → t < checks l → check_at f l c j t ≡ f.ops.zero
Scanned f l c (Bad j t) = FirstBad f l c j.0 t
Scanned f l c (Refused e) = ⊥
