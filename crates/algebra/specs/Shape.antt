-- A field with a root to code over, and the numbers of a cabinet that its points go by. Definitions and theorems take one of these records in place
-- of seven parameters.
-- Assumes nothing.
use Rattle.std.specs.Prelude.{◌≡◌, ℕ, ◌*◌, ◌/◌, ◌≤◌, ◌<◌}
use Rattle.algebra.specs.Field.{Ops, Laws}
use Rattle.algebra.specs.Coding.{Coding, Coded}
use Rattle.algebra.specs.Sum.{pow}

-- operations, a root and its order (document 01: z and 255), and how numbers stand for elements
pub record Field (A : Type 0) : Type 0 where
  pub ops : Ops A
  pub root : A
  pub order : ℕ
  pub coding : Coding A

-- z has N different powers, and the N-th is one
pub record Root {A : Type 0} (o : Ops A) (z : A) (N : ℕ) : Type 0 where
  pub full : pow o z N ≡ o.one
  pub apart : (a b : ℕ) → a < N → b < N → pow o z a ≡ pow o z b → a ≡ b

pub record FieldLaws {A : Type 0} (f : Field A) : Type 0 where
  pub laws : Laws f.ops
  pub root : Root f.ops f.root f.order
  pub coded : Coded f.coding

-- document 01: z, its order, B racks of u trays, and s digits
pub record Shape (A : Type 0) : Type 0 where
  pub ops : Ops A
  pub root : A
  pub order : ℕ
  pub racks : ℕ
  pub size : ℕ
  pub digits : ℕ

-- ---- what only code and proofs need
-- what the construction needs of these
pub record Fits {A : Type 0} (sh : Shape A) : Type 0 where
  pub laws : Laws sh.ops
  pub root : Root sh.ops sh.root sh.order
  pub some_racks : 0 < sh.racks
  pub some_places : 0 < sh.size
  pub some_digits : 0 < sh.digits
  pub divides : sh.size * (sh.order / sh.size) ≡ sh.order
  pub room : sh.racks * sh.digits ≤ sh.order / sh.size
