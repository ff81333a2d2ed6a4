-- Room to work in.
-- Assumes nothing.
use mathlib.Core.Path.{◌≡◌, sym, ◌∙◌, subst}
use mathlib.Core.List.{List}
use Prim.Native.Nat.{ℕ, ◌*◌, ◌^◌, ◌≤◌}
use lib.ListN.{length}
use Rattle.layout.specs.declared.Layout.{Layout}
use Rattle.layout.specs.Layout.{checks, digits}
use Rattle.blocks.specs.Inner.{block_limit, room_limit}
use Rattle.blocks.proofs.Room.{room_of, row_of, room_long, row_long}
use Rattle.restore.specs.Inner.{Erasing}
use Rattle.solving.specs.Inner.{Workspace}

pub space_next : (l : Layout) (w : ℕ) (sums found points coefs row sums' found' points' coefs' row' : List ℕ) → Workspace l w sums found points coefs row →
    length sums' ≡ length sums → length found' ≡ length found → length points' ≡ length points → length coefs' ≡ length coefs → length row' ≡ length row →
    Workspace l w sums' found' points' coefs' row'
space_next l w sums found points coefs row sums' found' points' coefs' row' g a b c d e = record {
  few = g.few;
  sums_long = rw a g.sums_long;
  found_long = rw b g.found_long;
  points_long = rw c g.points_long;
  coefs_long = rw d g.coefs_long;
  row_long = rw e g.row_long;
}

pub space_as : (l : Layout) (e w : ℕ) (sums found points coefs row : List ℕ) → w ≡ digits l ^ e → Workspace l (digits l ^ e) sums found points coefs row → Workspace l w sums found points coefs row
space_as l e w sums found points coefs row q g = subst (λ y. Workspace l y sums found points coefs row) (sym q) g

pub erasing_next : (l : Layout) (total : ℕ) (es c d : List ℕ) → Erasing l total es c → length d ≡ length c → Erasing l total es d
erasing_next l total es c d p e = record { adm = p.adm; total_is = p.total_is; long = e ∙ p.long; listed = p.listed }

-- the arrays
pub space : (l : Layout) (e : ℕ) → digits l ^ e ≤ block_limit → checks l * digits l ^ e ≤ room_limit → Workspace l (digits l ^ e) room_of room_of room_of room_of row_of
space l e h k = record { few = k; sums_long = fits; found_long = fits; points_long = fits; coefs_long = fits; row_long = rw row_long h }
  where
    fits : checks l * digits l ^ e ≤ length room_of
    fits = rw room_long k

pub found_next : (l : Layout) (w : ℕ) (sums found new points coefs row : List ℕ) → Workspace l w sums found points coefs row → length new ≡ length found → checks l * w ≤ length new
found_next l w sums found new points coefs row g e = rw e g.found_long
