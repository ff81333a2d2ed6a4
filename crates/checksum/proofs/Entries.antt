-- The rule of the table of src/table.rt, by one test of all its entries that antt computes.
-- Assumes nothing.
use mathlib.Core.Path.{◌≡◌, ap₂, ◌∙◌}
use mathlib.Core.Bool.{Bool}
use mathlib.Core.List.{List}
use Prim.Native.Nat.{ℕ, ◌+◌, ◌*◌, ◌/◌, ◌%◌, ◌<◌}
use native.Mathlib.Omega.{arith}
use lib.Dec.{T, eqb, eqb→eq}
use lib.ListN.{length, get_or}
use Rattle.lists.proofs.Computed.{every, at}
use Rattle.checksum.specs.Checksum.{steps}
use Rattle.checksum.specs.Inner.{Tables}

-- entry i of row q is what 4 q + 4 steps make of i
abbrev pub right : ℕ → ℕ → Bool
right i x = eqb x (steps (4 * (i / 16) + 4) (i % 16))

pub tables_are : (t : List ℕ) → T (eqb (length t) 256) → T (every right 0 t) → Tables t 8
tables_are t s r k l = record {
  long = let e = long in omega arith;
  high = λ i h. rule (k * 32 + i) (let e = long in omega arith) ∙ place (k * 32 + i) (8 * k + 4) i (omega arith) (omega arith);
  low = λ i h. rule (k * 32 + 16 + i) (let e = long in omega arith) ∙ place (k * 32 + 16 + i) (8 * k + 8) i (omega arith) (omega arith);
}
  where
    long : length t ≡ 256
    long = eqb→eq (length t) 256 s

    rule : (i : ℕ) → i < length t → get_or t i 0 ≡ steps (4 * (i / 16) + 4) (i % 16)
    rule i h = eqb→eq (get_or t i 0) (steps (4 * (i / 16) + 4) (i % 16)) (at right t r i h)

    place : (j n i : ℕ) → 4 * (j / 16) + 4 ≡ n → j % 16 ≡ i → steps (4 * (j / 16) + 4) (j % 16) ≡ steps n i
    place j n i p q = ap₂ steps p q
