-- The symbols as a field to code over: the numbers below 256 with `⊕` and `⊗`, and the root z.
-- Assumes nothing.
use Rattle.std.specs.Prelude.{ℕ, zero, suc}
use Rattle.std.proofs.Common.{lit<}
use Rattle.algebra.specs.Field.{Ops}
use Rattle.algebra.specs.Coding.{Coding}
use Rattle.algebra.specs.Below.{Below, below, below_coding}
use Rattle.algebra.specs.Shape.{Field}
use Rattle.symbol.specs.Arithmetic.{◌⊕◌, ◌⊗◌, root, order}

abbrev pub Elem : Type 0
Elem = Below 256

-- the element that a number stands for
abbrev pub elem : ℕ → Elem
elem = below 256 (lit< tt)

-- x² · x⁴ · .. , n factors: with 7 of them x to the power 254, the inverse
unfoldable pub squares : ℕ → ℕ → ℕ
squares zero x = 1
squares (suc n) x = x ⊗ x ⊗ squares n (x ⊗ x)

unfoldable pub ops : Ops Elem
ops = record {
  add = λ x y. elem (x.val ⊕ y.val);
  mul = λ x y. elem (x.val ⊗ y.val);
  neg = λ x. x;
  inv = λ x. elem (squares 7 x.val);
  zero = elem 0;
  one = elem 1;
}

-- the field of document 01
abbrev pub gf256 : Field Elem
gf256 = record { ops = ops; root = elem root; order = order; coding = below_coding 256 (lit< tt) }

-- ---- what only code and proofs need
-- the root z
abbrev pub z : Elem
z = elem root

abbrev pub coding : Coding Elem
coding = gf256.coding
