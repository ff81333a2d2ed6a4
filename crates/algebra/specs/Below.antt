-- The numbers below q as elements to code over.
-- Assumes nothing.
use Rattle.std.specs.Prelude.{ℕ, ◌%◌, ◌<◌, T, ltb}
use Rattle.std.proofs.Common.{mod-lt, lt→ltb}
use Rattle.algebra.specs.Coding.{Coding}

pub record Below (q : ℕ) : Type 0 where
  pub val : ℕ
  pub small : T (ltb val q)

-- shut, so that no computation of an element computes the proof
pub small_of : (q : ℕ) → 0 < q → (n : ℕ) → T (ltb (n % q) q)
small_of q p n = lt→ltb (n % q) q (mod-lt n p)

-- the element that a number stands for
unfoldable pub below : (q : ℕ) → 0 < q → ℕ → Below q
below q p n = record { val = n % q; small = small_of q p n }

abbrev pub below_coding : (q : ℕ) → 0 < q → Coding (Below q)
below_coding q p = record { size = q; elem = below q p; val = λ x. x.val }
