-- A length that is so many times another.
-- Assumes nothing.
use mathlib.Core.Path.{◌≡◌, sym, ap, ◌∙◌}
use mathlib.Core.Bool.{false}
use Prim.Native.Nat.{ℕ, ◌+◌, ◌*◌, ◌/◌, ◌%◌, ◌<◌}
use native.Mathlib.Nat.{mul_comm, mul-div_cancel, div-add-mod}
use native.Mathlib.Decide.{ℕ_discrete}
use native.Mathlib.Omega.{arith}
use borrow.Author.Tests.{eq-eqb}
use lib.Dec.{eqb}
use Rattle.algebra.proofs.Equal.{eqb_other}

-- a length that is so many times another
pub times_no : (len a m : ℕ) → 0 < a → ¬ (len / a ≡ m) → false ≡ eqb len (a * m)
times_no len a m h d = sym (eqb_other (λ e. d (ap (λ (n : ℕ). n / a) (e ∙ mul_comm a m) ∙ mul-div_cancel m h)))

pub times_rest : (len a m : ℕ) → len / a ≡ m → eqb (len % a) 0 ≡ eqb len (a * m)
times_rest len a m e = go (ℕ_discrete (len % a) 0)
  where
    parts : a * (len / a) + len % a ≡ len
    parts = div-add-mod len a

    here : a * (len / a) ≡ a * m
    here = ap (λ (n : ℕ). a * n) e

    go : Dec (len % a ≡ 0) → eqb (len % a) 0 ≡ eqb len (a * m)
    go (yes z) = eq-eqb _ _ z ∙ sym (eq-eqb len (a * m) (let p = parts in let q = here in omega arith))
    go (no d) = eqb_other d ∙ sym (eqb_other (λ (z : len ≡ a * m). d (let p = parts in let q = here in omega arith)))
