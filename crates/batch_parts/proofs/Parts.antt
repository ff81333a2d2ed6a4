-- The part of one codeword: its length, its symbols, and what they settle.
-- Assumes nothing.
use mathlib.Core.Path.{◌≡◌, refl, sym, ap, ◌∙◌, subst}
use mathlib.Core.List.{List}
use Prim.Native.Nat.{ℕ, ◌+◌, ◌*◌, ◌/◌, ◌%◌, ◌<◌}
use native.Mathlib.Nat.{mul-div_cancel, mul-one, mul-zero, add-zero, mod-lt, div-add-mod', div-lt_iff_lt-mul}
use native.Mathlib.Decide.{dec_lt}
use native.Mathlib.Omega.{arith}
use lib.ListN.{length, get_or}
use Rattle.lists.proofs.Numbers.{cell_in}
use Rattle.lists.proofs.Tables.{table_length, table_at, is_table}
use Rattle.algebra.specs.Coding.{Coding, InRange}
use Rattle.batch_parts.specs.Parts.{part}

module _ (m q : ℕ) (inside : q < m) (xs : List ℕ) (a : ℕ) (long : length xs ≡ a * m) where
  pub part_long : length (part m q xs) ≡ a
  unfolding part
  part_long = table_length _ _ ∙ ap (λ (n : ℕ). n / m) long ∙ mul-div_cancel a (omega arith)

  pub part_at : (i : ℕ) → i < a → get_or (part m q xs) i 0 ≡ get_or xs (i * m + q) 0
  unfolding part
  part_at i h = table_at _ _ i (subst (λ n. i < n) (sym (ap (λ (n : ℕ). n / m) long ∙ mul-div_cancel a (omega arith))) h)

  pub part_place : (i : ℕ) → i < a → i * m + q < length xs
  part_place i h = subst (λ n. i * m + q < n) (sym long) (cell_in a m i q h inside)

  -- the numbers of a part are symbols where those of the buffer are
  pub part_range : {A : Type 0} (k : Coding A) → InRange k xs → InRange k (part m q xs)
  part_range k r = record {
    at = λ i h. let b : i < a = subst (λ n. i < n) part_long h in subst (λ n. n < k.size) (sym (part_at i b)) (r.at (i * m + q) (part_place i b));
  }

positive : (a m i : ℕ) → i < a * m → 0 < m
positive a m i h = go (dec_lt 0 m)
  where
    go : Dec (0 < m) → 0 < m
    go (yes p) = p
    go (no p) =
        let z : m ≡ 0 = omega arith in
        let e : a * m ≡ 0 = ap (λ (n : ℕ). a * n) z ∙ mul-zero a in
        absurd (omega arith)

-- a buffer whose parts are alike is the same
pub parts_same : (m a : ℕ) (xs ys : List ℕ) → length xs ≡ a * m → length ys ≡ a * m → ((q : ℕ) → q < m → part m q xs ≡ part m q ys) → xs ≡ ys
parts_same m a xs ys lx ly e = is_table xs (λ i. get_or ys i 0) (a * m) lx (λ i h. place i h) ∙ sym (is_table ys (λ i. get_or ys i 0) (a * m) ly (λ i h. refl))
  where
    place : (i : ℕ) → i < a * m → get_or xs i 0 ≡ get_or ys i 0
    place i h =
        let pos : 0 < m = positive a m i h in
        let b : i / m < a = (div-lt_iff_lt-mul pos).1 h in
        subst (λ k. get_or xs k 0 ≡ get_or ys k 0) (div-add-mod' i m)
        (sym (part_at m (i % m) (mod-lt i pos) xs a lx (i / m) b) ∙ ap (λ zs. get_or zs (i / m) 0) (e (i % m) (mod-lt i pos)) ∙ part_at m (i % m) (mod-lt i pos) ys a ly (i / m) b)

-- the part of one codeword alone is the buffer
pub part_one : (xs : List ℕ) → part 1 0 xs ≡ xs
unfolding part
part_one xs = sym (is_table xs (λ i. get_or xs (i * 1 + 0) 0) (length xs / 1) (omega arith) (λ i h. ap (λ (n : ℕ). get_or xs n 0) (sym (add-zero (i * 1) ∙ mul-one i))))
