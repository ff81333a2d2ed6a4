-- Rows of w places, one after another.
-- Assumes nothing.
use mathlib.Core.Path.{◌≡◌, refl, sym, ap, ◌∙◌}
use mathlib.Core.List.{List}
use Prim.Native.Nat.{ℕ, ◌+◌, ◌*◌, ◌<◌, ◌≤◌}
use native.Mathlib.Nat.{mul-le-mul_right, add-mul, one-mul, le_trans}
use native.Mathlib.Decide.{dec_lt}
use native.Mathlib.Omega.{arith}
use lib.ListN.{length, get_or}
use Rattle.algebra.specs.Shape.{Field}
use Rattle.kernel.specs.Inner.{Run, cell}

-- a row ends where the next one begins
pub row_end : (x w : ℕ) → (x + 1) * w ≡ x * w + w
row_end x w = add-mul x 1 w ∙ ap (λ (v : ℕ). x * w + v) (one-mul w)

-- an earlier row ends before a later one begins
pub row_before : (x y w : ℕ) → x < y → x * w + w ≤ y * w
row_before x y w h = let l : x + 1 ≤ y = omega arith in rw (sym (row_end x w)) (mul-le-mul_right w l)

pub row_in : (xs : List ℕ) (n w x : ℕ) → n * w ≤ length xs → x < n → x * w + w ≤ length xs
row_in xs n w x e h = le_trans (row_before x n w h) e

-- a row written leaves the others
pub row_other : (f : ℕ → ℕ) (was is : List ℕ) (a w : ℕ) → Run f was is (a * w) w → (x j : ℕ) → j < w → ¬ (x ≡ a) → get_or is (x * w + j) 0 ≡ get_or was (x * w + j) 0
row_other f was is a w r x j h d = go (dec_lt x a)
  where
    go : Dec (x < a) → get_or is (x * w + j) 0 ≡ get_or was (x * w + j) 0
    go (yes l) = r.low (x * w + j) (let e = row_before x a w l in omega arith)
    go (no l) = r.high (x * w + j) (let e = row_before a x w (omega arith) in omega arith)

-- the same by cells
module _ {A : Type 0} (f : Field A) where
  open f.coding use {elem}

  pub cell_is : (v : ℕ) (xs : List ℕ) (k c : ℕ) → elem (get_or xs (k * v + c) 0) ≡ cell f v xs k c
  unfolding cell
  cell_is v xs k c = refl

  pub cell_other : (g : ℕ → ℕ) (was is : List ℕ) (a v : ℕ) → Run g was is (a * v) v → (x c : ℕ) → c < v → ¬ (x ≡ a) → cell f v is x c ≡ cell f v was x c
  unfolding cell
  cell_other g was is a v r x c h d = ap elem (row_other g was is a v r x c h d)

  -- row 0
  pub row_zero : (g : ℕ → ℕ) (was is : List ℕ) (v : ℕ) → Run g was is 0 v → (c : ℕ) → c < v → cell f v is 0 c ≡ elem (g c)
  unfolding cell
  row_zero g was is v r c h = ap (λ (i : ℕ). elem (get_or is i 0)) (place v c) ∙ ap elem (r.done c h)
    where
      place : (v c : ℕ) → 0 * v + c ≡ 0 + c
      place v c = omega arith

  pub zero_cell : (v : ℕ) (xs : List ℕ) (c : ℕ) → cell f v xs 0 c ≡ elem (get_or xs (0 + c) 0)
  unfolding cell
  zero_cell v xs c = ap (λ (i : ℕ). elem (get_or xs i 0)) (place v c)
    where
      place : (v c : ℕ) → 0 * v + c ≡ 0 + c
      place v c = omega arith
