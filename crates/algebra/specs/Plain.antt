-- Sums, differences, products and powers of the numbers that stand for the elements of a field, and what the code needs of a field beyond its laws. Any
-- number stands for an element, and every result is below the field's size. Nothing here has to be believed.
-- Assumes nothing.
use Rattle.std.specs.Prelude.{◌≡◌, List, ℕ, suc, ◌<◌, ◌≤◌, length, get_or}
use Rattle.algebra.specs.Sum.{pow}
use Rattle.algebra.specs.Shape.{Field, FieldLaws}

module _ {A : Type 0} (f : Field A) where
  open f.ops use {add, mul, neg}
  open f.coding use {elem, val}

  -- the number below the size that stands for the same element
  unfoldable pub reduced : ℕ → ℕ
  reduced a = val (elem a)

  unfoldable pub plus : ℕ → ℕ → ℕ
  plus a b = val (add (elem a) (elem b))

  unfoldable pub minus : ℕ → ℕ → ℕ
  minus a b = val (add (elem a) (neg (elem b)))

  unfoldable pub times : ℕ → ℕ → ℕ
  times a b = val (mul (elem a) (elem b))

  -- the power of a number
  unfoldable pub raised : ℕ → ℕ → ℕ
  raised x e = val (pow f.ops (elem x) e)

  -- the powers of the root
  unfoldable pub root_power : ℕ → ℕ
  root_power e = val (pow f.ops f.root e)

  -- all powers of the root, in a list
  pub record PowersIn (powers : List ℕ) : Type 0 where
    pub long : length powers ≡ f.order
    pub at : (i : ℕ) → i < f.order → get_or powers i 0 ≡ root_power i

  -- the logarithms of all symbols, in a list; that of zero, which has none, is any number
  pub record LogsIn (logs : List ℕ) : Type 0 where
    pub long : length logs ≡ f.coding.size
    pub below : (x : ℕ) → 0 < x → x < f.coding.size → get_or logs x 0 < f.order
    pub at : (x : ℕ) → 0 < x → x < f.coding.size → root_power (get_or logs x 0) ≡ x

  -- what the code needs of a field
  pub record Working : Type 0 where
    pub field : FieldLaws f
    pub zero_is : elem 0 ≡ f.ops.zero
    pub one_is : elem 1 ≡ f.ops.one
    pub inv_zero : f.ops.inv f.ops.zero ≡ f.ops.zero
    pub size_is : f.coding.size ≡ suc f.order
    pub log : ℕ → ℕ
    pub log_below : (x : ℕ) → 0 < x → x < f.coding.size → log x < f.order
    pub power_log : (x : ℕ) → 0 < x → x < f.coding.size → root_power (log x) ≡ x
    pub room : 240 ≤ f.order
