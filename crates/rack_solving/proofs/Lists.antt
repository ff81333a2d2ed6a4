-- Lists of whole racks, and the numbers of the loops over them.
-- Assumes nothing.
use mathlib.Core.Path.{◌≡◌, sym, ap, ◌∙◌}
use mathlib.Core.List.{List}
use Prim.Native.Nat.{ℕ, ◌+◌, ◌*◌, ◌/◌, ◌%◌, ◌<◌}
use native.Mathlib.Nat.{add-zero, div-add-mod'}
use native.Mathlib.Omega.{arith}
use lib.Arith.{digits_div, digits_mod}
use lib.ListN.{length, get_or}
use Rattle.kernel.proofs.Rows.{row_before}
use Rattle.rack_solving.specs.Inner.{WholeRacks}

-- ---- the racks of the list
module _ (u n : ℕ) (es : List ℕ) (s : WholeRacks u n es) where
  pub first_in : (i : ℕ) → i < n → 0 < u → i * u < length es
  first_in i h p = let q = row_before i n u h in let e = s.long in omega arith

  pub entry_in : (i g : ℕ) → i < n → g < u → i * u + g < length es
  entry_in i g h k = let q = row_before i n u h in let e = s.long in omega arith

  -- where an entry stands
  place_of : (i g : ℕ) → i < n → g < u → get_or es (i * u + g) 0 ≡ get_or es (i * u) 0 / u * u + g
  place_of i g h k =
      (s.racks.at i h).at g k
      ∙ ap (λ x. x + g) (sym (div-add-mod' (get_or es (i * u) 0) u) ∙ ap (λ x. get_or es (i * u) 0 / u * u + x) (s.racks.at i h).begins ∙ add-zero (get_or es (i * u) 0 / u * u))

  pub rack_of_lem : (i g : ℕ) → i < n → g < u → get_or es (i * u + g) 0 / u ≡ get_or es (i * u) 0 / u
  rack_of_lem i g h k = ap (λ x. x / u) (place_of i g h k) ∙ digits_div (get_or es (i * u) 0 / u) k

  pub place_is : (i g : ℕ) → i < n → g < u → get_or es (i * u + g) 0 % u ≡ g
  place_is i g h k = ap (λ x. x % u) (place_of i g h k) ∙ digits_mod (get_or es (i * u) 0 / u) k
