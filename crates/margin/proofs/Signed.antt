-- The difference of two small numbers as a signed one.
-- Assumes nothing.
use mathlib.Core.Path.{◌≡◌, refl, sym, ap, subst, ◌∙◌}
use mathlib.Core.Bool.{Bool, true, false, cond}
use Prim.Native.Nat.{ℕ, zero, suc, ◌+◌, ◌-◌, ◌^◌, ◌≤◌, ◌<◌}
use native.Mathlib.Omega.{arith}
use lib.Dec.{ltb, lit<}
use lib.IntN.{ℤ, pos, negsuc, ◌-ℤ◌, sub_ℕ}
use lib.Signed.{mag}
use borrow.Author.Tests.{le-ltb}
use mir.Syntax.{w32}
use mir.Val.{SFits, to_z, of_z}
use mir.ValLaws.{to_z-of_z}
use Rattle.layout.specs.Layout.{tray_limit}

-- the difference by the numbers' order
pub sub_is : (a b : ℕ) → pos a -ℤ pos b ≡ sub_ℕ a b
sub_is a zero = let h = le-ltb a 0 (omega arith) in let e : a + 0 ≡ a - 0 = omega arith in simp h (ap pos e)
sub_is a (suc b) = refl

-- its size is at most that of the larger number
mag_cond : (t : Bool) (x y m : ℕ) → x ≤ m → y ≤ m → mag (cond t (negsuc x) (pos y)) ≤ m
mag_cond true x y m h k = h
mag_cond false x y m h k = k

mag_sub : (a b m : ℕ) → a ≤ m → b ≤ m → mag (pos a -ℤ pos b) ≤ m
mag_sub a b m h k = rw (sub_is a b) (mag_cond (ltb a b) (b - suc a) (a - b) m (omega arith) (omega arith))

module _ (a b : ℕ) (h : a ≤ tray_limit) (k : b ≤ tray_limit) where
  limit : tray_limit < 2 ^ 31
  limit = lit< tt

  -- it fits an `i32`
  sub_fits : SFits w32 (pos a -ℤ pos b)
  sub_fits = record { sfits = let m = mag_sub a b tray_limit h k in omega (arith, limit) }

  -- a result that is handed on is read from its bits once more
  pub handed_on : (m : ℤ) → m ≡ pos a -ℤ pos b → to_z w32 (of_z w32 m) ≡ pos a -ℤ pos b
  handed_on m e = to_z-of_z w32 m (subst (SFits w32) (sym e) sub_fits) ∙ e
