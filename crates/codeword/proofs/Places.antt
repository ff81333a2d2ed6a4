-- The exponents of a place's factor fit.
-- Assumes nothing.
use Prim.Native.Nat.{ℕ, ◌*◌, ◌/◌, ◌<◌, ◌≤◌}
use native.Mathlib.Nat.{div-le_self, mul-le-mul, le_trans}
use native.Mathlib.Omega.{arith}
use mir.Val.{Fits}
use mir.Syntax.{w64}
use Rattle.layout.specs.declared.Layout.{Layout}
use Rattle.layout.specs.Layout.{tray_limit, Cabinet}
use Rattle.layout.proofs.Facts.{bounds}

place_high : (N : ℕ) (l : Layout) (g : ℕ) → N ≤ 256 → Cabinet l → g < l.size → N / l.size * g ≤ 256 * 30
place_high N l g h a k = let b = bounds l a in let q : g ≤ 30 = omega arith in mul-le-mul (le_trans (div-le_self N l.size) h) q
