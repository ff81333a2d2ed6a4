-- What a tray's points hang on.
-- Assumes nothing.
use mathlib.Core.Path.{◌≡◌, ap, ◌∙◌, subst}
use Prim.Native.Nat.{ℕ, ◌+◌, ◌*◌, ◌/◌, ◌%◌, ◌^◌, ◌<◌, ◌≤◌}
use native.Mathlib.Omega.{arith}
use Rattle.algebra.specs.Sum.{pow}
use Rattle.algebra.specs.Shape.{Field}
use Rattle.algebra.specs.Plain.{Working}
use Rattle.algebra.specs.Layers.{digit}
use Rattle.algebra.specs.Cabinet.{layer_point}
use Rattle.algebra.specs.Points.{tray_point, point}
use Rattle.algebra.proofs.Pow.{pow_add as power_add}
use Rattle.layout.specs.declared.Layout.{Layout}
use Rattle.layout.specs.Layout.{digits, Cabinet}
use Rattle.layout.proofs.Facts.{bounds}
use Rattle.blocks.proofs.Digits.{digit_none, digit_same, digit_low}
use Rattle.codeword.specs.Codeword.{point_at}

module _ {A : Type 0} {f : Field A} (W : Working f) (l : Layout) where
  open f use {ops, root, order}
  open W.field use {laws}

  -- a tray's points hang on its rack's digit
  pub point_same : (x j k : ℕ) → digit (digits l) j (x / l.size) ≡ digit (digits l) k (x / l.size) → point_at f l j x ≡ point_at f l k x
  unfolding point_at layer_point tray_point point
  point_same x j k e = ap (λ a. pow ops root (x / l.size * digits l + a + x % l.size * (order / l.size))) e

  -- and that digit is a power of the root
  pub point_digit : (x j : ℕ) → point_at f l j x ≡ ops.mul (pow ops root (digit (digits l) j (x / l.size))) (point_at f l 0 x)
  unfolding point_at layer_point tray_point point
  point_digit x j =
      ap (pow ops root) (turn (x / l.size * digits l) (digit (digits l) j (x / l.size)) (digit (digits l) 0 (x / l.size)) (x % l.size * (order / l.size)) (digit_none (digits l) (x / l.size)))
      ∙ power_add ops laws root (digit (digits l) j (x / l.size)) (x / l.size * digits l + digit (digits l) 0 (x / l.size) + x % l.size * (order / l.size))
    where
      turn : (p d n q : ℕ) → n ≡ 0 → p + d + q ≡ d + (p + n + q)
      turn p d n q e = omega arith

  module _ (a : Cabinet l) where
    -- layers whose block is the same, by a block of run layers
    pub point_run : (x j k n run : ℕ) → run ≡ digits l ^ n → n ≤ x / l.size → j / run ≡ k / run → point_at f l j x ≡ point_at f l k x
    point_run x j k n run e h q = point_same x j k (digit_same (digits l) j k (x / l.size) n h (subst (λ y. j / y ≡ k / y) e q))

    -- layers alike by their lowest n digits
    pub point_cycle : (x j k m n : ℕ) → x / l.size < n → j ≡ m * digits l ^ n + k → point_at f l j x ≡ point_at f l k x
    point_cycle x j k m n h e =
        point_same x j k (ap (λ y. digit (digits l) y (x / l.size)) e ∙ digit_low (digits l) m k (x / l.size) n (bounds l a).digits_low h)
