-- Points as the code works them out.
-- Assumes nothing.
use mathlib.Core.Path.{◌≡◌, refl, sym, ap, ◌∙◌}
use Prim.Native.Nat.{ℕ, ◌+◌, ◌*◌, ◌/◌, ◌%◌}
use Rattle.algebra.specs.Sum.{pow}
use Rattle.algebra.specs.Shape.{Field}
use Rattle.algebra.specs.Points.{tray_point, point, place}
use Rattle.algebra.specs.Layers.{digit}
use Rattle.algebra.specs.Cabinet.{layer_point}
use Rattle.algebra.specs.Plain.{root_power, Working}
use Rattle.algebra.proofs.Pow.{pow_mul}
use Rattle.algebra.proofs.Plain.{elem_root_power}
use Rattle.layout.specs.declared.Layout.{Layout}
use Rattle.layout.specs.Layout.{digits}
use Rattle.codeword.specs.Codeword.{shape_of, point_at}
use Rattle.codeword.specs.Inner.{exponent_at}

-- the exponent as the code works it out
pub exponent_known : (N : ℕ) (l : Layout) (x j s d : ℕ) → s ≡ digits l → d ≡ digit s j (x / l.size) →
    x / l.size * s + d + x % l.size * (N / l.size) ≡ exponent_at N l x j
unfolding exponent_at
exponent_known N l x j s d es ed = rw (ed, es) refl

module _ {A : Type 0} {f : Field A} (W : Working f) (l : Layout) where
  open f use {ops, root, order}
  open f.coding use {elem}
  open W.field use {laws}

  -- the point by its exponent
  point_is : (x j : ℕ) → point_at f l j x ≡ pow ops root (exponent_at order l x j)
  unfolding point_at exponent_at layer_point tray_point point
  point_is x j = refl

  pub point_power_is : (x j t e r : ℕ) → e ≡ exponent_at order l x j → r ≡ root_power f (e * t) → elem r ≡ pow ops (point_at f l j x) t
  point_power_is x j t e r p q =
      ap elem (q ∙ ap (λ (y : ℕ). root_power f (y * t)) p) ∙ elem_root_power W (exponent_at order l x j * t)
      ∙ pow_mul ops laws root (exponent_at order l x j) t ∙ ap (λ y. pow ops y t) (sym (point_is x j))

  pub place_power_is : (g m r : ℕ) → r ≡ root_power f (order / l.size * g * m) → elem r ≡ pow ops (place (shape_of f l) g) m
  unfolding place
  place_power_is g m r q =
      ap elem q ∙ elem_root_power W (order / l.size * g * m) ∙ pow_mul ops laws root (order / l.size * g) m
      ∙ ap (λ y. pow ops y m) (pow_mul ops laws root (order / l.size) g)
