-- The layouts that the work goes by: they are admitted and have the points and groups of the layout itself.
-- Assumes nothing.
use mathlib.Core.Path.{◌≡◌, refl, sym, ap, ◌∙◌}
use Prim.Native.Nat.{ℕ, ◌+◌, ◌-◌, ◌*◌, ◌/◌, ◌^◌, ◌≤◌}
use native.Mathlib.Nat.{mul-div_cancel, mul-le-mul_right, add-mul, one-mul}
use native.Mathlib.Omega.{arith}
use mir.Val.{Fits}
use mir.Syntax.{w32}
use Rattle.algebra.specs.Shape.{Field}
use Rattle.layout.specs.declared.Layout.{Layout}
use Rattle.layout.specs.Layout.{whole_racks, parity_racks, digits, layers, groups, Cabinet, AdmissibleWith}
use Rattle.layout.proofs.Facts.{bounds}
use Rattle.codeword.specs.Codeword.{shape_of}
use Rattle.correcting.specs.Inner.{plain_layout, Racks}

-- with E = 1
module _ (l : Layout) (a : Cabinet l) (one : l.errors ≡ 1) (n : ℕ) (r : Racks n) where
  -- K + n whole racks of data
  whole : (whole_racks l + n) * l.size / l.size ≡ whole_racks l + n
  whole = mul-div_cancel (whole_racks l + n) (bounds l a).size_low

  helpers_are : whole_racks l + 2 ≤ l.helpers
  helpers_are = omega (arith, a.helpers_low, one)

  under : whole_racks l + n + 1 ≤ l.racks
  under = let h = helpers_are in omega (arith, a.helpers_high, a.racks_low, r.few)

  pub plain_high : (whole_racks l + n) * l.size + l.size ≤ l.racks * l.size
  plain_high = more (whole_racks l + n) l.size (mul-le-mul_right l.size under)
    where
      more : (k u : ℕ) → (k + 1) * u ≤ l.racks * l.size → k * u + u ≤ l.racks * l.size
      more k u t = let p = add-mul k 1 u in let q = one-mul u in omega arith

  pub plain_digits : digits (plain_layout n l) ≡ digits l
  unfolding plain_layout
  plain_digits = ap (λ k. l.helpers - (2 - n) - 2 * 0 - k + 1) whole ∙ (let h = helpers_are in omega (arith, one, r.some, r.few))

  pub plain_unknowns : parity_racks (plain_layout n l) ≡ parity_racks l - n
  unfolding plain_layout
  plain_unknowns = ap (λ k. l.racks - k) whole ∙ omega arith

  pub plain_cabinet : Cabinet (plain_layout n l)
  unfolding plain_layout
  plain_cabinet = record {
    racks_low = a.racks_low;
    size_low = a.size_low;
    trays_high = a.trays_high;
    dimension_low = low (whole_racks l) (mul-le-mul_right l.size r.some);
    checks_low = let t = plain_high in omega arith;
    helpers_low = rw whole (let h = helpers_are in omega (arith, r.some, r.few));
    helpers_high = omega (arith, a.helpers_high);
    layers_high = rw (ap (λ s. s ^ l.racks) plain_digits) a.layers_high;
  }
    where
      low : (k : ℕ) → 1 * l.size ≤ n * l.size → l.size ≤ (k + n) * l.size
      low k t = let p = add-mul k n l.size in let q = one-mul l.size in omega arith

  -- the shape, the groups and the layers are those of the layout
  pub plain_shape : {A : Type 0} (f : Field A) → shape_of f l ≡ shape_of f (plain_layout n l)
  unfolding plain_layout
  plain_shape f = ap (λ s. record { ops = f.ops; root = f.root; order = f.order; racks = l.racks; size = l.size; digits = s }) (sym plain_digits)

  pub plain_groups : groups (plain_layout n l) ≡ groups l
  unfolding plain_layout
  plain_groups = ap (λ s. s ^ l.racks / s) plain_digits

  pub plain_layers : layers (plain_layout n l) ≡ layers l
  unfolding plain_layout
  plain_layers = ap (λ s. s ^ l.racks) plain_digits

-- it is admissible where l is
pub plain_admissible : (N : ℕ) (l : Layout) (n : ℕ) → Racks n → AdmissibleWith N 1 l → AdmissibleWith N 0 (plain_layout n l)
unfolding plain_layout
plain_admissible N l n r a = record {
  admissible = record { cabinet = plain_cabinet l a.admissible.cabinet a.errors_are n r; size_ok = a.admissible.size_ok; errors_high = omega arith };
  errors_are = refl;
}

pub one_rack_lem : Racks 1
one_rack_lem = record { some = omega arith; few = omega arith }

pub two_racks : Racks 2
two_racks = record { some = omega arith; few = omega arith }
