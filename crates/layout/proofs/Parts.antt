-- The parts of a layer's number, as `layer_of` works it out, are at most that number; and those of a group's number, as `group_of` does.
-- Assumes nothing.
use mathlib.Core.Path.{◌≡◌, refl, sym, ap, ◌∙◌}
use Prim.Native.Nat.{ℕ, suc, ◌+◌, ◌*◌, ◌/◌, ◌%◌, ◌^◌, ◌≤◌, ◌<◌, min}
use native.Mathlib.Nat.{le-mul_of_pos_right, le_of_lt, one-le-pow, pow-suc}
use native.Mathlib.Omega.{arith}
use Rattle.algebra.specs.Layers.{group_of, layer_of}
use Rattle.layout.specs.declared.Layout.{Layout}
use Rattle.layout.specs.Layout.{digits, layers, groups, layer_limit, Cabinet}
use Rattle.layout.specs.Inner.{InGroup, HasLayer}
use Rattle.layout.proofs.Facts.{bounds, power_in}
use Rattle.layout.proofs.Numbers.{layer_below, group_below}

pub record Parts (q s p a : ℕ) : Type 0 where
  pub q_low : 0 < q
  pub s_low : 0 < s
  pub high_high : p / q * s < layer_limit
  pub digit_high : p / q * s + a < layer_limit
  pub times_high : (p / q * s + a) * q < layer_limit
  pub whole_high : (p / q * s + a) * q + p % q < layer_limit

module _ (l : Layout) (h p a : ℕ) (g : InGroup l h p a) where
  pub layer_high : layer_of (digits l) h p a < layers l
  layer_high = layer_below l g.adm h p a g.host_in g.group_in g.digit_in

  pub parts : Parts (digits l ^ h) (digits l) p a
  unfolding layer_of
  parts =
      let low = one-le-pow h (digits l) (bounds l g.adm).digits_low in
      let top = layer_high in
      let m = le-mul_of_pos_right (p / digits l ^ h * digits l + a) low in
      let adm = g.adm in
      record {
        q_low = low;
        s_low = (bounds l g.adm).digits_low;
        high_high = omega (arith, top, m, adm.layers_high);
        digit_high = omega (arith, top, m, adm.layers_high);
        times_high = omega (arith, top, adm.layers_high);
        whole_high = omega (arith, top, adm.layers_high);
      }

pub record GroupParts (q s j : ℕ) : Type 0 where
  pub q_low : 0 < q
  pub above_low : 0 < q * s
  pub above_high : q * s ≤ layer_limit
  pub times_high : q * (j / (q * s)) < layer_limit
  pub whole_high : j % q + q * (j / (q * s)) < layer_limit

module _ (l : Layout) (h j : ℕ) (g : HasLayer l h j) where
  pub group_as : group_of (digits l) h j ≡ j % digits l ^ h + digits l ^ h * (j / (digits l ^ h * digits l))
  unfolding group_of
  group_as = ap (λ n. j % digits l ^ h + digits l ^ h * (j / n)) (pow-suc (digits l) h)

  pub group_parts : GroupParts (digits l ^ h) (digits l) j
  group_parts =
      let b = bounds l g.adm in
      let next : digits l ^ suc h ≡ digits l ^ h * digits l = pow-suc (digits l) h in
      let top : group_of (digits l) h j < groups l = group_below l g.adm h j g.host_in g.layer_in in
      record {
        q_low = one-le-pow h (digits l) b.digits_low;
        above_low = rw (sym next) (one-le-pow (suc h) (digits l) b.digits_low);
        above_high = rw (sym next) (power_in l g.adm (suc h) g.host_in);
        times_high = omega (arith, top, group_as, b.groups_high);
        whole_high = omega (arith, top, group_as, b.groups_high);
      }

-- ---- the same of the numbers s and q that the code has for the base and its power
module _ (l : Layout) (h s q : ℕ) (es : s ≡ digits l) (eq : q ≡ min (s ^ h) (layer_limit + 1)) where
  pub power_known : Cabinet l → h < l.racks → q ≡ digits l ^ h
  power_known a k = eq ∙ ap (λ t. min (t ^ h) (layer_limit + 1)) es ∙ omega (arith, power_in l a h (le_of_lt k))

  pub known_parts : (p a : ℕ) → InGroup l h p a → Parts q s p a
  known_parts p a g = rw (power_known g.adm g.host_in, es) (parts l h p a g)

  pub known_layer : (p a : ℕ) → InGroup l h p a → ((p / q * s + a) * q + p % q ≡ layer_of (digits l) h p a) × ((p / q * s + a) * q + p % q < layers l)
  unfolding layer_of
  known_layer p a g = rw (power_known g.adm g.host_in, es) (refl, layer_high l h p a g)

  pub known_groups : (j : ℕ) → HasLayer l h j → GroupParts q s j
  known_groups j g = rw (power_known g.adm g.host_in, es) (group_parts l h j g)

  pub known_group : (j : ℕ) → HasLayer l h j → j % q + q * (j / (q * s)) ≡ group_of (digits l) h j
  known_group j g = rw (power_known g.adm g.host_in, es) (sym (group_as l h j g))
