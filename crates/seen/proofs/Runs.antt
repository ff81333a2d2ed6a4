-- The layers of groups in blocks of `unit` groups: a run for each digit within a block, one run for whole blocks.
-- Assumes nothing.
use mathlib.Core.Path.{◌≡◌, sym, ap, ap₂, ◌∙◌}
use Prim.Native.Nat.{ℕ, ◌+◌, ◌-◌, ◌*◌, ◌/◌, ◌%◌, ◌<◌, ◌≤◌}
use native.Mathlib.Nat.{add_assoc, mul_assoc, mul_comm, mod-lt, div-add-mod', div-lt_iff_lt-mul, le-div_iff_mul-le, mul-le-mul_right, mul-mod_left}
use native.Mathlib.Omega.{arith}
use lib.Arith.{digits_lt, digits_div, digits_mod}
use Rattle.kernel.proofs.Rows.{row_end}
use Rattle.seen.specs.Inner.{block_layer}

module _ (s unit : ℕ) (some : 0 < unit) where
  -- within a block
  pub block_layer_lem : (p w k a : ℕ) → p % unit + w ≤ unit → k < w → block_layer s unit (p + k) a ≡ (p / unit * s + a) * unit + p % unit + k
  unfolding block_layer
  block_layer_lem p w k a h hk =
      ap₂ (λ x y. (x * s + a) * unit + y) (ap (λ x. x / unit) split ∙ digits_div (p / unit) small) (ap (λ x. x % unit) split ∙ digits_mod (p / unit) small)
      ∙ sym (add_assoc ((p / unit * s + a) * unit) (p % unit) k)
    where
      split : p + k ≡ p / unit * unit + (p % unit + k)
      split = omega (arith, div-add-mod' p unit)

      small : p % unit + k < unit
      small = omega arith

  -- a multiple of the unit, and its layers
  multiple : (q : ℕ) → q % unit ≡ 0 → q ≡ q / unit * unit
  multiple q e = omega (arith, div-add-mod' q unit)

  turned : (x : ℕ) → x * unit * s ≡ x * s * unit
  turned x = mul_assoc x unit s ∙ ap (λ y. x * y) (mul_comm unit s) ∙ sym (mul_assoc x s unit)

  begin : (q : ℕ) → q % unit ≡ 0 → q * s ≡ q / unit * s * unit
  begin q e = ap (λ x. x * s) (multiple q e) ∙ turned (q / unit)

  module _ (q : ℕ) (e : q % unit ≡ 0) where
    -- the layers of the groups before q are those before q·s
    pub layer_below : (p a : ℕ) → p < q → a < s → block_layer s unit p a < q * s
    unfolding block_layer
    layer_below p a h k = rw (begin q e) (digits_lt (digits_lt high k) (mod-lt p some))
      where
        high : p / unit < q / unit
        high = (div-lt_iff_lt-mul some).1 (omega (arith, multiple q e))

    pub layer_above : (p a : ℕ) → q ≤ p → q * s ≤ block_layer s unit p a
    unfolding block_layer
    layer_above p a h =
        let high : q / unit ≤ p / unit = (le-div_iff_mul-le some).1 (omega (arith, multiple q e)) in
        let m : q / unit * s ≤ p / unit * s = mul-le-mul_right s high in
        let n : q / unit * s * unit ≤ (p / unit * s + a) * unit = mul-le-mul_right unit (omega arith) in
        omega (arith, begin q e)

  -- and each layer is of a group
  module _ (many : 0 < s) (j : ℕ) where
    abbrev pub group : ℕ
    group = j / unit / s * unit + j % unit

    pub layer_is : block_layer s unit group (j / unit % s) ≡ j
    unfolding block_layer
    layer_is =
        ap₂ (λ x y. (x * s + j / unit % s) * unit + y) (digits_div (j / unit / s) (mod-lt j some)) (digits_mod (j / unit / s) (mod-lt j some))
        ∙ ap (λ x. x * unit + j % unit) (div-add-mod' (j / unit) s) ∙ div-add-mod' j unit

    module _ (q : ℕ) (e : q % unit ≡ 0) where
      pub group_below : j < q * s → group < q
      group_below h =
          let a : j / unit < q / unit * s = (div-lt_iff_lt-mul some).1 (omega (arith, begin q e)) in
          let b : j / unit / s < q / unit = (div-lt_iff_lt-mul many).1 a in
          let c : group < q / unit * unit = digits_lt b (mod-lt j some) in
          omega (arith, multiple q e)

      pub group_above : q * s ≤ j → q ≤ group
      group_above h =
          let a : q / unit * s ≤ j / unit = (le-div_iff_mul-le some).1 (omega (arith, begin q e)) in
          let b : q / unit ≤ j / unit / s = (le-div_iff_mul-le many).1 a in
          let c : q / unit * unit ≤ j / unit / s * unit = mul-le-mul_right unit b in
          omega (arith, multiple q e)

-- the next multiple of the unit, and the last one
pub next_multiple : (n unit : ℕ) → 0 < unit → (n + (unit - n % unit)) % unit ≡ 0
next_multiple n unit some = ap (λ x. x % unit) is ∙ mul-mod_left (n / unit + 1) unit
  where
    is : n + (unit - n % unit) ≡ (n / unit + 1) * unit
    is = omega (arith, div-add-mod' n unit, mod-lt n some, row_end (n / unit) unit)

pub last_multiple : (n unit : ℕ) → (n - n % unit) % unit ≡ 0
last_multiple n unit = ap (λ x. x % unit) is ∙ mul-mod_left (n / unit) unit
  where
    is : n - n % unit ≡ n / unit * unit
    is = omega (arith, div-add-mod' n unit)

pub multiples_ordered : (first count unit : ℕ) → 0 < unit → unit < first % unit + count → first + (unit - first % unit) ≤ first + count - (first + count) % unit
multiples_ordered first count unit some beyond =
    let e = div-add-mod' first unit in
    let d = div-add-mod' (first + count) unit in
    let k : (first / unit + 1) * unit ≤ first + count = omega (arith, row_end (first / unit) unit) in
    let m : first / unit + 1 ≤ (first + count) / unit = (le-div_iff_mul-le some).1 k in
    let n : (first / unit + 1) * unit ≤ (first + count) / unit * unit = mul-le-mul_right unit m in
    omega (arith, row_end (first / unit) unit, mod-lt first some)
