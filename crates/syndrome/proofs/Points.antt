-- The points of a tray in the layers of a block: runs of powers, repeated, or one point.
-- Assumes nothing.
use mathlib.Core.Path.{◌≡◌, refl, sym, ap, ap₂, ◌∙◌, subst}
use mathlib.Core.List.{List}
use Prim.Native.Nat.{ℕ, zero, suc, ◌+◌, ◌*◌, ◌/◌, ◌%◌, ◌^◌, ◌<◌, ◌≤◌}
use native.Mathlib.Nat.{zero-add, zero-mul, mod-lt, mul-pos}
use native.Mathlib.Numerals.{add-one}
use native.Mathlib.Omega.{arith}
use lib.Arith.{mod-mul, digits_div}
use lib.ListN.{length, get_or}
use Rattle.algebra.specs.Field.{Laws}
use Rattle.algebra.specs.Sum.{pow}
use Rattle.algebra.specs.Layers.{digit}
use Rattle.algebra.proofs.Ring.{ring, one_mul}
use Rattle.algebra.proofs.Pow.{pow_zero, pow_suc, pow_one}
use Rattle.algebra.specs.Shape.{Field}
use Rattle.algebra.specs.Plain.{times, raised, root_power, Working}
use Rattle.algebra.proofs.Plain.{elem_times, elem_raised, elem_root_power}
use Rattle.kernel.specs.Inner.{Run, filled, repeated}
use Rattle.kernel.proofs.Runs.{run_none, run_append}
use Rattle.kernel.proofs.Rows.{row_end}
use Rattle.layout.specs.declared.Layout.{Layout}
use Rattle.layout.specs.Layout.{trays, digits, layer_limit}
use Rattle.layout.proofs.Facts.{bounds, rack_in, power_in}
use Rattle.codeword.specs.Codeword.{point_at}
use Rattle.blocks.specs.Inner.{Block}
use Rattle.blocks.proofs.Digits.{run_pos, digit_stays, digit_repeats, count_whole, count_pos, period_in}
use Rattle.syndrome.specs.Inner.{times_power, power_run, DigitPowers, TrayPoints}
use Rattle.syndrome.proofs.Digits.{point_digit}

module _ {A : Type 0} {f : Field A} (W : Working f) where
  open f use {ops, root}
  open f.coding use {elem}
  open W.field use {laws}

  -- ---- runs of powers
  pub power_run_start : (z first : ℕ) → first ≡ times_power f z first 0
  unfolding times_power
  power_run_start z first = refl

  times_power_suc : (z first a : ℕ) → times_power f z first (suc a) ≡ times f (times_power f z first a) z
  unfolding times_power
  times_power_suc z first a = refl

  pub power_run_value : (z first a v n : ℕ) → v ≡ times_power f z first a → n ≡ times f v z → n ≡ times_power f z first (a + 1)
  power_run_value z first a v n e q = q ∙ ap (λ (y : ℕ). times f y z) e ∙ sym (times_power_suc z first a) ∙ ap (times_power f z first) (sym (add-one a))

  swap : (a b c : A) → ops.mul (ops.mul a b) c ≡ ops.mul (ops.mul c a) b
  swap a b c = let L : Laws ops = laws in simp (ring, L)

  elem_times_power : (z first a : ℕ) → elem (times_power f z first a) ≡ ops.mul (pow ops (elem z) a) (elem first)
  elem_times_power z first zero = ap elem (sym (power_run_start z first)) ∙ sym (ap (λ y. ops.mul y (elem first)) (pow_zero ops (elem z)) ∙ one_mul ops laws (elem first))
  elem_times_power z first (suc a) =
      ap elem (times_power_suc z first a) ∙ elem_times W (times_power f z first a) z ∙ ap (λ y. ops.mul y (elem z)) (elem_times_power z first a)
      ∙ swap (pow ops (elem z) a) (elem first) (elem z) ∙ ap (λ y. ops.mul y (elem first)) (sym (pow_suc ops (elem z) a))

  pub power_run_none : (z first run : ℕ) (was : List ℕ) → Run (power_run f z first run) was was 0 (0 * run)
  power_run_none z first run was = rw (zero-mul run) (run_none (power_run f z first run) was 0)

  pub power_run_more : (z first run a v : ℕ) (was is new : List ℕ) → 0 < run → v ≡ times_power f z first a → Run (power_run f z first run) was is 0 (a * run) → Run (filled v) is new (a * run) run →
      Run (power_run f z first run) was new 0 ((a + 1) * run)
  unfolding power_run filled
  power_run_more z first run a v was is new p e r n =
      rw (row_end a run)
      (run_append (power_run f z first run) (filled v) was is new 0 (a * run) run r (subst (λ k. Run (filled v) is new k run) (sym (zero-add (a * run))) n)
      (λ i h. e ∙ ap (times_power f z first) (sym (digits_div a h))))

  -- ---- the powers of a low digit
  pub repeated_powers : (l : Layout) (w first i run s start z : ℕ) (was is new : List ℕ) → Block l w first → run ≡ digits l ^ i → run < w → s ≡ digits l →
      Run (power_run f z start run) was is 0 (s * run) → Run (repeated is (s * run)) is new 0 (w / (s * run) * (s * run)) → DigitPowers f l w first i start z new
  unfolding power_run repeated
  repeated_powers l w first i run s start z was is new b er h es r n = record { at = at }
    where
      low : digits l ^ i < w
      low = rw (sym er) h

      long : w / (s * run) * (s * run) ≡ w
      long = rw (es, er) (count_whole l w first b i low)

      run_low : 0 < run
      run_low = rw er (run_pos l b.adm i)

      s_low : 0 < s
      s_low = rw es (bounds l b.adm).digits_low

      mod_div : (j : ℕ) → j % (s * run) / run ≡ j / run % s
      mod_div j = ap (λ k. k / run) (mod-mul j s_low run_low) ∙ digits_div (j / run % s) (mod-lt j run_low)

      value : (j : ℕ) → j < w → get_or new j 0 ≡ times_power f z start (j / run % s)
      value j k =
          ap (λ i. get_or new i 0) (sym (zero-add j)) ∙ n.done j (rw long k)
          ∙ ap (λ i. get_or is i 0) (sym (zero-add (j % (s * run)))) ∙ r.done (j % (s * run)) (mod-lt j (mul-pos s_low run_low))
          ∙ ap (times_power f z start) (mod_div j)

      at : (j : ℕ) → j < w → elem (get_or new j 0) ≡ ops.mul (pow ops (elem z) (digit (digits l) (first + j) i)) (elem start)
      at j k =
          ap elem (value j k) ∙ elem_times_power z start (j / run % s)
          ∙ ap (λ y. ops.mul y (elem start)) (ap (pow ops (elem z)) (ap₂ (λ y u. j / y % u) er es ∙ sym (digit_repeats l w first b i low j)))

  -- ---- those of a high digit
  pub steady_powers : (l : Layout) (w first i run s start z a p v : ℕ) (was is : List ℕ) → Block l w first → run ≡ digits l ^ i → w ≤ run → s ≡ digits l → a ≡ digit s first i →
      p ≡ raised f z a → v ≡ times f p start → Run (filled v) was is 0 w → DigitPowers f l w first i start z is
  unfolding filled
  steady_powers l w first i run s start z a p v was is b er h es ea ep ev r = record {
    at = λ j k.
        ap (λ i. elem (get_or is i 0)) (sym (zero-add j)) ∙ ap elem (r.done j k ∙ ev) ∙ elem_times W p start
        ∙ ap (λ y. ops.mul y (elem start)) (ap elem ep ∙ elem_raised W z a
        ∙ ap (pow ops (elem z)) (ea ∙ ap (λ y. digit y first i) es
        ∙ sym (digit_stays l w first b i (λ q. let e : w ≤ digits l ^ i = rw (sym er) h in omega arith) j k)));
  }

  -- ---- the points of a tray
  pub root_number : (z : ℕ) → z ≡ root_power f 1 → elem z ≡ root
  root_number z e = ap elem e ∙ elem_root_power W 1 ∙ pow_one ops laws root

  pub points_of_lem : (l : Layout) (w first x p z : ℕ) (row : List ℕ) → elem z ≡ root → elem p ≡ pow ops (point_at f l 0 x) 1 → DigitPowers f l w first (x / l.size) p z row → TrayPoints f l w first x row
  points_of_lem l w first x p z row ez ep d = record {
    at = λ j k.
        d.at j k ∙ ap₂ (λ y q. ops.mul (pow ops y (digit (digits l) (first + j) (x / l.size))) q) ez (ep ∙ pow_one ops laws (point_at f l 0 x))
        ∙ sym (point_digit W l x (first + j));
  }

pub repeated_room : {X : Type 0} (l : Layout) (w first i run s : ℕ) (row : List X) → Block l w first → run ≡ digits l ^ i → run < w → s ≡ digits l → w ≤ length row → s * run ≤ length row
repeated_room l w first i run s row b er h es k = let e : s * run ≤ w = rw (es, er) (period_in l w first b i (rw (sym er) h)) in omega arith

pub repeated_count : {X : Type 0} (l : Layout) (w first i run s : ℕ) (was is : List X) → Block l w first → run ≡ digits l ^ i → run < w → s ≡ digits l → w ≤ length was → length is ≡ length was →
    w / (s * run) * (s * run) ≤ length is
repeated_count l w first i run s was is b er h es k q =
    let e : w / (s * run) * (s * run) ≡ w = rw (es, er) (count_whole l w first b i (rw (sym er) h)) in omega arith

pub repeated_some : (l : Layout) (w first i run s : ℕ) → Block l w first → run ≡ digits l ^ i → run < w → s ≡ digits l → 0 < w / (s * run)
repeated_some l w first i run s b er h es = rw (es, er) (count_pos l w first b i (rw (sym er) h))

pub repeated_run : (l : Layout) (w first i run : ℕ) → Block l w first → run ≡ digits l ^ i → 0 < run
repeated_run l w first i run b er = rw er (run_pos l b.adm i)

pub repeated_period : (l : Layout) (w first i run s : ℕ) → Block l w first → run ≡ digits l ^ i → s ≡ digits l → 0 < s * run
repeated_period l w first i run s b er es = rw (es, er) (mul-pos (bounds l b.adm).digits_low (run_pos l b.adm i))

pub rack_of_lem : (l : Layout) (w first x : ℕ) → Block l w first → x < trays l → x / l.size < l.racks
rack_of_lem l w first x b h = rack_in l b.adm x h

-- a digit that there is
pub base_low : (l : Layout) (w first s : ℕ) → Block l w first → s ≡ digits l → 1 ≤ s
base_low l w first s b es = rw es (bounds l b.adm).digits_low

pub digit_there : (l : Layout) (w first i s : ℕ) → Block l w first → i < l.racks → s ≡ digits l → s ^ i ≤ layer_limit
digit_there l w first i s b h es = rw es (power_in l b.adm i (omega arith))
