-- One step of Horner's rule for the checks of a rack.
-- Assumes nothing.
use mathlib.Core.Path.{◌≡◌, refl, sym, ap, ap₂, ◌∙◌, subst}
use mathlib.Core.List.{List}
use Prim.Native.Nat.{ℕ, ◌+◌, ◌*◌, ◌<◌, ◌≤◌}
use native.Mathlib.Nat.{mul-zero as times_zero, zero-mul as zero_times, mul-le-mul_right}
use native.Mathlib.Decide.{ℕ_discrete, dec_le}
use native.Mathlib.Omega.{arith}
use mir.Val.{Fits}
use mir.Syntax.{w8}
use lib.ListN.{get_or}
use Rattle.algebra.specs.Sum.{pow}
use Rattle.algebra.specs.Layers.{digit}
use Rattle.algebra.specs.Shape.{Field}
use Rattle.algebra.specs.Plain.{root_power, Working}
use Rattle.algebra.proofs.Ring.{one_mul, mul_one}
use Rattle.algebra.proofs.Pow.{pow_zero}
use Rattle.algebra.proofs.Layers.{digit_below}
use Rattle.algebra.proofs.Points.{digits_same}
use Rattle.algebra.proofs.Plain.{elem_one, elem_root_power, root_power_below, elem_same}
use Rattle.symbol.specs.Elem.{gf256}
use Rattle.symbol.proofs.Working.{working, root_is}
use Rattle.kernel.specs.Inner.{cell, Run, added}
use Rattle.kernel.proofs.Rows.{cell_is, cell_other}
use Rattle.horner.specs.Inner.{through, through_run}
use Rattle.horner.proofs.Digits.{through_is}
use Rattle.layout.specs.declared.Layout.{Layout}
use Rattle.layout.specs.Layout.{digits}
use Rattle.layout.proofs.Facts.{bounds}
use Rattle.layout.proofs.Numbers.{digits_small}
use Rattle.blocks.specs.Inner.{Block}
use Rattle.syndrome.specs.Inner.{DigitPowers}
use Rattle.syndrome.proofs.Terms.{first_row}
use Rattle.rack_checks.specs.Inner.{PlaceSums, kept_sum, raised_by, Raised, Weighed, WeightRaised, Weights}
use Rattle.rack_checks.proofs.Places.{places_all}

-- ---- one step of one check
module _ {A : Type 0} {f : Field A} (W : Working f) (l : Layout) (w first i : ℕ) (cur was is : List ℕ) where
  open f use {ops, root}
  open f.coding use {elem, size}
  open W.field use {laws}

  no_power : (n : ℕ) (x : A) → ops.mul (pow ops root (n * 0)) x ≡ x
  no_power n x = ap (λ y. ops.mul y x) (ap (pow ops root) (times_zero n) ∙ pow_zero ops root) ∙ one_mul ops laws x

  pub raised_first : (t : ℕ) → t ≡ 0 → Run (added f was 0 cur 0) was is 0 w → Raised f l w first i t cur was is
  unfolding raised_by
  raised_first t e r = subst (λ n. Raised f l w first i n cur was is) (sym e) (record {
    at = λ j k. first_row W w cur was is r j k ∙ sym (ap₂ ops.add (no_power (digits l) (cell f w was 0 j)) (no_power (digit (digits l) (first + j) i) (elem (get_or cur j 0))));
    other = λ v j d k. cell_other f _ was is 0 w at_zero v j k d;
  })
    where
      at_zero : Run (added f was 0 cur 0) was is (0 * w) w
      at_zero = subst (λ n. Run (added f was 0 cur 0) was is n w) (sym (zero_times w)) r

  -- a number of the row is the power of the root by the digit
  row_is : (ρ : ℕ) (row : List ℕ) → elem ρ ≡ root → DigitPowers f l w first i 1 ρ row → (j : ℕ) → j < w → get_or row j 0 < size → get_or row j 0 ≡ root_power f (digit (digits l) (first + j) i)
  row_is ρ row e d j k b =
      elem_same W (get_or row j 0) (root_power f (digit (digits l) (first + j) i)) b (root_power_below W (digit (digits l) (first + j) i))
      (d.at j k ∙ ap₂ (λ x y. ops.mul (pow ops x (digit (digits l) (first + j) i)) y) e (elem_one W) ∙ mul_one ops laws _ ∙ sym (elem_root_power W (digit (digits l) (first + j) i)))

  raised_by_lem : (ρ t s : ℕ) (row : List ℕ) → elem ρ ≡ root → Block l w first → s ≡ digits l → DigitPowers f l w first i 1 ρ row → ((j : ℕ) → get_or row j 0 < size) →
      Run (through_run f was (t * w) cur row s t) was is (t * w) w → Raised f l w first i t cur was is
  unfolding raised_by through_run
  raised_by_lem ρ t s row e b es d bytes r = record {
    at = λ j k.
        sym (cell_is f w is t j) ∙ ap elem (r.done j k)
        ∙ ap₂ (λ y n. elem (through f t (get_or cur j 0) y n (get_or was (t * w + j) 0))) (row_is ρ row e d j k (bytes j)) es
        ∙ through_is W t (get_or cur j 0) (digit (digits l) (first + j) i) (digits l) (get_or was (t * w + j) 0) (let q = digits_small l b.adm in let h = W.room in omega arith)
        (digit_below (digits l) (bounds l b.adm).digits_low (first + j) i)
        ∙ ap (λ x. ops.add (ops.mul (pow ops root (digits l * t)) x) (ops.mul (pow ops root (digit (digits l) (first + j) i * t)) (elem (get_or cur j 0)))) (cell_is f w was t j);
    other = λ v j q k. cell_other f _ was is t w r v j k q;
  }

-- the row of bytes
pub raised_run : (l : Layout) (w first i : ℕ) (cur was is : List ℕ) (t s : ℕ) (row : List ℕ) → Block l w first → s ≡ digits l → DigitPowers gf256 l w first i 1 2 row →
    ((j : ℕ) → Fits w8 (get_or row j 0)) → Run (through_run gf256 was (t * w) cur row s t) was is (t * w) w → Raised gf256 l w first i t cur was is
raised_run l w first i cur was is t s row b e d bytes r = raised_by_lem working l w first i cur was is 2 t s row root_is b e d (λ j. (bytes j).fits) r

-- ---- the checks of one weight
module _ {A : Type 0} (f : Field A) (l : Layout) (w first i m : ℕ) (cur was : List ℕ) where
  open f.coding use {elem}

  pub weighed_none : Weighed f l w first i m cur was was 0
  weighed_none = record { at = λ p j h k. absurd (omega arith); rest = λ p j h k. refl; other = λ p n j h d k. refl }

  pub weighed_more : (is next : List ℕ) (q t : ℕ) → m < l.size → t ≡ q * l.size + m → Weighed f l w first i m cur was is q → Raised f l w first i t cur is next →
      Weighed f l w first i m cur was next (q + 1)
  weighed_more is next q t hm e g r = record {
    at = λ p j h k. go p j h k (ℕ_discrete p q);
    rest = λ p j h k. r.other (p * l.size + m) j (λ x. apart p (λ y. omega arith) (x ∙ e)) k ∙ g.rest p j (omega arith) k;
    other = λ p n j h d k. r.other (p * l.size + n) j (λ x. d (digits_same l.size p q n m h hm (x ∙ e)).1) k ∙ g.other p n j h d k;
  }
    where
      apart : (p : ℕ) → ¬ (p ≡ q) → ¬ (p * l.size + m ≡ q * l.size + m)
      apart p d x = d (digits_same l.size p q m m hm hm x).0

      go : (p j : ℕ) → p < q + 1 → j < w → Dec (p ≡ q) →
          cell f w next (p * l.size + m) j ≡ raised_by f l i (p * l.size + m) (first + j) (cell f w was (p * l.size + m) j) (elem (get_or cur j 0))
      go p j h k (yes y) =
          subst (λ v. cell f w next v j ≡ raised_by f l i v (first + j) (cell f w was v j) (elem (get_or cur j 0))) (e ∙ ap (λ v. v * l.size + m) (sym y))
          (r.at j k ∙ ap (λ x. raised_by f l i t (first + j) x (elem (get_or cur j 0))) (subst (λ v. cell f w is v j ≡ cell f w was v j) (sym e) (g.rest q j (omega arith) k)))
      go p j h k (no d) = r.other (p * l.size + m) j (λ x. apart p d (x ∙ e)) k ∙ g.at p j (omega arith) k

  pub weighed_end : (is : List ℕ) (q t r : ℕ) → t ≡ q * l.size + m → r ≤ t → Weighed f l w first i m cur was is q → WeightRaised f l w first r i m cur was is
  weighed_end is q t r e h g = record { at = λ p j k n. g.at p j (low p k (dec_le q p)) n; other = g.other }
    where
      low : (p : ℕ) → p * l.size + m < r → Dec (q ≤ p) → p < q
      low p k (yes y) = absurd (let d : q * l.size ≤ p * l.size = mul-le-mul_right l.size y in omega arith)
      low p k (no n) = omega arith

-- ---- all weights of a rack
module _ {A : Type 0} {f : Field A} (W : Working f) (l : Layout) (w first r : ℕ) (c es : List ℕ) (i : ℕ) (was : List ℕ) where
  pub weights_more : (is next cur : List ℕ) (m : ℕ) → Weights f l w first r c es i was is m → PlaceSums f l w first c es i m l.size cur → WeightRaised f l w first r i m cur is next →
      Weights f l w first r c es i was next (m + 1)
  weights_more is next cur m g s a = record {
    at = λ p n j h b v k. go p n j h b v k (ℕ_discrete n m);
    rest = λ p n j h b k. a.other p n j b (λ e. omega arith) k ∙ g.rest p n j (omega arith) b k;
  }
    where
      go : (p n j : ℕ) → n < m + 1 → n < l.size → p * l.size + n < r → j < w → Dec (n ≡ m) →
          cell f w next (p * l.size + n) j ≡ raised_by f l i (p * l.size + n) (first + j) (cell f w was (p * l.size + n) j) (kept_sum f l es c (first + j) n i)
      go p n j h b v k (yes e) =
          subst (λ y. cell f w next (p * l.size + y) j ≡ raised_by f l i (p * l.size + y) (first + j) (cell f w was (p * l.size + y) j) (kept_sum f l es c (first + j) y i)) (sym e)
          (a.at p j (subst (λ y. p * l.size + y < r) e v) k
          ∙ ap₂ (raised_by f l i (p * l.size + m) (first + j)) (g.rest p m j (omega arith) (subst (λ y. y < l.size) e b) k) (places_all W l w first c es i m cur s j k))
      go p n j h b v k (no d) = a.other p n j b d k ∙ g.at p n j (omega arith) b v k
