-- What an admissible layout is, as a test and as facts, and what follows for its numbers.
use mathlib.Core.Path.{◌≡◌, refl, sym, ap, ◌∙◌}
use mathlib.Core.Bool.{Bool, true, false, not, ◌&&◌, false≢true}
use Prim.Native.Nat.{ℕ, ◌+◌, ◌-◌, ◌*◌, ◌/◌, ◌%◌, ◌^◌, ◌≤◌, ◌<◌}
use native.Mathlib.Nat.{mul-le-mul_right, le-mul_of_pos_right, one-le-pow, pow-le-pow_right, le_trans, le_of_lt, div-lt_iff_lt-mul, div-le_self}
use native.Mathlib.Omega.{arith}
use lib.Dec.{leb, eqb}
use borrow.Author.Tests.{leb-true, le-leb, eqb-true, eq-eqb}
use Rattle.lists.proofs.Bools.{both, and_true, not_both, not_true_false, told_true}
use Rattle.layout.specs.declared.Layout.{Layout}
use Rattle.layout.specs.Layout.{trays, whole_racks, digits, layers, groups, tray_limit, layer_limit, size_allowed, admissible, admissible_with, lost_count_fits}
use Rattle.layout.specs.Layout.{Cabinet, Admissible, AdmissibleWith}

-- the test of a size
pub size_some : (N u : ℕ) → ¬ (u ≡ 0) → eqb (u * (N / u)) N ≡ size_allowed N u
unfolding size_allowed
size_some N u e = sym (ap (λ b. b && eqb (u * (N / u)) N) (le-leb 1 u (omega arith)))

pub size_facts : (N u : ℕ) → size_allowed N u ≡ true → (1 ≤ u) × (u * (N / u) ≡ N)
unfolding size_allowed
size_facts N u h = let b = both (leb 1 u) (eqb (u * (N / u)) N) h in (leb-true _ _ b.0, eqb-true _ _ b.1)

pub size_not : (N u : ℕ) → size_allowed N u ≡ false → 1 ≤ u → ¬ (u * (N / u) ≡ N)
size_not N u h p e = false≢true (sym h ∙ sym (size_some N u (λ z. omega arith)) ∙ eq-eqb _ _ e)

module _ (N : ℕ) (l : Layout) where
  pub admissible_facts : admissible N l ≡ true → Admissible N l
  unfolding admissible size_allowed
  admissible_facts h =
      let h7 = both _ (leb (layers l) layer_limit) h in
      let h6 = both _ (leb l.helpers (l.racks - 1)) h7.0 in
      let h5 = both _ (leb (whole_racks l + 2 * l.errors) l.helpers) h6.0 in
      let h45 = both _ (leb l.errors 1) h5.0 in
      let h4 = both _ (leb l.size (trays l - l.dimension)) h45.0 in
      let h3 = both _ (leb l.size l.dimension) h4.0 in
      let h2 = both _ (leb (trays l) tray_limit) h3.0 in
      let h1 = both (leb 2 l.racks) (size_allowed N l.size) h2.0 in
      record {
        cabinet = record {
          racks_low = leb-true _ _ h1.0;
          size_low = (size_facts N l.size h1.1).0;
          trays_high = leb-true _ _ h2.1;
          dimension_low = leb-true _ _ h3.1;
          checks_low = leb-true _ _ h4.1;
          helpers_low = leb-true _ _ h5.1;
          helpers_high = leb-true _ _ h6.1;
          layers_high = leb-true _ _ h7.1;
        };
        size_ok = (size_facts N l.size h1.1).1;
        errors_high = leb-true _ _ h45.1;
      }

  pub facts_admissible : Admissible N l → true ≡ admissible N l
  unfolding admissible size_allowed
  facts_admissible q =
      let a = q.cabinet in
      simp (
        le-leb _ _ a.racks_low,
        le-leb _ _ a.size_low,
        eq-eqb _ _ q.size_ok,
        le-leb _ _ a.trays_high,
        le-leb _ _ a.dimension_low,
        le-leb _ _ a.checks_low,
        le-leb _ _ q.errors_high,
        le-leb _ _ a.helpers_low,
        le-leb _ _ a.helpers_high,
        le-leb _ _ a.layers_high,
      )

  -- from a test of it, and the branch taken on that
  pub admitted_so : (a : Bool) → a ≡ admissible N l → not a ≡ false → Admissible N l
  admitted_so a e h = admissible_facts (told_true e h)

  pub inadmissible : (Admissible N l → ⊥) → false ≡ admissible N l
  inadmissible h = not_true_false (admissible N l) (λ e. h (admissible_facts e))

-- the calls that are for one E only
module _ (N e : ℕ) (l : Layout) where
  pub with_facts : admissible_with N e l ≡ true → AdmissibleWith N e l
  unfolding admissible_with
  with_facts h = let p = both _ _ h in record { admissible = admissible_facts N l p.0; errors_are = eqb-true _ _ p.1 }

  pub with_so : (a : Bool) → a ≡ admissible_with N e l → not a ≡ false → AdmissibleWith N e l
  with_so a k h = with_facts (told_true k h)

  pub with_other : ¬ (l.errors ≡ e) → false ≡ admissible_with N e l
  unfolding admissible_with
  with_other d = sym (not_both (admissible N l) (eqb l.errors e) (λ s t. d (eqb-true _ _ t)))

  pub with_same : (a : Bool) → l.errors ≡ e → a ≡ admissible N l → a ≡ admissible_with N e l
  unfolding admissible_with
  with_same a s t = t ∙ go (admissible N l) (eqb l.errors e) (eq-eqb _ _ s)
    where
      go : (b t : Bool) → t ≡ true → b ≡ (b && t)
      go true t h = sym h
      go false t h = refl

  pub facts_with : AdmissibleWith N e l → true ≡ admissible_with N e l
  facts_with a = with_same true a.errors_are (facts_admissible N l a.admissible)

-- bounds on the numbers of an admissible layout
pub record Bounds (l : Layout) : Type 0 where
  pub size_low : 1 ≤ l.size
  pub size_high : l.size ≤ 30
  pub racks_high : l.racks ≤ tray_limit
  pub dimension_high : l.dimension < trays l
  pub digits_low : 1 ≤ digits l
  pub digits_high : digits l ≤ l.racks
  pub layers_low : 1 ≤ layers l
  pub groups_high : groups l ≤ layer_limit

pub bounds : (l : Layout) → Cabinet l → Bounds l
bounds l a =
    let n = mul-le-mul_right l.size a.racks_low in
    let low : 1 ≤ digits l = omega arith in
    record {
      size_low = a.size_low;
      size_high = omega arith;
      racks_high = omega (arith, le-mul_of_pos_right l.racks a.size_low);
      dimension_high = omega arith;
      digits_low = low;
      digits_high = omega arith;
      layers_low = one-le-pow l.racks (digits l) low;
      groups_high = omega (arith, div-le_self (layers l) (digits l), a.layers_high);
    }

module _ (l : Layout) (a : Cabinet l) where
  -- tray x stands in a rack of the layout
  pub rack_in : (x : ℕ) → x < trays l → x / l.size < l.racks
  rack_in x h = (div-lt_iff_lt-mul (bounds l a).size_low).1 h

  -- a power of the base up to the number of racks is within the limit
  pub power_in : (i : ℕ) → i ≤ l.racks → digits l ^ i ≤ layer_limit
  power_in i h = le_trans (pow-le-pow_right (bounds l a).digits_low h) a.layers_high

-- single bounds in a form that `search` can apply backwards: it finds the layout in the goal and `Admissible` among the fields of c
pub dimension_in : (l : Layout) → Cabinet l → l.dimension ≤ l.racks * l.size
dimension_in l a = le_of_lt (bounds l a).dimension_high

pub size_pos : (l : Layout) → Cabinet l → 0 < l.size
size_pos l a = (bounds l a).size_low

-- how many lost trays can be repaired
module _ (l : Layout) (e : ℕ) where
  pub fits : 0 < e → e + l.dimension % l.size ≤ l.size → true ≡ lost_count_fits l e
  unfolding lost_count_fits
  fits s t = sym (and_true _ _ (le-leb _ _ s) (le-leb _ _ t))

  pub fits_not : (0 < e → e + l.dimension % l.size ≤ l.size → ⊥) → false ≡ lost_count_fits l e
  unfolding lost_count_fits
  fits_not k = sym (not_both _ _ (λ s t. k (leb-true _ _ s) (leb-true _ _ t)))

  pub fits_so : lost_count_fits l e ≡ true → (0 < e) × (e + l.dimension % l.size ≤ l.size)
  unfolding lost_count_fits
  fits_so h = let p = both _ _ h in (leb-true _ _ p.0, leb-true _ _ p.1)
