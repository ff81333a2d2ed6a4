-- The tests of numbers alone, as facts.
-- Assumes nothing.
use mathlib.Core.Path.{◌≡◌, sym, ap, ap₂, ◌∙◌}
use mathlib.Core.Bool.{Bool, true, false, not}
use mathlib.Core.List.{List}
use Prim.Native.Nat.{ℕ, ◌+◌, ◌*◌, ◌/◌, ◌%◌, ◌<◌, ◌≤◌}
use native.Mathlib.Nat.{mul-div_cancel, mul-mod_left, mod-add-div, mul_comm}
use native.Mathlib.Decide.{ℕ_discrete}
use native.Mathlib.Omega.{arith}
use lib.Dec.{eqb}
use lib.ListN.{length, get_or}
use borrow.Author.Tests.{le-leb, lt-leb, eqb-true, eq-eqb, ne_eqb}
use Rattle.lists.specs.Lists.{absent}
use Rattle.lists.proofs.Bools.{all_holds, all_true, all_false, told_true, told_false}
use Rattle.layout.specs.declared.Layout.{Layout}
use Rattle.layout.specs.Layout.{groups, lost_count_fits}
use Rattle.layout.proofs.Facts.{fits_so}
use Rattle.rule.specs.Lost.{first_lost}
use Rattle.grounds.specs.Grounds.{one_rack}
use Rattle.grounds.specs.Inner.{count_refusal}

-- whether a length is e times a unit, from quotient and rest
pub times_false : (n e u : ℕ) → 0 < u → (n / u ≡ e → ⊥) → false ≡ eqb n (e * u)
times_false n e u pos d = sym (ne_eqb _ _ (λ q. d (ap (λ y. y / u) q ∙ mul-div_cancel e pos)))

pub times_test : (n e u : ℕ) → 0 < u → n / u ≡ e → eqb (n % u) 0 ≡ eqb n (e * u)
times_test n e u pos q = go (ℕ_discrete (n % u) 0)
  where
    trim : (y : ℕ) → 0 + y ≡ y
    trim y = omega arith

    so : n % u ≡ 0 → n ≡ e * u
    so r = sym (mod-add-div n u) ∙ ap₂ (λ y z. y + u * z) r q ∙ trim (u * e) ∙ mul_comm u e

    go : Dec (n % u ≡ 0) → eqb (n % u) 0 ≡ eqb n (e * u)
    go (yes r) = eq-eqb _ _ r ∙ sym (eq-eqb _ _ (so r))
    go (no d) = ne_eqb _ _ d ∙ sym (ne_eqb _ _ (λ y. d (ap (λ z. z % u) y ∙ mul-mod_left e u)))

-- one rack
pub rack_true : (l : Layout) (lost : List ℕ) → ((i : ℕ) → i < length lost → get_or lost i 0 / l.size ≡ first_lost l lost / l.size) → true ≡ one_rack l lost
unfolding one_rack
rack_true l lost h = sym (all_true _ (length lost) (λ i k. eq-eqb _ _ (h i k)))

pub rack_false : (l : Layout) (lost : List ℕ) (i : ℕ) → i < length lost → (get_or lost i 0 / l.size ≡ first_lost l lost / l.size → ⊥) → false ≡ one_rack l lost
unfolding one_rack
rack_false l lost i k d = all_false _ (length lost) i k (λ e. d (eqb-true _ _ e))

pub rack_all : (l : Layout) (lost : List ℕ) → one_rack l lost ≡ true → (i : ℕ) → i < length lost → get_or lost i 0 / l.size ≡ first_lost l lost / l.size
unfolding one_rack
rack_all l lost h i k = eqb-true _ _ (all_holds _ (length lost) h i k)

-- the counts, one ground after another
module _ (l : Layout) (lost helpers : List ℕ) (first : ℕ) where
  pub stop_5 : ¬ (length helpers ≡ l.helpers) → 5 ≡ count_refusal l lost helpers first
  unfolding count_refusal
  stop_5 d = simp (ne_eqb _ _ d)

  module _ (p : length helpers ≡ l.helpers) where
    pub stop_12 : (a : Bool) → a ≡ lost_count_fits l (length lost) → not a ≡ true → 12 ≡ count_refusal l lost helpers first
    unfolding count_refusal
    stop_12 a e h = simp (eq-eqb _ _ p, told_false e h)

    module _ (a : Bool) (q : a ≡ lost_count_fits l (length lost)) (r : not a ≡ false) where
      pub stop_6 : (b : Bool) → b ≡ absent helpers (first_lost l lost / l.size) → not b ≡ true → 6 ≡ count_refusal l lost helpers first
      unfolding count_refusal
      stop_6 b e h = simp (eq-eqb _ _ p, told_true q r, told_false e h)

      module _ (b : Bool) (s : b ≡ absent helpers (first_lost l lost / l.size)) (t : not b ≡ false) (n : ℕ) (g : n ≡ groups l) where
        pub stop_7 : n < first → 7 ≡ count_refusal l lost helpers first
        unfolding count_refusal
        stop_7 h = simp (eq-eqb _ _ p, told_true q r, told_true s t, lt-leb first (groups l) (omega arith))

        pub pass_7 : first ≤ n → 0 ≡ count_refusal l lost helpers first
        unfolding count_refusal
        pass_7 h = simp (eq-eqb _ _ p, told_true q r, told_true s t, le-leb first (groups l) (omega arith))

-- past ground 12 a tray is listed
pub first_listed : (l : Layout) (lost : List ℕ) (a : Bool) → a ≡ lost_count_fits l (length lost) → not a ≡ false → 0 < length lost
first_listed l lost a q r = (fits_so l (length lost) (told_true q r)).0
