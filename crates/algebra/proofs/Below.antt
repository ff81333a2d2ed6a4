-- Numbers below q, as elements: what every field of such numbers needs.
-- Assumes nothing.
use mathlib.Core.Path.{◌≡◌, refl, sym, ◌∙◌, ap}
use mathlib.Core.HLevel.{is_prop→PathP}
use mathlib.Core.Logic.{⊎_elim}
use Prim.Native.Nat.{ℕ, ◌%◌, ◌<◌}
use native.Mathlib.Nat.{mod-eq_of_lt, eq-zero-or-pos}
use native.Mathlib.Decide.{ℕ_discrete}
use lib.Dec.{T, T_prop, ltb, ltb→lt}
use Rattle.algebra.specs.Coding.{Coded}
use Rattle.algebra.specs.Below.{Below, below, below_coding}

module _ {q : ℕ} where
  pub elem_path : (a b : Below q) → a.val ≡ b.val → a ≡ b
  elem_path a b e = λ i. record { val = e i; small = is_prop→PathP (λ i. T (ltb (e i) q)) (λ i. T_prop (ltb (e i) q)) a.small b.small i }

  pub small : (a : Below q) → a.val < q
  small a = ltb→lt a.val q a.small

  pub same? : (a b : Below q) → Dec (a ≡ b)
  same? a b = go (ℕ_discrete a.val b.val)
    where
      go : Dec (a.val ≡ b.val) → Dec (a ≡ b)
      go (yes e) = yes (elem_path a b e)
      go (no d) = no (λ e. d (ap (λ x. x.val) e))

  module _ (p : 0 < q) where
    pub val_mod : (n : ℕ) → (below q p n).val ≡ n % q
    unfolding below
    val_mod n = refl

    pub val_elem : (n : ℕ) → n < q → (below q p n).val ≡ n
    val_elem n h = val_mod n ∙ mod-eq_of_lt h

    pub elem_val : (a : Below q) → below q p a.val ≡ a
    elem_val a = elem_path (below q p a.val) a (val_elem a.val (small a))

    pub coded : Coded (below_coding q p)
    coded = record { val_below = small; elem_val = elem_val; val_elem = val_elem }

    -- an element that is not the one of 0 has a value
    pub some : (a : Below q) → ¬ (a ≡ below q p 0) → 0 < a.val
    some a n = ⊎_elim (λ e. absurd (n (elem_path a (below q p 0) (e ∙ sym (val_elem 0 p))))) (λ h. h) (eq-zero-or-pos a.val)
