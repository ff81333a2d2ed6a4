-- The documents' words for definitions that are formulas: groups of layers, live trays, the part that a read gives.
-- Assumes nothing.
use mathlib.Core.Path.{◌≡◌, refl, sym, ap, ap₂, subst, ◌∙◌}
use mathlib.Core.Bool.{Bool, true, false, cond, not, ◌||◌}
use mathlib.Core.List.{List, [], ◌∷◌}
use mathlib.Core.Logic.{◌↔◌}
use Prim.Native.Nat.{ℕ, zero, suc, ◌+◌, ◌-◌, ◌*◌, ◌%◌, ◌^◌, ◌<◌, ◌≤◌, min}
use native.Mathlib.Nat.{mod-lt, mod-eq_of_lt, pow-zero, pow-suc, mul_comm as times_comm}
use native.Mathlib.Decide.{ℕ_discrete}
use native.Mathlib.Omega.{arith}
use borrow.Author.Tests.{eq-eqb, ne_eqb, ltb-true}
use lib.Arith.{mod-mul}
use lib.Dec.{eqb, ltb}
use lib.IntN.{pos, ◌-ℤ◌}
use lib.ListN.{length, get_or, take, drop}
use Rattle.lists.proofs.Bools.{all_holds}
use Rattle.algebra.specs.Shape.{Field}
use Rattle.algebra.specs.Layers.{digit, group_of, layer_of}
use Rattle.algebra.proofs.Layers.{power_pos, digit_below, layer_digit, layer_other, layer_group, layer_back, layer_in, group_in}
use Rattle.layout.specs.declared.Layout.{Layout}
use Rattle.layout.specs.Layout.{layers}
use Rattle.rule.specs.Rule.{group_at}
use Rattle.share.specs.Feeds.{count}
use Rattle.margin.specs.Margin.{live, margin_of}
use Rattle.reading.specs.Reading.{part_refusal, part_given}
use Rattle.reading.specs.Inner.{all_done, available}
use Rattle.reading.proofs.Grounds.{accepted}
use Rattle.scrub.specs.declared.Walk.{Walk}
use Rattle.scrub.specs.Scrub.{scrub_refusal, after, reported, scrubbed}

-- the digits below B determine the remainder by s^B
module _ (s : ℕ) (pos : 0 < s) where
  top_digit : (B n : ℕ) → n % s ^ suc B ≡ digit s n B * s ^ B + n % s ^ B
  unfolding digit
  top_digit B n = ap (λ m. n % m) (pow-suc s B ∙ times_comm (s ^ B) s) ∙ mod-mul n pos (power_pos s B pos)

  digits_determine : (B j k : ℕ) → ((i : ℕ) → i < B → digit s j i ≡ digit s k i) → j % s ^ B ≡ k % s ^ B
  digits_determine zero j k same =
      let low : j % s ^ 0 < 1 = subst (λ m. j % s ^ 0 < m) (pow-zero s) (mod-lt j (power_pos s 0 pos)) in
      let low' : k % s ^ 0 < 1 = subst (λ m. k % s ^ 0 < m) (pow-zero s) (mod-lt k (power_pos s 0 pos)) in
      omega (arith, low, low')
  digits_determine (suc B) j k same =
      top_digit B j ∙ ap₂ (λ a b. a * s ^ B + b) (same B (omega arith)) (digits_determine B j k (λ i h. same i (omega arith))) ∙ sym (top_digit B k)

  -- the layers of a group are those that agree in all digits but digit h
  pub group_agrees : (B h j k : ℕ) → h < B → j < s ^ B → k < s ^ B →
      (group_of s h j ≡ group_of s h k) ↔ ((i : ℕ) → i < B → ¬ (i ≡ h) → digit s j i ≡ digit s k i)
  group_agrees B h j k hh hj hk = (
    λ e i hi ne. sym (ap (λ n. digit s n i) (layer_back s pos h j)) ∙ layer_other s pos h (group_of s h j) _ _ i (digit_below s pos j h) (digit_below s pos k h) ne
        ∙ ap (λ p. digit s (layer_of s h p (digit s k h)) i) e ∙ ap (λ n. digit s n i) (layer_back s pos h k),
    λ agree. sym (layer_group s pos h (group_of s h j) (digit s k h) (digit_below s pos k h)) ∙ ap (group_of s h) (moved agree),
  )
    where
      moved : ((i : ℕ) → i < B → ¬ (i ≡ h) → digit s j i ≡ digit s k i) → layer_of s h (group_of s h j) (digit s k h) ≡ k
      moved agree =
          sym (mod-eq_of_lt (layer_in s pos B h (group_of s h j) (digit s k h) hh (group_in s pos B h j hh hj) (digit_below s pos k h)))
          ∙ digits_determine B _ k (λ i hi. elim (ℕ_discrete i h) [
            | yes e ↦ ap (digit s (layer_of s h (group_of s h j) (digit s k h))) e ∙ layer_digit s pos h (group_of s h j) (digit s k h) (digit_below s pos k h) ∙ ap (digit s k) (sym e)
            | no ne ↦ layer_other s pos h (group_of s h j) _ _ i (digit_below s pos k h) (digit_below s pos j h) ne ∙ ap (λ n. digit s n i) (layer_back s pos h j) ∙ agree i hi ne
          ])
          ∙ mod-eq_of_lt hk

-- the trays that count are those whose state is 1
live_cons : (x : ℕ) (xs : List ℕ) (n : ℕ) → live (x ∷ xs) (suc n) ≡ cond (eqb x 1) 1 0 + live xs n
unfolding live
live_cons x xs zero = omega arith
live_cons x xs (suc n) = ap (λ m. m + cond (eqb (get_or xs n 0) 1) 1 0) (live_cons x xs n) ∙ omega arith

one_more : (x n m : ℕ) → n ≡ m → cond (eqb x 1) 1 0 + n ≡ cond (eqb 1 x) (suc m) m
one_more x n m e = go (ℕ_discrete x 1)
  where
    both : (t t' b : Bool) → t ≡ b → t' ≡ b → cond t 1 0 + n ≡ cond t' (suc m) m
    both t t' true p q = ap (λ y. cond y 1 0 + n) p ∙ omega (arith, e) ∙ sym (ap (λ y. cond y (suc m) m) q)
    both t t' false p q = ap (λ y. cond y 1 0 + n) p ∙ omega (arith, e) ∙ sym (ap (λ y. cond y (suc m) m) q)

    go : Dec (x ≡ 1) → cond (eqb x 1) 1 0 + n ≡ cond (eqb 1 x) (suc m) m
    go (yes q) = both _ _ true (eq-eqb x 1 q) (eq-eqb 1 x (sym q))
    go (no q) = both _ _ false (ne_eqb x 1 q) (ne_eqb 1 x (λ p. q (sym p)))

live_count : (states : List ℕ) → live states (length states) ≡ count 1 states
unfolding live count
live_count [] = refl
live_count (x ∷ xs) = live_cons x xs (length xs) ∙ one_more x (live xs (length xs)) (count 1 xs) (live_count xs)

pub margin_live : (l : Layout) (states : List ℕ) → margin_of l states ≡ pos (count 1 states) -ℤ pos l.dimension
unfolding margin_of
margin_live l states = ap (λ n. pos n -ℤ pos l.dimension) (live_count states)

-- where a part that is read lies
module _ (N : ℕ) (l : Layout) (codeword spare : List ℕ) (lost done tray first end : ℕ) (z : part_refusal N l (length codeword) (length spare) lost done tray first end ≡ 0) where
  pub of_store : ¬ (tray ≡ lost) → part_given N l codeword spare lost done tray first end ≡ take (end - first) (drop (tray * layers l + first) codeword)
  unfolding part_given
  of_store d = simp (eq-eqb (part_refusal N l (length codeword) (length spare) lost done tray first end) 0 z, ne_eqb tray lost d)

  pub of_spare : tray ≡ lost → part_given N l codeword spare lost done tray first end ≡ take (end - first) (drop first spare)
  unfolding part_given
  of_spare e = simp (eq-eqb (part_refusal N l (length codeword) (length spare) lost done tray first end) 0 z, eq-eqb tray lost e)

  all_done_lem : tray ≡ lost → all_done l lost done first end ≡ true
  unfolding available
  all_done_lem e = sym (ap (λ t. not t || all_done l lost done first end) (eq-eqb tray lost e)) ∙ (accepted N l (length codeword) (length spare) lost done tray first end z).given

  pub done_only : tray ≡ lost → (j : ℕ) → first ≤ j → j < end → group_at l lost j < done
  unfolding all_done
  done_only e j low high =
      let at : first + (j - first) ≡ j = omega arith in
      subst (λ k. group_at l lost k < done) at (ltb-true _ _ (all_holds (λ i. ltb (group_at l lost (first + i)) done) (end - first) (all_done_lem e) (j - first) (omega arith)))

-- how far a call of a walk goes
pub steps : {A : Type 0} (f : Field A) (l : Layout) (c : List ℕ) (w : Walk) (budget : ℕ) → scrub_refusal f l c w budget ≡ 0 →
    (scrubbed f l c w budget).walk.next ≡ w.next + min budget (layers l - w.next)
unfolding scrubbed reported after
steps f l c w budget z = simp (eq-eqb (scrub_refusal f l c w budget) 0 z)
