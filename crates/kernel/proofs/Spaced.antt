-- How every step-th place of a buffer is written, one after another.
-- Assumes nothing.
use mathlib.Core.Path.{◌≡◌, sym, ap, ◌∙◌}
use mathlib.Core.List.{List}
use Prim.Native.Nat.{ℕ, ◌+◌, ◌*◌, ◌<◌, ◌≤◌}
use native.Mathlib.Nat.{mul-le-mul}
use native.Mathlib.Decide.{ℕ_discrete}
use native.Mathlib.Omega.{arith}
use lib.ListN.{length, get_or, set, length-set}
use lib.Seq.{get_or-set_same, get_or-set_other}
use Rattle.algebra.specs.Shape.{Field}
use Rattle.algebra.specs.Plain.{reduced}
use Rattle.kernel.specs.Inner.{Spaced, Spacing, added_spaced, grid}
use Rattle.kernel.proofs.Rows.{row_before}

-- the place of turn j is in the buffer
pub place_in : {X : Type 0} (xs : List X) (to step j len : ℕ) → to + len * step < length xs + step → j < len → to + j * step < length xs
place_in xs to step j len h l = omega (arith, row_before j len step l)

-- places of different turns are different
places_apart : (to step i j : ℕ) → 0 < step → i < j → ¬ (to + i * step ≡ to + j * step)
places_apart to step i j p l e = absurd (omega (arith, row_before i j step l))

spaced_more : (f : ℕ → ℕ) (was is : List ℕ) (to step j v : ℕ) → 0 < step → Spaced f was is to step j → to + j * step < length was → v ≡ f j →
    Spaced f was (set is (to + j * step) v) to step (j + 1)
spaced_more f was is to step j v p r h e = record {
  long = length-set is (to + j * step) v ∙ r.long;
  done = λ i l. go i l (ℕ_discrete i j);
  other = λ i d. get_or-set_other is (to + j * step) i v 0 (λ q. d j (omega arith) q) ∙ r.other i (λ k l. d k (omega arith));
}
  where
    inside : to + j * step < length is
    inside = let e = r.long in omega arith

    go : (i : ℕ) → i < j + 1 → Dec (i ≡ j) → get_or (set is (to + j * step) v) (to + i * step) 0 ≡ f i
    go i l (yes q) = rw q (get_or-set_same is (to + j * step) v 0 inside ∙ e)
    go i l (no d) = get_or-set_other is (to + j * step) (to + i * step) v 0 (λ q. places_apart to step i j p (omega arith) q) ∙ r.done i (omega arith)

-- a turn: the place was not written yet
pub add_spaced_more : {A : Type 0} (f : Field A) (was is src : List ℕ) (to step from stride gap n far m j len p q : ℕ) →
    Spaced (added_spaced f was to step src from stride gap n far m) was is to step j → j < len → Spacing f was to step len src from stride gap n far m →
    f.coding.elem p ≡ f.ops.add (f.coding.elem (get_or is (to + j * step) 0)) (grid f src (from + j * stride) gap n far m) → q ≡ reduced f p →
    Spaced (added_spaced f was to step src from stride gap n far m) was (set is (to + j * step) q) to step (j + 1)
unfolding added_spaced reduced
add_spaced_more f was is src to step from stride gap n far m j len p q r h t e d =
    spaced_more (added_spaced f was to step src from stride gap n far m) was is to step j q t.some r (place_in was to step j len t.room h)
    (d ∙ ap f.coding.val (e ∙ ap (λ (x : ℕ). f.ops.add (f.coding.elem x) (grid f src (from + j * stride) gap n far m)) (still j is r)))
  where
    still : (j : ℕ) (is : List ℕ) → Spaced (added_spaced f was to step src from stride gap n far m) was is to step j → get_or is (to + j * step) 0 ≡ get_or was (to + j * step) 0
    still j is r = r.other (to + j * step) (λ k b d. places_apart to step k j t.some b (sym d))

-- the sum of a turn fits
pub spaced_fits : {A : Type 0} (f : Field A) (was is src : List ℕ) (to step len from stride gap n far m j : ℕ) → f.coding.size ≤ 257 → Spacing f was to step len src from stride gap n far m →
    Spaced (added_spaced f was to step src from stride gap n far m) was is to step j → j < len → get_or is (to + j * step) 0 + m * n * f.coding.size < 65536
spaced_fits f was is src to step len from stride gap n far m j small p r h =
    rw (r.other (to + j * step) (λ k b d. places_apart to step k j p.some b (sym d))) (omega (arith, p.held j h, mul-le-mul p.few small))
