-- What a walk has looked at: numbers that are symbols, in every layer below its next.
-- Assumes nothing.
use mathlib.Core.Path.{◌≡◌, sym, ap, ap₂, ◌∙◌, subst}
use mathlib.Core.Bool.{Bool, true}
use mathlib.Core.List.{List}
use Prim.Native.Nat.{ℕ, zero, suc, ◌+◌, ◌-◌, ◌*◌, ◌/◌, ◌%◌, ◌<◌, ◌≤◌}
use native.Mathlib.Nat.{mul-zero, mod-lt, div-add-mod', div-lt_iff_lt-mul}
use native.Mathlib.Decide.{dec_lt}
use native.Mathlib.Omega.{arith}
use lib.ListN.{length, get_or}
use Rattle.algebra.specs.Coding.{InRange}
use Rattle.algebra.specs.Shape.{Field}
use Rattle.range.specs.Range.{symbol_rows}
use Rattle.range.proofs.Symbols.{rows_all, rows_range}
use Rattle.layout.specs.declared.Layout.{Layout}
use Rattle.layout.specs.Layout.{trays, layers}
use Rattle.codeword.specs.Inner.{Scannable}
use Rattle.scrub.specs.declared.Walk.{Walk}
use Rattle.scrub.specs.Scrub.{step_layers, step_symbols}

-- a row's length where there is a place
width_pos : (n m i : ℕ) → i < n * m → 0 < m
width_pos n zero i h = absurd (let e = mul-zero n in omega arith)
width_pos n (suc m) i h = omega arith

module _ {A : Type 0} (f : Field A) (l : Layout) (c : List ℕ) where
  -- every number in the layers below n is a symbol
  abbrev pub Seen : ℕ → Type 0
  Seen n = (x j : ℕ) → x < trays l → j < n → get_or c (x * layers l + j) 0 < f.coding.size

  pub seen_none : Seen 0
  seen_none x j hx hj = absurd (omega arith)

  pub seen_more : (w : Walk) (budget : ℕ) → Seen w.next → step_symbols f l c w budget ≡ true → Seen (w.next + step_layers (layers l) w budget)
  unfolding step_symbols
  seen_more w budget s t x j hx hj = go (dec_lt j w.next)
    where
      go : Dec (j < w.next) → get_or c (x * layers l + j) 0 < f.coding.size
      go (yes h) = s x j hx h
      go (no h) =
          let e : x * layers l + w.next + (j - w.next) ≡ x * layers l + j = omega arith in
          subst (λ (i : ℕ). get_or c i 0 < f.coding.size) e
          (rows_all f c (trays l) (layers l) w.next (step_layers (layers l) w budget) t x (j - w.next) hx (omega arith))

  -- all layers looked at: all numbers of a buffer of the right length
  pub seen_all : Seen (layers l) → length c ≡ trays l * layers l → InRange f.coding c
  seen_all s e = record { at = λ i h. place i (rw e at h) }
    where
      place : (i : ℕ) → i < trays l * layers l → get_or c i 0 < f.coding.size
      place i h =
          let p = width_pos (trays l) (layers l) i h in
          subst (λ (k : ℕ). get_or c k 0 < f.coding.size) (div-add-mod' i (layers l))
          (s (i / layers l) (i % layers l) ((div-lt_iff_lt-mul p).1 h) (mod-lt i p))

  -- where all numbers of the buffer are symbols, as bytes are in the field of 256, a call finds no other
  pub all_seen : (w : Walk) (budget : ℕ) → length c ≡ trays l * layers l → w.next ≤ layers l → InRange f.coding c → step_symbols f l c w budget ≡ true
  unfolding step_symbols
  all_seen w budget e h range = sym (rows_range f c (trays l) (layers l) w.next (step_layers (layers l) w budget) e (omega arith) range)

-- ---- the code's test of them: n rows of total numbers, and k layers
module _ (l : Layout) (total : ℕ) (c : List ℕ) (w : Walk) (budget n k : ℕ) (p : Scannable l total c) (en : n ≡ trays l) (ek : k ≡ step_layers total w budget) where
  pub rows_seen : {A : Type 0} (f : Field A) (b : Bool) → b ≡ symbol_rows f c n total w.next k → b ≡ step_symbols f l c w budget
  unfolding step_symbols
  rows_seen f b e =
      e ∙ ap₂ (λ (x y : ℕ). symbol_rows f c x total w.next y) en ek
      ∙ ap (λ (L : ℕ). symbol_rows f c (trays l) L w.next (step_layers L w budget)) p.total_is
