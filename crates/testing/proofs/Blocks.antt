-- The first broken check, block after block.
-- Assumes nothing.
use mathlib.Core.Path.{◌≡◌, sym, ap, ◌∙◌, subst}
use mathlib.Core.Bool.{Bool, true, false, false≢true}
use mathlib.Core.List.{List}
use Prim.Native.Nat.{ℕ, ◌+◌, ◌-◌, ◌*◌, ◌<◌, ◌≤◌}
use native.Mathlib.Decide.{dec_lt}
use native.Mathlib.Omega.{arith}
use borrow.Author.Tests.{eqb-true, eq-eqb}
use lib.Dec.{eqb}
use lib.ListN.{length, get_or}
use Rattle.algebra.specs.Shape.{Field}
use Rattle.algebra.specs.Plain.{reduced, Working}
use Rattle.algebra.proofs.Plain.{elem_zero, elem_nil, elem_reduced, reduced_below}
use Rattle.kernel.proofs.Rows.{row_end, cell_is}
use Rattle.layout.specs.declared.Layout.{Layout}
use Rattle.layout.specs.Layout.{trays, checks, layers}
use Rattle.codeword.specs.Codeword.{check_at}
use Rattle.codeword.specs.Test.{FirstBad}
use Rattle.syndrome.specs.Inner.{Sums}
use Rattle.syndrome.proofs.Whole.{sums_are}
use Rattle.testing.specs.Inner.{FirstIn, FirstBroken}

-- the test of one number
pub zero_so : (x : ℕ) (b : Bool) → b ≡ eqb x 0 → b ≡ true → x ≡ 0
zero_so x b e t = eqb-true x 0 (sym e ∙ t)

pub zero_not : (x : ℕ) (b : Bool) → b ≡ eqb x 0 → b ≡ false → ¬ (x ≡ 0)
zero_not x b e n z = false≢true (sym (sym e ∙ n) ∙ eq-eqb x 0 z)

module _ {A : Type 0} {f : Field A} (W : Working f) where
  open f use {ops}
  open f.coding use {elem}

  pub first_of : (l : Layout) (w first r : ℕ) (c es sums : List ℕ) (j t : ℕ) → length es ≡ 0 → r ≡ checks l → Sums f l w first r c es (trays l) sums →
      FirstIn f w r sums j t → FirstBroken f l w first c j t
  first_of l w first r c es sums j t e er s z = record {
    column_in = z.column_in;
    earlier = λ i h v b. zero i v (let k = z.column_in in omega arith) (omega arith) (z.earlier i h v (omega arith));
    check_in = λ h. let k = z.check_in h in omega arith;
    broken = λ h q. z.broken h (elem_nil W _ (reduced_below W _) (elem_reduced W _ ∙ cell_is f w sums t j ∙ sums_are f l w first r c es sums e s t j (z.check_in h) h ∙ q));
    below = λ h v b. zero j v h (let k = z.check_in h in omega arith) (z.below h v b);
  }
    where
      zero : (i v : ℕ) → i < w → v < r → reduced f (get_or sums (v * w + i) 0) ≡ 0 → check_at f l c (first + i) v ≡ ops.zero
      zero i v hi hv q = sym (sums_are f l w first r c es sums e s v i hv hi) ∙ sym (cell_is f w sums v i) ∙ sym (elem_reduced W _) ∙ ap elem q ∙ elem_zero W

  -- ---- block after block
  module _ (l : Layout) (c : List ℕ) where
    abbrev pub SoundTo : ℕ → Type 0
    SoundTo n = (i : ℕ) → i < n → (v : ℕ) → v < checks l → check_at f l c i v ≡ ops.zero

    pub sound_none : (w : ℕ) → SoundTo (0 * w)
    sound_none w i h = absurd (omega arith)

    pub sound_more : (w q j t : ℕ) → SoundTo (q * w) → FirstBroken f l w (q * w) c j t → w ≤ j → SoundTo ((q + 1) * w)
    sound_more w q j t s z n i h v b = go (dec_lt i (q * w))
      where
        go : Dec (i < q * w) → check_at f l c i v ≡ ops.zero
        go (yes k) = s i k v b
        go (no k) =
            let e = row_end q w in
            let p : q * w + (i - q * w) ≡ i = omega arith in
            subst (λ m. check_at f l c m v ≡ ops.zero) p (z.earlier (i - q * w) (omega arith) v b)

    pub sound_end : (w q count : ℕ) → SoundTo (q * w) → q ≤ count → count ≤ q → count * w ≡ layers l → SoundTo (layers l)
    sound_end w q count s h k e i b = let u : q ≡ count = omega arith in s i (rw (u, e) b)

    pub first_bad : (w q j t : ℕ) → SoundTo (q * w) → FirstBroken f l w (q * w) c j t → j < w → q * w + w ≤ layers l → FirstBad f l c (q * w + j) t
    first_bad w q j t s z h inside = record {
      layer_in = omega arith;
      check_in = z.check_in h;
      broken = z.broken h;
      earlier_layers = λ i b v k. go i b v k (dec_lt i (q * w));
      earlier_checks = z.below h;
    }
      where
        go : (i : ℕ) → i < q * w + j → (v : ℕ) → v < checks l → Dec (i < q * w) → check_at f l c i v ≡ ops.zero
        go i b v k (yes d) = s i d v k
        go i b v k (no d) =
            let p : q * w + (i - q * w) ≡ i = omega arith in
            subst (λ m. check_at f l c m v ≡ ops.zero) p (z.earlier (i - q * w) (omega arith) v k)
