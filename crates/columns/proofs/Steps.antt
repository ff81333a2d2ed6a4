-- The product over all points, for all columns, factor by factor.
-- Assumes nothing.
use mathlib.Core.Path.{◌≡◌, refl, sym, ap, ap₂, ◌∙◌, subst}
use mathlib.Core.List.{List, []}
use Prim.Native.Nat.{ℕ, zero, suc, ◌+◌, ◌-◌, ◌*◌, ◌<◌, ◌≤◌, min}
use native.Mathlib.Nat.{zero-add, not-suc-le-zero}
use native.Mathlib.Numerals.{add-one}
use native.Mathlib.Decide.{ℕ_discrete, dec_lt}
use native.Mathlib.Omega.{arith}
use lib.ListN.{length, get_or}
use Rattle.algebra.specs.Poly.{coeff, linear}
use Rattle.algebra.proofs.Ring.{add_zero, zero_add as add-zero-left, mul_zero, mul_comm, neg_zero}
use Rattle.algebra.proofs.Poly.{coeff_head, coeff_tail, coeff_nil, coeff_linear_zero, coeff_linear_suc}
use Rattle.algebra.specs.Shape.{Field}
use Rattle.algebra.specs.Plain.{times, Working}
use Rattle.algebra.proofs.Plain.{elem_zero, elem_one, elem_minus, elem_times}
use Rattle.kernel.specs.Inner.{cell, Run, filled, copied, shifted}
use Rattle.kernel.proofs.Rows.{row_end, row_before, zero_cell, cell_is, cell_other}
use Rattle.columns.specs.Inner.{column, locator, Locator, Timed, carried, Timing}
use Rattle.columns.proofs.Products.{coeff_past}
use Rattle.columns.proofs.Quotients.{locator_none, locator_suc, locator_length}

module _ {A : Type 0} {f : Field A} (W : Working f) where
  open f use {ops}
  open f.coding use {elem}
  open W.field use {laws}

  shifted_row : (v : ℕ) (points : List ℕ) (t q : ℕ) (carry is new : List ℕ) → Run (shifted f is (t * v) carry points (q * v)) is new (t * v) v → (c : ℕ) → c < v →
      cell f v new t c ≡ ops.add (elem (get_or carry c 0)) (ops.neg (ops.mul (cell f v is t c) (cell f v points q c)))
  unfolding cell shifted
  shifted_row v points t q carry is new r c k =
      ap elem (r.done c k) ∙ elem_minus W (get_or carry c 0) (times f (get_or is (t * v + c) 0) (get_or points (q * v + c) 0))
      ∙ ap (λ x. ops.add (elem (get_or carry c 0)) (ops.neg x)) (elem_times W (get_or is (t * v + c) 0) (get_or points (q * v + c) 0))

  carried_row : (v t : ℕ) (is was now : List ℕ) → Run (copied is (t * v)) was now 0 v → (c : ℕ) → c < v → elem (get_or now c 0) ≡ cell f v is t c
  unfolding cell copied
  carried_row v t is was now r c k = ap (λ (i : ℕ). elem (get_or now i 0)) (sym (zero-add c)) ∙ ap elem (r.done c k)

  carried_none : (v : ℕ) (was : List ℕ) (c : ℕ) → carried f v was 0 c ≡ ops.zero
  unfolding carried
  carried_none v was c = refl

  carried_more : (v : ℕ) (was : List ℕ) (t c : ℕ) → carried f v was (suc t) c ≡ cell f v was t c
  unfolding carried
  carried_more v was t c = refl

  -- ---- a factor
  pub timing_none : (v q : ℕ) (points was before carry : List ℕ) → Run (filled 0) before carry 0 v → Timing f v q points was was carry 0
  unfolding filled
  timing_none v q points was before carry r = record {
    done = λ s c h k. absurd (not-suc-le-zero h);
    rest = λ s c h k. refl;
    carries = λ c k. ap (λ (i : ℕ). elem (get_or carry i 0)) (sym (zero-add c)) ∙ ap elem (r.done c k) ∙ elem_zero W ∙ sym (carried_none v was c);
  }

  pub timing_more : (v q : ℕ) (points was is new carry next : List ℕ) (t : ℕ) → Timing f v q points was is carry t → Run (shifted f is (t * v) carry points (q * v)) is new (t * v) v →
      Run (copied is (t * v)) carry next 0 v → Timing f v q points was new next (t + 1)
  timing_more v q points was is new carry next t g r n = record {
    done = λ s c h k. go s c h k (ℕ_discrete s t);
    rest = λ s c h k. other s c k (λ e. omega arith) ∙ g.rest s c (omega arith) k;
    carries = λ c k. carried_row v t is carry next n c k ∙ g.rest t c (omega arith) k ∙ sym (carried_more v was t c) ∙ ap (λ (i : ℕ). carried f v was i c) (sym (add-one t));
  }
    where
      other : (s c : ℕ) → c < v → ¬ (s ≡ t) → cell f v new s c ≡ cell f v is s c
      other s c k d = cell_other f _ is new t v r s c k d

      here : (c : ℕ) → c < v → cell f v new t c ≡ ops.add (carried f v was t c) (ops.neg (ops.mul (cell f v was t c) (cell f v points q c)))
      here c k =
          shifted_row v points t q carry is new r c k
          ∙ ap₂ (λ x y. ops.add x (ops.neg (ops.mul y (cell f v points q c)))) (g.carries c k) (g.rest t c (omega arith) k)

      go : (s c : ℕ) → s < t + 1 → c < v → Dec (s ≡ t) → cell f v new s c ≡ ops.add (carried f v was s c) (ops.neg (ops.mul (cell f v was s c) (cell f v points q c)))
      go s c h k (yes e) = subst (λ i. cell f v new i c ≡ ops.add (carried f v was i c) (ops.neg (ops.mul (cell f v was i c) (cell f v points q c)))) (sym e) (here c k)
      go s c h k (no d) = other s c k d ∙ g.done s c (omega arith) k

  pub timed_of : (v q top : ℕ) (points was is carry : List ℕ) (t : ℕ) → t ≤ top + 1 → top < t → Timing f v q points was is carry t → Timed f v q top points was is
  timed_of v q top points was is carry t h l g = record {
    first = λ c k.
        g.done 0 c (omega arith) k ∙ ap (λ x. ops.add x (ops.neg (ops.mul (cell f v was 0 c) (cell f v points q c)))) (carried_none v was c)
        ∙ add-zero-left ops laws (ops.neg (ops.mul (cell f v was 0 c) (cell f v points q c)));
    next = λ s c b k. g.done (suc s) c (omega arith) k ∙ ap (λ x. ops.add x (ops.neg (ops.mul (cell f v was (suc s) c) (cell f v points q c)))) (carried_more v was s c);
    above = λ s c b k. g.rest s c (omega arith) k;
  }

  -- ---- the product over all points
  pub locator_start : (v m : ℕ) (points : List ℕ) (was mid is : List ℕ) → 0 < m → Run (filled 1) was mid 0 v → Run (filled 0) mid is v (m * v - v) → Locator f v m points 0 is
  unfolding filled
  locator_start v m points was mid is hm r z = record { at = at }
    where
      at : (t c : ℕ) → t < m → c < v → cell f v is t c ≡ coeff ops (locator f (column f v points c) 0) t
      at zero c ht hc =
          zero_cell f v is c ∙ ap elem (z.low (0 + c) (omega arith)) ∙ ap elem (r.done c hc) ∙ elem_one W
          ∙ sym (ap (λ l. coeff ops l 0) (locator_none W (column f v points c)) ∙ coeff_head ops ops.one [])
      at (suc t) c ht hc =
          sym (cell_is f v is (suc t) c) ∙ ap (λ (k : ℕ). elem (get_or is k 0)) place ∙ ap elem (z.done (t * v + c) inside) ∙ elem_zero W
          ∙ sym (ap (λ l. coeff ops l (suc t)) (locator_none W (column f v points c)) ∙ coeff_tail ops ops.one [] t ∙ coeff_nil ops t)
        where
          place : suc t * v + c ≡ v + (t * v + c)
          place = let e : suc t * v ≡ t * v + v = ap (λ (k : ℕ). k * v) (sym (add-one t)) ∙ row_end t v in omega arith

          inside : t * v + c < m * v - v
          inside = let e = row_before (t + 1) m v (omega arith) in let k = row_end t v in omega arith

  pub locator_more : (v m : ℕ) (points : List ℕ) (q top : ℕ) (was is : List ℕ) → q < m → top ≡ min (q + 1) (m - 1) → Locator f v m points q was →
      Timed f v q top points was is → Locator f v m points (q + 1) is
  unfolding column
  locator_more v m points q top was is hq ht g w = record { at = at }
    where
      N : ℕ → List A
      N c = locator f (column f v points c) q

      Q : ℕ → A
      Q c = column f v points c q

      point : (c : ℕ) → cell f v points q c ≡ Q c
      point c = refl

      old : (t c : ℕ) → t < m → c < v → cell f v was t c ≡ coeff ops (N c) t
      old t c h k = g.at t c h k

      short : (c : ℕ) → length (N c) ≤ q + 1
      short c = locator_length W (column f v points c) q

      step : (t c : ℕ) → t < m → c < v → cell f v is t c ≡ coeff ops (linear ops (Q c) (N c)) t
      step zero c h k =
          w.first c k ∙ ap ops.neg (ap₂ ops.mul (old 0 c h k) (point c) ∙ mul_comm ops laws _ _) ∙ sym (coeff_linear_zero ops laws (Q c) (N c))
      step (suc t) c h k = go (dec_lt t top)
        where
          go : Dec (t < top) → cell f v is (suc t) c ≡ coeff ops (linear ops (Q c) (N c)) (suc t)
          go (yes l) =
              w.next t c l k ∙ ap₂ ops.add (old t c (omega arith) k) (ap ops.neg (ap₂ ops.mul (old (suc t) c h k) (point c) ∙ mul_comm ops laws _ _))
              ∙ sym (coeff_linear_suc ops laws (Q c) (N c) t)
          go (no l) =
              w.above (suc t) c (omega arith) k ∙ old (suc t) c h k ∙ zero_at
              ∙ sym (coeff_linear_suc ops laws (Q c) (N c) t
              ∙ ap₂ (λ x y. ops.add x (ops.neg (ops.mul (Q c) y))) (coeff_past W (N c) t (let e = short c in omega arith)) zero_at
              ∙ ap (ops.add ops.zero) (ap ops.neg (mul_zero ops laws (Q c)) ∙ neg_zero ops laws) ∙ add_zero ops laws ops.zero)
            where
              zero_at : coeff ops (N c) (suc t) ≡ ops.zero
              zero_at = coeff_past W (N c) (suc t) (let e = short c in omega arith)

      at : (t c : ℕ) → t < m → c < v → cell f v is t c ≡ coeff ops (locator f (column f v points c) (q + 1)) t
      at t c h k = step t c h k ∙ ap (λ l. coeff ops l t) (sym (locator_suc W (column f v points c) q) ∙ ap (locator f (column f v points c)) (sym (add-one q)))
