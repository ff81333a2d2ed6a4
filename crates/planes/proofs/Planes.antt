-- Rows times their symbols, by the bits of these.
-- Assumes nothing.
use mathlib.Core.Path.{◌≡◌, refl, sym, ap, ap₂, ◌∙◌}
use mathlib.Core.List.{List}
use Prim.Native.Nat.{ℕ, ◌+◌, ◌-◌, ◌*◌, ◌/◌, ◌%◌, ◌^◌, ◌<◌, ◌≤◌}
use native.Mathlib.Nat.{div-eq_of_lt, div-one}
use native.Mathlib.Omega.{arith}
use mir.Val.{Fits}
use mir.Syntax.{w8}
use lib.Dec.{lit<}
use lib.ListN.{length, get_or, set}
use lib.Bits.{bit_and, and_mask}
use Rattle.algebra.specs.Sum.{sum}
use Rattle.algebra.proofs.Ring.{ring, add_zero, mul_zero, mul_one, mul_comm}
use Rattle.algebra.proofs.Sum.{sum_zero, sum_add_one, sum_congr, sum_add, sum_mul_left, sum_is_zero}
use Rattle.algebra.proofs.Plain.{elem_plus, plus_below}
use Rattle.symbol.specs.Arithmetic.{◌⊗◌, mulz}
use Rattle.symbol.specs.Elem.{Elem, elem, ops, z, gf256}
use Rattle.symbol.proofs.Elem.{laws, elem_zero, elem_one, elem_⊗}
use Rattle.symbol.proofs.Laws.{⊗-lt}
use Rattle.symbol.proofs.Halves.{twice_times, elem_half}
use Rattle.symbol.proofs.Working.{working}
use Rattle.kernel.specs.Inner.{cell, Run, filled, added}
use Rattle.kernel.proofs.Runs.{run_more}
use Rattle.kernel.proofs.Rows.{row_other}
use Rattle.planes.specs.Inner.{Summed, doubled, BitAdded, Plane, Upper}

-- twice a run
pub double_more : (was is : List ℕ) (to j len p : ℕ) → Run (doubled was to) was is to j → j < len → to + len ≤ length was → ((i : ℕ) → Fits w8 (get_or is i 0)) → p ≡ mulz (get_or is (to + j) 0) →
    Run (doubled was to) was (set is (to + j) p) to (j + 1)
unfolding doubled
double_more was is to j len p r h l b e =
    run_more (doubled was to) was is to j p r (omega arith) (twice_times (get_or is (to + j) 0) p (b (to + j)).fits e ∙ ap (λ (x : ℕ). x ⊗ 2) (r.high (to + j) (omega arith)))

double_row : (w i : ℕ) (was is : List ℕ) → Run (doubled was (i * w)) was is (i * w) w → (j : ℕ) → j < w → cell gf256 w is i j ≡ ops.mul (cell gf256 w was i j) z
unfolding doubled cell
double_row w i was is r j h = ap elem (r.done j h) ∙ elem_⊗ (get_or was (i * w + j) 0) 2

double_small : (w i : ℕ) (was is : List ℕ) → Run (doubled was (i * w)) was is (i * w) w → (j : ℕ) → j < w → get_or is (i * w + j) 0 < 256
unfolding doubled
double_small w i was is r j h = rw (r.done j h) (⊗-lt (get_or was (i * w + j) 0) 2)

-- a row where a bit is set
module _ (w t i b : ℕ) (sums was is : List ℕ) where
  pub bit_none : b ≡ 0 → BitAdded w t i b sums was was
  bit_none e = record {
    long = refl;
    here = λ j h.
        sym (ap (λ n. ops.add (cell gf256 w was i j) (ops.mul (cell gf256 w sums t j) n)) (ap elem e ∙ elem_zero) ∙ ap (ops.add (cell gf256 w was i j)) (mul_zero ops laws _)
        ∙ add_zero ops laws (cell gf256 w was i j));
    small = λ j h l. l;
    others = λ x j h d. refl;
  }

  pub bit_one : b < 2 → ¬ (b ≡ 0) → Run (added gf256 was (i * w) sums (t * w)) was is (i * w) w → BitAdded w t i b sums was is
  unfolding added cell
  bit_one h d r = record {
    long = r.long;
    here = λ j k.
        ap elem (r.done j k) ∙ elem_plus working (get_or was (i * w + j) 0) (get_or sums (t * w + j) 0)
        ∙ ap (ops.add (elem (get_or was (i * w + j) 0))) (sym (let e : b ≡ 1 = omega arith in ap (λ n. ops.mul (elem (get_or sums (t * w + j) 0)) n) (ap elem e ∙ elem_one) ∙ mul_one ops laws _));
    small = λ j k l. rw (r.done j k) (plus_below working _ _);
    others = λ x j k q. row_other _ was is i w r x j k q;
  }

-- all rows
module _ (w i k : ℕ) (sums coefs : List ℕ) (at : ℕ) (was : List ℕ) where
  pub plane_none : Plane w 0 i k sums coefs at was was
  plane_none = record {
    long = refl;
    here = λ j h. sym (ap (ops.add (cell gf256 w was i j)) (sum_zero ops _) ∙ add_zero ops laws (cell gf256 w was i j));
    small = λ j h l. l;
    others = λ x j h d. refl;
  }

  pub plane_more : (n : ℕ) (is next : List ℕ) → Plane w n i k sums coefs at was is → BitAdded w n i (bit_and (get_or coefs (at + n) 0 / 2 ^ k) 1) sums is next →
      Plane w (n + 1) i k sums coefs at was next
  plane_more n is next p b = record {
    long = b.long ∙ p.long;
    here = λ j h.
        b.here j h
        ∙ ap₂ (λ x y. ops.add x (ops.mul (cell gf256 w sums n j) (elem y))) (p.here j h) (and_mask (get_or coefs (at + n) 0 / 2 ^ k) 1)
        ∙ laws.add_assoc _ _ _ ∙ ap (ops.add (cell gf256 w was i j)) (sym (sum_add_one ops n (λ t. ops.mul (cell gf256 w sums t j) (elem (get_or coefs (at + t) 0 / 2 ^ k % 2)))));
    small = λ j h l. b.small j h (p.small j h l);
    others = λ x j h d. b.others x j h d ∙ p.others x j h d;
  }

-- bit after bit
module _ (w m i : ℕ) (sums coefs : List ℕ) (at : ℕ) (was : List ℕ) (bytes : (t : ℕ) → Fits w8 (get_or coefs t 0)) where
  pub upper_none : (is : List ℕ) → Run (filled 0) was is (i * w) w → Upper w m i 8 sums coefs at is is
  unfolding filled cell
  upper_none is r = record {
    long = refl;
    here = λ j h.
        ap elem (r.done j h) ∙ elem_zero
        ∙ sym (sum_is_zero ops laws m _ (λ t q. ap (ops.mul (elem (get_or sums (t * w + j) 0))) (ap elem (div-eq_of_lt (bytes (at + t)).fits) ∙ elem_zero) ∙ mul_zero ops laws _));
    small = λ j h. rw (r.done j h) (lit< tt);
    others = λ x j h d. refl;
  }

  pub upper_more : (k : ℕ) (is mid next : List ℕ) → 0 < k → Upper w m i k sums coefs at was is → Run (doubled is (i * w)) is mid (i * w) w → Plane w m i (k - 1) sums coefs at mid next →
      Upper w m i (k - 1) sums coefs at was next
  upper_more k is mid next g u d p = record {
    long = p.long ∙ d.long ∙ u.long;
    here = λ j h.
        p.here j h
        ∙ ap (λ x. ops.add x (sum ops m (λ t. ops.mul (cell gf256 w sums t j) (elem (get_or coefs (at + t) 0 / 2 ^ (k - 1) % 2)))))
        (double_row w i is mid d j h ∙ ap (λ x. ops.mul x z) (u.here j h) ∙ mul_comm ops laws _ z
        ∙ sym (sum_mul_left ops laws m z (λ t. ops.mul (cell gf256 w sums t j) (elem (get_or coefs (at + t) 0 / 2 ^ k)))))
        ∙ sym (sum_add ops laws m (λ t. ops.mul z (ops.mul (cell gf256 w sums t j) (elem (get_or coefs (at + t) 0 / 2 ^ k))))
        (λ t. ops.mul (cell gf256 w sums t j) (elem (get_or coefs (at + t) 0 / 2 ^ (k - 1) % 2))))
        ∙ sum_congr ops m _ _ (λ t q. join (cell gf256 w sums t j) (elem (get_or coefs (at + t) 0 / 2 ^ k)) z (elem (get_or coefs (at + t) 0 / 2 ^ (k - 1) % 2))
        ∙ ap (ops.mul (cell gf256 w sums t j)) (sym (elem_half (get_or coefs (at + t) 0) k (bytes (at + t)).fits g)));
    small = λ j h. p.small j h (double_small w i is mid d j h);
    others = λ x j h q. p.others x j h q ∙ row_other _ is mid i w d x j h q ∙ u.others x j h q;
  }
    where
      join : (a b c d : Elem) → ops.add (ops.mul c (ops.mul a b)) (ops.mul a d) ≡ ops.mul a (ops.add (ops.mul b c) d)
      join a b c d = let L = laws in simp (ring, L)

pub summed_end : (w m i k : ℕ) (sums coefs : List ℕ) (at : ℕ) (was mid is : List ℕ) → Run (filled 0) was mid (i * w) w → Upper w m i k sums coefs at mid is → k ≤ 0 →
    Summed gf256 w m i sums coefs at was is
summed_end w m i k sums coefs at was mid is r u h =
    let e : k ≡ 0 = omega arith in
    record {
      long = u.long ∙ r.long;
      here = λ j q.
          u.here j q ∙ ap (λ n. sum ops m (λ t. ops.mul (cell gf256 w sums t j) (elem (get_or coefs (at + t) 0 / 2 ^ n)))) e
          ∙ sum_congr ops m _ _ (λ t l. ap (λ n. ops.mul (cell gf256 w sums t j) (elem n)) (div-one (get_or coefs (at + t) 0)));
      small = u.small;
      others = λ x j q d. u.others x j q d ∙ row_other _ was mid i w r x j q d;
    }
