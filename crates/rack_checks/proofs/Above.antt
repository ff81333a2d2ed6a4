-- Rack after rack, from the highest down: at the lowest they are the checks.
-- Assumes nothing.
use mathlib.Core.Path.{◌≡◌, sym, ap, ap₂, ◌∙◌, subst}
use mathlib.Core.List.{List}
use Prim.Native.Nat.{ℕ, suc, ◌+◌, ◌-◌, ◌*◌, ◌/◌, ◌%◌, ◌<◌, ◌≤◌}
use native.Mathlib.Nat.{zero-add, add-zero as plus_zero, zero-mul as zero_times, mul_comm as times_comm, mod-lt, div-add-mod', add-mul}
use native.Mathlib.Omega.{arith}
use lib.ListN.{get_or}
use Rattle.algebra.specs.Sum.{sum, pow}
use Rattle.algebra.specs.Lagrange.{check}
use Rattle.algebra.specs.Layers.{digit}
use Rattle.algebra.specs.Cabinet.{layer_point}
use Rattle.algebra.specs.Points.{point, tray_point, rack_point, place, rack_sum, rack_check}
use Rattle.algebra.specs.Shape.{Field, Fits}
use Rattle.algebra.specs.Plain.{Working}
use Rattle.algebra.proofs.Ring.{add_comm, mul_zero, mul_assoc}
use Rattle.algebra.proofs.Pow.{pow_add, pow_mul}
use Rattle.algebra.proofs.Sum.{sum_congr, sum_front, sum_mul_left, sum_is_zero}
use Rattle.algebra.proofs.Points.{rack_check_lem}
use Rattle.algebra.proofs.Weighted.{pow_split}
use Rattle.algebra.proofs.Plain.{elem_zero}
use Rattle.kernel.specs.Inner.{cell, Run, filled}
use Rattle.kernel.proofs.Rows.{row_before, cell_is}
use Rattle.layout.specs.declared.Layout.{Layout}
use Rattle.layout.specs.Layout.{Cabinet, trays, digits}
use Rattle.layout.proofs.Facts.{bounds}
use Rattle.layout.proofs.Numbers.{room}
use Rattle.codeword.specs.Codeword.{shape_of, point_at}
use Rattle.blocks.specs.Inner.{Block}
use Rattle.syndrome.specs.Inner.{Listed, survivor_at, Sums}
use Rattle.syndrome.proofs.Sums.{survivor_listed}
use Rattle.rack_checks.specs.Inner.{ListedFrom, kept_sum, raised_by, RackRaised, rack_term, Above}
use Rattle.rack_checks.proofs.Numbers.{place_in}

module _ {A : Type 0} {f : Field A} (W : Working f) (l : Layout) (w first r : ℕ) (c es : List ℕ) where
  open f use {ops, root, order}
  open f.coding use {elem}
  open W.field use {laws}

  kept_zero : (j m i : ℕ) → ((g : ℕ) → g < l.size → survivor_at f l es c j (i * l.size + g) ≡ ops.zero) → kept_sum f l es c j m i ≡ ops.zero
  unfolding kept_sum rack_sum
  kept_zero j m i z = sum_is_zero ops laws l.size _ (λ g h. ap (ops.mul (pow ops (place (shape_of f l) g) m)) (z g h) ∙ mul_zero ops laws _)

  -- above the racks that have trays kept
  pub above_none : (was is : List ℕ) (h : ℕ) → Listed l es → ListedFrom es (h * l.size) (trays l) → Run (filled 0) was is 0 (r * w) → Above f l w first r c es h is
  unfolding filled rack_term
  above_none was is h listed from z = record {
    at = λ p m j b k x.
        sym (cell_is f w is (p * l.size + m) j) ∙ ap (λ y. elem (get_or is y 0)) (sym (zero-add ((p * l.size + m) * w + j)))
        ∙ ap elem (z.done ((p * l.size + m) * w + j) (let e = row_before (p * l.size + m) r w k in omega arith)) ∙ elem_zero W
        ∙ sym (sum_is_zero ops laws (l.racks - h) _ (λ v q.
        ap (ops.mul (pow ops root ((v * digits l + digit (digits l) (first + j) (h + v)) * (p * l.size + m))))
        (kept_zero (first + j) m (h + v) (λ g y. survivor_listed W l es c (first + j) ((h + v) * l.size + g) listed
        (from.at ((h + v) * l.size + g) (let d : (h + v) * l.size ≡ h * l.size + v * l.size = add-mul h v l.size in omega arith) (place_in l (h + v) g (omega arith) y))))
        ∙ mul_zero ops laws _));
  }

  -- the racks from i - 1 on: that rack, and the others a step further
  front : (j t n i : ℕ) → 0 < i → i ≤ l.racks →
      sum ops (l.racks - (i - 1)) (rack_term f l es c j t n (i - 1)) ≡ raised_by f l (i - 1) t j (sum ops (l.racks - i) (rack_term f l es c j t n i)) (kept_sum f l es c j n (i - 1))
  unfolding rack_term raised_by
  front j t n i p h =
      (let e : l.racks - (i - 1) ≡ suc (l.racks - i) = omega arith in ap (λ k. sum ops k (rack_term f l es c j t n (i - 1))) e)
      ∙ sum_front ops laws (l.racks - i) (rack_term f l es c j t n (i - 1)) ∙ add_comm ops laws _ _
      ∙ ap₂ ops.add
      (sum_congr ops (l.racks - i) _ (λ k. ops.mul (pow ops root (digits l * t)) (rack_term f l es c j t n i k)) (λ k q. later k)
      ∙ sum_mul_left ops laws (l.racks - i) (pow ops root (digits l * t)) (rack_term f l es c j t n i))
      (ap₂ (λ a b. ops.mul (pow ops root ((a + digit (digits l) j b) * t)) (kept_sum f l es c j n b)) (zero_times (digits l)) (plus_zero (i - 1))
      ∙ ap (λ a. ops.mul (pow ops root (a * t)) (kept_sum f l es c j n (i - 1))) (zero-add (digit (digits l) j (i - 1))))
    where
      later : (k : ℕ) → rack_term f l es c j t n (i - 1) (suc k) ≡ ops.mul (pow ops root (digits l * t)) (rack_term f l es c j t n i k)
      later k =
          (let e : i - 1 + suc k ≡ i + k = omega arith in ap (λ b. ops.mul (pow ops root ((suc k * digits l + digit (digits l) j b) * t)) (kept_sum f l es c j n b)) e)
          ∙ ap (λ a. ops.mul (pow ops root a) (kept_sum f l es c j n (i + k))) (order_of k (digits l) (digit (digits l) j (i + k)) t)
          ∙ ap (λ a. ops.mul a (kept_sum f l es c j n (i + k))) (pow_add ops laws root (digits l * t) ((k * digits l + digit (digits l) j (i + k)) * t))
          ∙ mul_assoc ops laws _ _ _
        where
          order_of : (k s d t : ℕ) → (suc k * s + d) * t ≡ s * t + (k * s + d) * t
          order_of k s d t = ap (λ y. y * t) (turn k s d) ∙ add-mul s (k * s + d) t
            where
              turn : (k s d : ℕ) → suc k * s + d ≡ s + (k * s + d)
              turn k s d = omega arith

  pub above_more : (was is : List ℕ) (i : ℕ) → 0 < i → i ≤ l.racks → Above f l w first r c es i was → RackRaised f l w first r c es (i - 1) was is → Above f l w first r c es (i - 1) is
  above_more was is i p h a g = record {
    at = λ q n j b k x.
        g.at q n j b k x
        ∙ ap (λ y. raised_by f l (i - 1) (q * l.size + n) (first + j) y (kept_sum f l es c (first + j) n (i - 1))) (a.at q n j b k x)
        ∙ sym (front (first + j) (q * l.size + n) n i p h);
  }

  -- the point of a rack and a digit at place 0
  point_first : (k a : ℕ) → point (shape_of f l) k a 0 ≡ pow ops root (k * digits l + a)
  unfolding point
  point_first k a = ap (λ y. pow ops root (k * digits l + a + y)) (zero_times (order / l.size)) ∙ ap (pow ops root) (plus_zero (k * digits l + a))

  each : (j p n k : ℕ) → rack_term f l es c j (p * l.size + n) n 0 k
      ≡ ops.mul (pow ops (pow ops (point (shape_of f l) k (digit (digits l) j k) 0) l.size) p)
      (ops.mul (pow ops (point (shape_of f l) k (digit (digits l) j k) 0) n) (rack_sum (shape_of f l) (survivor_at f l es c j) n k))
  unfolding rack_term kept_sum
  each j p n k =
      ap (λ b. ops.mul (pow ops root ((k * digits l + digit (digits l) j b) * (p * l.size + n))) (rack_sum (shape_of f l) (survivor_at f l es c j) n b)) (zero-add k)
      ∙ ap (λ y. ops.mul y (rack_sum (shape_of f l) (survivor_at f l es c j) n k))
      (pow_mul ops laws root (k * digits l + digit (digits l) j k) (p * l.size + n)
      ∙ ap₂ (pow ops) (sym (point_first k (digit (digits l) j k))) (ap (λ y. y + n) (times_comm p l.size))
      ∙ pow_split ops laws (point (shape_of f l) k (digit (digits l) j k) 0) l.size p n)
      ∙ mul_assoc ops laws _ _ _

  -- what the algebra asks, where racks of that size divide the powers of the root
  pub fits_of : Cabinet l → l.size * (order / l.size) ≡ order → Fits (shape_of f l)
  fits_of a e = record {
    laws = laws;
    root = W.field.root;
    some_racks = omega arith;
    some_places = (bounds l a).size_low;
    some_digits = (bounds l a).digits_low;
    divides = e;
    room = room l a order W.room e;
  }

  -- at the lowest rack they are the checks
  whole : Block l w first → l.size * (order / l.size) ≡ order → (j p n : ℕ) → sum ops (l.racks - 0) (rack_term f l es c j (p * l.size + n) n 0)
      ≡ sum ops (trays l) (λ y. ops.mul (pow ops (point_at f l j y) (p * l.size + n)) (survivor_at f l es c j y))
  unfolding point_at layer_point check rack_check rack_point
  whole b d j p n =
      (let e : l.racks - 0 ≡ l.racks = omega arith in ap (λ k. sum ops k (rack_term f l es c j (p * l.size + n) n 0)) e)
      ∙ sum_congr ops l.racks _
      (λ k. ops.mul (pow ops (pow ops (point (shape_of f l) k (digit (digits l) j k) 0) l.size) p)
      (ops.mul (pow ops (point (shape_of f l) k (digit (digits l) j k) 0) n) (rack_sum (shape_of f l) (survivor_at f l es c j) n k)))
      (λ k h. each j p n k)
      ∙ sym (rack_check_lem (shape_of f l) (fits_of b.adm d) (digit (digits l) j) (survivor_at f l es c j) p n)
      ∙ ap (λ t. sum ops (trays l) (λ y. ops.mul (pow ops (tray_point (shape_of f l) (digit (digits l) j) y) t) (survivor_at f l es c j y))) (ap (λ y. y + n) (times_comm l.size p))

  pub above_end : (is : List ℕ) (i : ℕ) → Block l w first → l.size * (order / l.size) ≡ order → i ≤ 0 → Above f l w first r c es i is → Sums f l w first r c es (trays l) is
  above_end is i b d h a = record {
    at = λ t j ht hj.
        let e : t / l.size * l.size + t % l.size ≡ t = div-add-mod' t l.size in
        let z : i ≡ 0 = omega arith in
        subst (λ v. cell f w is v j ≡ sum ops (trays l) (λ y. ops.mul (pow ops (point_at f l (first + j) y) v) (survivor_at f l es c (first + j) y))) e
        ((subst (λ v. Above f l w first r c es v is) z a).at (t / l.size) (t % l.size) j (mod-lt t (bounds l b.adm).size_low) (subst (λ v. v < r) (sym e) ht) hj
        ∙ whole b d (first + j) (t / l.size) (t % l.size));
  }
