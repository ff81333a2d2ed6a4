-- The points of whole racks: their u-th powers, and the inverses of their powers.
-- Assumes nothing.
use mathlib.Core.Path.{◌≡◌, refl, sym, ap, ap₂, ◌∙◌, subst}
use mathlib.Core.List.{List}
use Prim.Native.Nat.{ℕ, ◌+◌, ◌-◌, ◌*◌, ◌/◌, ◌%◌, ◌<◌, ◌≤◌}
use native.Mathlib.Nat.{mul_comm as times_comm, mul-le-mul}
use native.Mathlib.Decide.{ℕ_discrete}
use native.Mathlib.Omega.{arith}
use lib.ListN.{length, get_or}
use Rattle.algebra.specs.Sum.{pow}
use Rattle.algebra.specs.Layers.{digit}
use Rattle.algebra.specs.Shape.{Field}
use Rattle.algebra.specs.Plain.{root_power, Working}
use Rattle.algebra.proofs.Ring.{mul_comm, mul_one}
use Rattle.algebra.proofs.Pow.{pow_add, pow_mul, mul_pow, one_pow}
use Rattle.algebra.proofs.Plain.{elem_times, elem_root_power}
use Rattle.kernel.specs.Inner.{cell, Run, sampled}
use Rattle.kernel.proofs.Rows.{row_before, row_in, cell_is, cell_other}
use Rattle.columns.specs.Inner.{scaled}
use Rattle.layout.specs.declared.Layout.{Layout}
use Rattle.layout.specs.Layout.{digits}
use Rattle.layout.proofs.Facts.{bounds}
use Rattle.codeword.specs.Codeword.{point_at}
use Rattle.syndrome.specs.Inner.{DigitPowers}
use Rattle.syndrome.proofs.Digits.{point_digit}
use Rattle.solving.specs.Inner.{Columns}
use Rattle.rack_solving.specs.Inner.{WholeRacks, PowerRow, RackPoints, lowering, RowLowered, Lowered}
use Rattle.rack_solving.proofs.Lists.{first_in}

-- ---- the loop over the racks
module _ (l : Layout) (w first : ℕ) (es : List ℕ) (n v run : ℕ) (points row : List ℕ) (c : Columns l w first es v run points row) (s : WholeRacks l.size n es) (i : ℕ) (h : i < n) where
  pub rack_entry : i * l.size < length es
  rack_entry = first_in l.size n es s i h (bounds l c.block.adm).size_low

  pub rack_there : (is : List ℕ) → length is ≡ length points → i * v + v ≤ length is
  rack_there is e =
      let u = (bounds l c.block.adm).size_low in
      let q = rack_entry in
      let m : i * 1 ≤ i * l.size = mul-le-mul (let t : i ≤ i = omega arith in t) u in
      rw e (row_in points (length es) v i c.points_long (omega arith))

module _ (l : Layout) (w first : ℕ) (es : List ℕ) (v run : ℕ) (points was is : List ℕ) (c : Columns l w first es v run points was) (e : length is ≡ length was) where
  pub sampled_in : v * run ≤ length is
  sampled_in = let a = c.width in let b = c.row_long in omega arith

module _ {A : Type 0} {f : Field A} (W : Working f) (l : Layout) where
  open f use {ops, root, order}
  open f.coding use {elem}
  open W.field use {laws}
  open ops use {mul as ◌⊗◌, one as 𝟙}

  infixl 70 ◌⊗◌
  -- ---- u-th powers
  pub power_row : (w first x p z : ℕ) (row : List ℕ) → elem p ≡ pow ops (point_at f l 0 x) l.size → z ≡ root_power f l.size → DigitPowers f l w first (x / l.size) p z row →
      PowerRow f l w first x row
  power_row w first x p z row ep ez d = record {
    at = λ j h.
        d.at j h ∙ ap₂ ◌⊗◌ (power (digit (digits l) (first + j) (x / l.size))) ep
        ∙ sym (mul_pow ops laws (pow ops root (digit (digits l) (first + j) (x / l.size))) (point_at f l 0 x) l.size)
        ∙ ap (λ y. pow ops y l.size) (sym (point_digit W l x (first + j)));
  }
    where
      power : (e : ℕ) → pow ops (elem z) e ≡ pow ops (pow ops root e) l.size
      power e =
          ap (λ y. pow ops y e) (ap elem ez ∙ elem_root_power W l.size) ∙ sym (pow_mul ops laws root l.size e) ∙ ap (pow ops root) (times_comm l.size e)
          ∙ pow_mul ops laws root e l.size

  pub racks_more : (w first : ℕ) (es : List ℕ) (v run i : ℕ) (row was is : List ℕ) → v * run ≤ w → 0 < run → RackPoints f l first es v run i was →
      PowerRow f l w first (get_or es (i * l.size) 0) row → Run (sampled row run) was is (i * v) v → RackPoints f l first es v run (i + 1) is
  unfolding sampled
  racks_more w first es v run i row was is e low g p r = record { at = λ k c h b. go k c h b (ℕ_discrete k i) }
    where
      go : (k c : ℕ) → k < i + 1 → c < v → Dec (k ≡ i) → cell f v is k c ≡ pow ops (point_at f l (first + c * run) (get_or es (k * l.size) 0)) l.size
      go k c h b (yes q) =
          subst (λ n. cell f v is n c ≡ pow ops (point_at f l (first + c * run) (get_or es (n * l.size) 0)) l.size) (sym q)
          (sym (cell_is f v is i c) ∙ ap elem (r.done c b) ∙ p.at (c * run) (let q = row_before c v run b in omega arith))
      go k c h b (no d) = cell_other f _ was is i v r k c b d ∙ g.at k c (omega arith) b

  -- ---- powers divided by
  pub row_kept : (w first : ℕ) (es : List ℕ) (k : ℕ) (was : List ℕ) → k % l.size ≡ 0 → RowLowered f l w first es k was was
  unfolding lowering
  row_kept w first es k was z = record { here = λ j h. sym (ap (λ y. cell f w was k j ⊗ y) (one (first + j)) ∙ mul_one ops laws (cell f w was k j)); others = λ x j h d. refl }
    where
      full : pow ops root (order - k % l.size) ≡ 𝟙
      full = (let q : order - k % l.size ≡ order = omega arith in ap (pow ops root) q) ∙ W.field.root.full

      one : (j : ℕ) → lowering f l j (get_or es k 0) (k % l.size) ≡ 𝟙
      one j = ap (λ y. pow ops y (get_or es k 0 / l.size * digits l + digit (digits l) j (get_or es k 0 / l.size))) full ∙ one_pow ops laws _

  pub row_lowered : (w first : ℕ) (es : List ℕ) (k s p z : ℕ) (row was is : List ℕ) → s ≡ digits l → p ≡ root_power f ((order - k % l.size) * (get_or es k 0 / l.size * s)) →
      z ≡ root_power f (order - k % l.size) → DigitPowers f l w first (get_or es k 0 / l.size) p z row → Run (scaled f was (k * w) row 0) was is (k * w) w → RowLowered f l w first es k was is
  unfolding lowering scaled
  row_lowered w first es k s p z row was is es' ep ez d r = record {
    here = λ j h.
        sym (cell_is f w is k j) ∙ ap elem (r.done j h) ∙ elem_times W (get_or was (k * w + j) 0) (get_or row (0 + j) 0)
        ∙ ap₂ ◌⊗◌ (cell_is f w was k j) (ap (λ n. elem (get_or row n 0)) (let q : 0 + j ≡ j = omega arith in q) ∙ d.at j h ∙ power (first + j));
    others = λ x j h n. cell_other f _ was is k w r x j h n;
  }
    where
      power : (j : ℕ) → pow ops (elem z) (digit (digits l) j (get_or es k 0 / l.size)) ⊗ elem p
          ≡ pow ops (pow ops root (order - k % l.size)) (get_or es k 0 / l.size * digits l + digit (digits l) j (get_or es k 0 / l.size))
      power j =
          ap₂ ◌⊗◌ (ap (λ y. pow ops y (digit (digits l) j (get_or es k 0 / l.size))) (ap elem ez ∙ elem_root_power W (order - k % l.size)))
          (ap elem ep ∙ elem_root_power W ((order - k % l.size) * (get_or es k 0 / l.size * s)) ∙ pow_mul ops laws root (order - k % l.size) (get_or es k 0 / l.size * s))
          ∙ mul_comm ops laws _ _ ∙ sym (pow_add ops laws (pow ops root (order - k % l.size)) (get_or es k 0 / l.size * s) (digit (digits l) j (get_or es k 0 / l.size)))
          ∙ ap (λ b. pow ops (pow ops root (order - k % l.size)) (get_or es k 0 / l.size * b + digit (digits l) j (get_or es k 0 / l.size))) es'

  pub rows_more : (w first : ℕ) (es : List ℕ) (n : ℕ) (was is new : List ℕ) → Lowered f l w first es n was is → RowLowered f l w first es n is new → Lowered f l w first es (n + 1) was new
  rows_more w first es n was is new g r = record {
    at = λ k j h b. go k j h b (ℕ_discrete k n);
    rest = λ k j h b. r.others k j b (λ e. omega arith) ∙ g.rest k j (omega arith) b;
  }
    where
      go : (k j : ℕ) → k < n + 1 → j < w → Dec (k ≡ n) → cell f w new k j ≡ cell f w was k j ⊗ lowering f l (first + j) (get_or es k 0) (k % l.size)
      go k j h b (yes e) =
          subst (λ x. cell f w new x j ≡ cell f w was x j ⊗ lowering f l (first + j) (get_or es x 0) (x % l.size)) (sym e)
          (r.here j b ∙ ap (λ y. y ⊗ lowering f l (first + j) (get_or es n 0) (n % l.size)) (g.rest n j (omega arith) b))
      go k j h b (no d) = r.others k j b d ∙ g.at k j (omega arith) b
