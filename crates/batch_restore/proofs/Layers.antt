-- Layers of many codewords, and what each codeword becomes.
-- Assumes nothing.
use mathlib.Core.Path.{◌≡◌, refl, sym, ap, ap₂, ◌∙◌, subst}
use mathlib.Core.List.{List}
use Prim.Native.Nat.{ℕ, ◌+◌, ◌*◌, ◌<◌, ◌≤◌}
use native.Mathlib.Nat.{add-mul, mul_assoc, mul-le-mul_right}
use native.Mathlib.Decide.{ℕ_discrete, dec_lt}
use native.Mathlib.Omega.{arith}
use mir.Val.{Fits}
use mir.Syntax.{w64}
use lib.ListN.{length, get_or, get_or-eq_default}
use Rattle.lists.proofs.Numbers.{cell_in, cell_same}
use Rattle.algebra.specs.Poly.{eval}
use Rattle.algebra.specs.Lagrange.{basis}
use Rattle.algebra.specs.Erasure.{fill, zeros, Places, Alike, erased, recover}
use Rattle.algebra.specs.Cabinet.{layer_point}
use Rattle.algebra.specs.Repair.{restored}
use Rattle.algebra.specs.Shape.{Field}
use Rattle.algebra.specs.Plain.{Working}
use Rattle.algebra.proofs.Erasure.{fill_at, fill_outside, fill_same, erased_congr}
use Rattle.algebra.proofs.Plain.{laws}
use Rattle.algebra.proofs.Ring.{mul_neg, zero_mul}
use Rattle.algebra.proofs.Sum.{sum_congr, sum_neg}
use Rattle.kernel.proofs.Rows.{row_before}
use Rattle.layout.specs.declared.Layout.{Layout}
use Rattle.layout.specs.Layout.{trays, layers, Cabinet}
use Rattle.codeword.specs.Codeword.{shape_of, symbol_at, point_at}
use Rattle.syndrome.specs.Inner.{entry_of}
use Rattle.restore.specs.Inner.{restored_at, erased_at, RestoredTo}
use Rattle.batch_parts.specs.Parts.{part}
use Rattle.batch_parts.proofs.Parts.{part_long, part_at}
use Rattle.batch_factors.proofs.Sums.{erased_sum}
use Rattle.batch_restore.specs.Inner.{lanes_of, Complement, Lists, Job, weight_of, LayerWeights, sum_at, Trays, Wide, BlockTo, LayerTo, BatchTo, Restored}

pub place_is : (x total i m q : ℕ) → (x * total + i) * m + q ≡ x * (total * m) + (i * m + q)
place_is x total i m q =
    let a = add-mul (x * total) i m in
    let b = mul_assoc x total m in
    omega arith

module _ (l : Layout) (total m : ℕ) (es ks c : List ℕ) (s : Job l total m es ks c) where
  size_is : trays l * layers l * m ≡ trays l * (total * m)
  size_is = mul_assoc (trays l) (layers l) m ∙ ap (λ (y : ℕ). trays l * (y * m)) (sym s.total_is)

  tray_in : (x : ℕ) → x < trays l → x * (total * m) + total * m ≤ length c
  tray_in x h = let a = row_before x (trays l) (total * m) h in let b = size_is in let e = s.long in omega arith

  pub job_trays : Trays es ks (total * m) c
  job_trays = record {
    outputs = record { inside = λ o h. tray_in (get_or es o 0) (s.lists.es_in o h); apart = s.lists.es_apart };
    inside = λ t h. tray_in (get_or ks t 0) (s.lists.ks_in t h);
    kept = s.lists.kept;
    some = s.lists.some;
    few = let a = s.lists.total in let b = s.lists.adm in omega arith;
  }

  pub job_wide : (wide : ℕ) (acc : List ℕ) → wide ≡ lanes_of (length es) → length acc ≡ 7680 → Wide es wide acc
  unfolding lanes_of
  job_wide wide acc ew ea = record { few = omega arith; room = let a = s.lists.total in let b = s.lists.adm in omega arith }

  pub job_column : (j : ℕ) → j < total → j * m + m ≤ total * m
  job_column j h = row_before j total m h

  pub job_gap_fits : Fits w64 (length c) → Fits w64 (total * m)
  job_gap_fits b = let a = tray_in (get_or ks 0 0) (s.lists.ks_in 0 s.lists.some) in omega arith

  pub job_first_fits : (j : ℕ) → j < total → Fits w64 (length c) → Fits w64 (j * m)
  job_first_fits j h b = let a = tray_in (get_or ks 0 0) (s.lists.ks_in 0 s.lists.some) in let d = row_before j total m h in omega arith

  pub job_few : length es ≤ 60
  job_few = let a = s.lists.total in let b = s.lists.adm in omega arith

  pub job_still : (d : List ℕ) → length d ≡ length c → Job l total m es ks d
  job_still d e = record { lists = s.lists; total_is = s.total_is; long = e ∙ s.long }

  pub job_lists : Lists l es ks
  job_lists = s.lists

  places : Places (entry_of es) (length es) (trays l)
  places = record { apart = s.lists.es_apart; inside = s.lists.es_in }

  module _ {A : Type 0} {f : Field A} (W : Working f) where
    open f use {ops}
    open f.coding use {elem, val}

    -- a symbol of codeword q
    symbol_is : (q x i : ℕ) → q < m → x < trays l → i < total → symbol_at f l (part m q c) x i ≡ elem (get_or c ((x * total + i) * m + q) 0)
    unfolding symbol_at
    symbol_is q x i hq hx hi =
        ap elem (part_at m q hq c (trays l * layers l) s.long (x * layers l + i) (cell_in (trays l) (layers l) x i hx (subst (λ (y : ℕ). i < y) s.total_is hi))
        ∙ ap (λ (y : ℕ). get_or c ((x * y + i) * m + q) 0) (sym s.total_is))

    module _ (complement : Complement f (trays l) es ks) (j : ℕ) (hj : j < total) (weight : ℕ → ℕ → A) (w : LayerWeights f l j es ks weight) where
      -- the sum over the known trays is the symbol that the checks determine
      solved : (o q : ℕ) → o < length es → q < m → sum_at f weight c ks (total * m) (j * m) o q ≡ erased_at f l es (part m q c) j o
      unfolding sum_at erased_at weight_of
      solved o q ho hq =
          sum_congr ops (length ks) _ _ (λ t ht. ap₂ ops.mul
          (ap (λ (y : ℕ). elem (get_or c y 0)) (sym (place_is (get_or ks t 0) total j m q)) ∙ sym (symbol_is q (get_or ks t 0) j hq (s.lists.ks_in t ht) hj)
          ∙ sym (fill_outside (entry_of es) (λ i. ops.zero) S (length es) (get_or ks t 0) (λ k hk. s.lists.kept t k ht hk)))
          (w.here t o ht ho))
          ∙ complement.sums G (λ k hk. ap (λ a. ops.mul a (ops.neg (E (get_or es k 0)))) (fill_at (entry_of es) (λ i. ops.zero) S (length es) (trays l) places k hk) ∙ zero_mul ops (laws W) _)
          ∙ sum_congr ops (trays l) _ _ (λ x hx. mul_neg ops (laws W) _ _)
          ∙ sum_neg ops (laws W) (trays l) (λ x. ops.mul (fill (entry_of es) (λ i. ops.zero) (length es) S x) (E x))
          ∙ sym (erased_sum ops (laws W) (point_at f l j) (trays l) (entry_of es) (length es) S o ho)
        where
          S : ℕ → A
          S y = symbol_at f l (part m q c) y j

          E : ℕ → A
          E x = eval ops (basis ops (λ i. point_at f l j (get_or es i 0)) o (length es)) (point_at f l j x)

          G : ℕ → A
          G x = ops.mul (fill (entry_of es) (λ i. ops.zero) (length es) S x) (ops.neg (E x))

      pub layer_done : (d : List ℕ) → BlockTo f weight es ks (total * m) (j * m) m c d → LayerTo f l total m es j c d
      layer_done d b = record {
        long = b.long;
        done = λ o q ho hq. ap (λ (y : ℕ). get_or d y 0) (place_is (get_or es o 0) total j m q) ∙ b.done o q ho hq ∙ ap val (solved o q ho hq);
        layers = λ x i q hi hq ne. moved x i q (λ o v ho hv e. ne (cell_same m i j q v hq hv (cell_same (total * m) x (get_or es o 0) (i * m + q) (j * m + v) (cell_in total m i q hi hq) (cell_in total m j v hj hv) e).1).0);
        kept = λ x i q hi hq k. moved x i q (λ o v ho hv e. k o ho (cell_same (total * m) x (get_or es o 0) (i * m + q) (j * m + v) (cell_in total m i q hi hq) (cell_in total m j v hj hv) e).0);
      }
        where
          moved : (x i q : ℕ) → ((o v : ℕ) → o < length es → v < m → ¬ (x * (total * m) + (i * m + q) ≡ get_or es o 0 * (total * m) + (j * m + v))) →
              get_or d ((x * total + i) * m + q) 0 ≡ get_or c ((x * total + i) * m + q) 0
          moved x i q n =
              ap (λ (y : ℕ). get_or d y 0) (place_is x total i m q) ∙ b.other (x * (total * m) + (i * m + q)) n ∙ ap (λ (y : ℕ). get_or c y 0) (sym (place_is x total i m q))

    pub batch_none : BatchTo f l total m es c 0 c
    batch_none = record { long = refl; done = λ o i q ho hi hq. absurd (omega arith); kept = λ x i q hi hq k. refl }

    pub batch_more : (j : ℕ) (is next : List ℕ) → j < total → BatchTo f l total m es c j is → LayerTo f l total m es j is next → BatchTo f l total m es c (j + 1) next
    unfolding erased_at symbol_at
    batch_more j is next hj b y = record {
      long = y.long ∙ b.long;
      done = λ o i q ho hi hq. go o i q ho hi hq (ℕ_discrete i j);
      kept = λ x i q hi hq k. y.kept x i q hi hq k ∙ b.kept x i q hi hq k;
    }
      where
        is_long : length is ≡ trays l * layers l * m
        is_long = b.long ∙ s.long

        alike : (q : ℕ) → q < m → Alike (entry_of es) (length es) (trays l) (λ x. elem (get_or (part m q is) (x * layers l + j) 0)) (λ x. elem (get_or (part m q c) (x * layers l + j) 0))
        alike q hq = record {
          at = λ x hx k.
              let i : x * layers l + j < trays l * layers l = cell_in (trays l) (layers l) x j hx (subst (λ (z : ℕ). j < z) s.total_is hj) in
              ap elem (part_at m q hq is (trays l * layers l) is_long (x * layers l + j) i
              ∙ subst (λ (z : ℕ). get_or is ((x * z + j) * m + q) 0 ≡ get_or c ((x * z + j) * m + q) 0) s.total_is (b.kept x j q hj hq k)
              ∙ sym (part_at m q hq c (trays l * layers l) s.long (x * layers l + j) i));
        }

        go : (o i q : ℕ) → o < length es → i < j + 1 → q < m → Dec (i ≡ j) →
            get_or next ((get_or es o 0 * total + i) * m + q) 0 ≡ val (erased ops (point_at f l i) (trays l) (entry_of es) (length es) (zeros ops) (λ x. elem (get_or (part m q c) (x * layers l + i) 0)) o)
        go o i q ho hi hq (yes e) =
            subst (λ (z : ℕ). get_or next ((get_or es o 0 * total + z) * m + q) 0 ≡
            val (erased ops (point_at f l z) (trays l) (entry_of es) (length es) (zeros ops) (λ x. elem (get_or (part m q c) (x * layers l + z) 0)) o)) (sym e)
            (y.done o q ho hq ∙ ap val (erased_congr ops (point_at f l j) (trays l) (entry_of es) (length es) places (zeros ops) (zeros ops) _ _ (λ t h. refl) (alike q hq) o))
        go o i q ho hi hq (no d) = y.layers (get_or es o 0) i q (omega arith) hq d ∙ b.done o i q ho (omega arith) hq

    pub batch_end : (j : ℕ) (is : List ℕ) → BatchTo f l total m es c j is → j ≤ total → total ≤ j → BatchTo f l total m es c total is
    batch_end j is b h k = let e : j ≡ total = omega arith in subst (λ (z : ℕ). BatchTo f l total m es c z is) e b

pub job_total : (l : Layout) (total m : ℕ) (es ks c : List ℕ) → Job l (layers l) m es ks c → total ≡ layers l → Job l total m es ks c
job_total l total m es ks c s e = record { lists = s.lists; total_is = e; long = s.long }

pub job_adm : (l : Layout) (total m : ℕ) (es ks c : List ℕ) → Job l total m es ks c → Cabinet l
job_adm l total m es ks c s = s.lists.adm

-- ---- every codeword
module _ {A : Type 0} {f : Field A} (W : Working f) (l : Layout) (m : ℕ) (es ks c d : List ℕ) (s : Job l (layers l) m es ks c) (b : BatchTo f l (layers l) m es c (layers l) d) where
  open f use {ops}
  open f.coding use {elem, val, size}

  d_long : length d ≡ trays l * layers l * m
  d_long = b.long ∙ s.long

  module _ (q : ℕ) (hq : q < m) where
    D-at : (x j : ℕ) → x < trays l → j < layers l → get_or (part m q d) (x * layers l + j) 0 ≡ get_or d ((x * layers l + j) * m + q) 0
    D-at x j hx hj = part_at m q hq d (trays l * layers l) d_long (x * layers l + j) (cell_in (trays l) (layers l) x j hx hj)

    solved_at : (k j : ℕ) → k < length es → j < layers l → get_or (part m q d) (get_or es k 0 * layers l + j) 0 ≡ val (erased_at f l es (part m q c) j k)
    solved_at k j hk hj = D-at (get_or es k 0) j (s.lists.es_in k hk) hj ∙ b.done k j q hk hj hq

    kept_at : (x j : ℕ) → j < layers l → ((k : ℕ) → k < length es → ¬ (x ≡ get_or es k 0)) → get_or (part m q d) (x * layers l + j) 0 ≡ get_or (part m q c) (x * layers l + j) 0
    kept_at x j hj w = go (dec_lt x (trays l))
      where
        go : Dec (x < trays l) → get_or (part m q d) (x * layers l + j) 0 ≡ get_or (part m q c) (x * layers l + j) 0
        go (yes h) = D-at x j h hj ∙ b.kept x j q hj hq w ∙ sym (part_at m q hq c (trays l * layers l) s.long (x * layers l + j) (cell_in (trays l) (layers l) x j h hj))
        go (no h) =
            let i : trays l * layers l ≤ x * layers l = mul-le-mul_right (layers l) (omega arith) in
            let p = part_long m q hq d (trays l * layers l) d_long in
            let r = part_long m q hq c (trays l * layers l) s.long in
            get_or-eq_default (part m q d) 0 (omega arith) ∙ sym (get_or-eq_default (part m q c) 0 (omega arith))

    whole : (x j : ℕ) → x < trays l → j < layers l → symbol_at f l (part m q d) x j ≡ restored_at f l es (part m q c) x j
    unfolding restored recover point_at erased_at symbol_at
    whole x j hx hj =
        fill_same (entry_of es) (erased ops (layer_point (shape_of f l) j) (trays l) (entry_of es) (length es) (zeros ops) (λ y. elem (get_or (part m q c) (y * layers l + j) 0)))
        (λ y. elem (get_or (part m q c) (y * layers l + j) 0)) (length es) (λ y. elem (get_or (part m q d) (y * layers l + j) 0)) x
        (λ k hk z. ap (λ (y : ℕ). elem (get_or (part m q d) (y * layers l + j) 0)) z ∙ ap elem (solved_at k j hk hj) ∙ W.field.coded.elem_val _)
        (λ w. ap elem (kept_at x j hj w))

    pub part_restored : RestoredTo f l es (part m q c) (layers l) (part m q d)
    part_restored = record {
      long = part_long m q hq d (trays l * layers l) d_long ∙ sym (part_long m q hq c (trays l * layers l) s.long);
      done = whole;
      small = λ k j hk hj. subst (λ (n : ℕ). n < size) (sym (solved_at k j hk hj)) (W.field.coded.val_below _);
      kept = kept_at;
      rest = λ x j hj i. absurd (omega arith);
    }

  pub all_restored : Restored f l m es c d
  all_restored = record { long = b.long; parts = part_restored }

pub batch_restored : {A : Type 0} {f : Field A} (W : Working f) (l : Layout) (total m : ℕ) (es ks c d : List ℕ) → total ≡ layers l → Job l (layers l) m es ks c → BatchTo f l total m es c total d →
    Restored f l m es c d
batch_restored {f = f} W l total m es ks c d e s b = all_restored W l m es ks c d s (subst (λ (y : ℕ). BatchTo f l y m es c y d) e b)
