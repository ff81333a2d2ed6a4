-- The trays after the data are worked out from the data: over any field there is exactly one codeword that begins with given data.
-- Assumes nothing.
use mathlib.Core.Path.{◌≡◌, sym, ◌∙◌, subst}
use mathlib.Core.List.{List}
use Prim.Native.Nat.{ℕ, ◌+◌, ◌-◌, ◌*◌, ◌/◌, ◌%◌, ◌<◌, ◌≤◌}
use native.Mathlib.Nat.{zero-add, mod-lt, div-add-mod', div-lt_iff_lt-mul, le_of_eq, mul-le-mul_right}
use native.Mathlib.Decide.{dec_lt}
use native.Mathlib.Omega.{arith}
use lib.ListN.{length, take, replicate, get_or, get_or-eq_default}
use lib.Seq.{length-take-le}
use Rattle.lists.specs.Lists.{table}
use Rattle.lists.proofs.Numbers.{cell_in, cell_read}
use Rattle.lists.proofs.Tables.{table_length, table_at}
use Rattle.algebra.specs.Coding.{InRange}
use Rattle.algebra.specs.Shape.{Field}
use Rattle.algebra.specs.Plain.{Working}
use Rattle.kernel.specs.Inner.{Run, copied}
use Rattle.layout.specs.declared.Layout.{Layout}
use Rattle.layout.specs.Layout.{trays, checks, layers, tray_limit, Admissible}
use Rattle.layout.proofs.Facts.{dimension_in}
use Rattle.codeword.specs.Codeword.{Codeword, Usable}
use Rattle.codeword.proofs.Usable.{usable}
use Rattle.codeword.proofs.Buffers.{layers_pos}
use Rattle.recover.specs.Recover.{Survivors, Restores}
use Rattle.recover.specs.Inner.{Kept}
use Rattle.syndrome.specs.Inner.{Listed}
use Rattle.restore.specs.Inner.{LayerFits, Erasing, RestoredTo}
use Rattle.recover.proofs.Restored.{low_checks, restores, restores_exists, restored_range}
use Rattle.store.specs.Store.{Begins, Stores}
use Rattle.store.specs.Inner.{parity_trays, Writable}

-- ---- the list of the trays after the data
pub zeros_long : (n : ℕ) → n ≤ tray_limit → length (take n (replicate {A = ℕ} tray_limit 0)) ≡ n
zeros_long n h = length-take-le n (replicate tray_limit 0) h

module _ (l : Layout) where
  pub parity_long : length (parity_trays l) ≡ checks l
  parity_long = table_length (λ i. l.dimension + i) (checks l)

  at : (i : ℕ) → i < length (parity_trays l) → get_or (parity_trays l) i 0 ≡ l.dimension + i
  at i h = table_at (λ i. l.dimension + i) (checks l) i (subst (λ n. i < n) parity_long h)

  data_kept : (x : ℕ) → x < l.dimension → Kept (parity_trays l) x
  data_kept x h k b e = omega (arith, at k b, e)

  module _ (few : l.dimension ≤ trays l) where
    pub parity_listed : Listed l (parity_trays l)
    parity_listed = record {
      places = record {
        apart = λ j k hj hk e. omega (arith, at j hj, at k hk, e);
        inside = λ k h. omega (arith, at k h, parity_long, few);
      };
      few = le_of_eq parity_long;
    }

    kept_data : (x : ℕ) → x < trays l → Kept (parity_trays l) x → x < l.dimension
    kept_data x h w = go (dec_lt x l.dimension)
      where
        go : Dec (x < l.dimension) → x < l.dimension
        go (yes p) = p
        go (no p) =
            let b : x - l.dimension < length (parity_trays l) = omega (arith, parity_long, few) in
            let e : l.dimension + (x - l.dimension) ≡ x = omega arith in
            absurd (w (x - l.dimension) b (sym (at (x - l.dimension) b ∙ e)))

-- what `restore` is told
pub parity_told : (l : Layout) (total : ℕ) (c : List ℕ) → Writable l c → total ≡ layers l → Erasing l total (parity_trays l) c
parity_told l total c w e = record { adm = w.adm; total_is = e; long = w.long; listed = parity_listed l (dimension_in l w.adm) }

-- ---- over any field
module _ {A : Type 0} (f : Field A) (l : Layout) (ok : Usable f l) (few : l.dimension ≤ trays l) (given : List ℕ) (given_long : length given ≡ l.dimension * layers l) where
  -- with all r trays after the data to choose, every layer meets its checks
  fits : (c : List ℕ) (j : ℕ) → j < layers l → LayerFits f l (parity_trays l) c j
  fits c j h t b = low_checks f l ok (parity_trays l) c (parity_listed l few) j h t (subst (λ n. t < n) (sym (parity_long l)) b)

  module _ (c : List ℕ) (room : length c ≡ trays l * layers l) (front : Begins given c) where
    -- the one codeword that has the data's trays is the one that begins with the data
    begin : (d : List ℕ) → Restores f l (parity_trays l) c d → Stores f l given d
    begin d r = record { codeword = r.codeword; begins = record { at = λ i h. same i h ∙ front.at i h }; only = λ e w b. r.only e w (survives e w b) }
      where
        same : (i : ℕ) → i < length given → get_or d i 0 ≡ get_or c i 0
        same i h =
            let pos = layers_pos f l ok in
            let x : i / layers l < l.dimension = (div-lt_iff_lt-mul pos).1 (subst (λ n. i < n) given_long h) in
            subst (λ k. get_or d k 0 ≡ get_or c k 0) (div-add-mod' i (layers l))
            (r.survivors.same (i / layers l) (i % layers l) (omega (arith, x, few)) (mod-lt i pos) (data_kept l (i / layers l) x))

        survives : (e : List ℕ) → Codeword f l e → Begins given e → Survivors l (parity_trays l) c e
        survives e w b = record {
          long = w.long ∙ sym room;
          same = λ x j hx hj kept.
              let i : x * layers l + j < length given = subst (λ n. x * layers l + j < n) (sym given_long) (cell_in l.dimension (layers l) x j (kept_data l few x hx kept) hj) in
              b.at (x * layers l + j) i ∙ sym (front.at (x * layers l + j) i);
        }

  -- there is exactly one codeword that begins with the data
  pub one_codeword : InRange f.coding given → (d : List ℕ) × Stores f l given d
  one_codeword range =
      let d = restores_exists f l ok (parity_trays l) padded (parity_listed l few) long (λ x j hx hj kept. within _ (cell_read padded _ _ x j long hx hj)) (fits padded) in
      (d.0, begin padded long (record { at = λ i h. table_at number (trays l * layers l) i (omega (arith, given_long, mul-le-mul_right (layers l) few, h)) }) d.0 d.1)
    where
      -- the data, and zeros after it
      number : ℕ → ℕ
      number i = get_or given i 0

      padded : List ℕ
      padded = table number (trays l * layers l)

      long : length padded ≡ trays l * layers l
      long = table_length number (trays l * layers l)

      some : {a b : ℕ} → a < b → 0 < b
      some h = omega arith

      byte : (i : ℕ) → Dec (i < length given) → number i < f.coding.size
      byte i (yes h) = range.at i h
      byte i (no h) = subst (λ n. n < f.coding.size) (sym (get_or-eq_default given 0 (omega arith))) (some (ok.field.coded.val_below f.ops.zero))

      within : (i : ℕ) → i < length padded → get_or padded i 0 < f.coding.size
      within i h = subst (λ n. n < f.coding.size) (sym (table_at number (trays l * layers l) i (subst (λ n. i < n) long h))) (byte i (dec_lt i (length given)))

-- the copy begins with the data
pub begins_of : (given was is : List ℕ) (n : ℕ) → n ≡ length given → Run (copied given 0) was is 0 n → Begins given is
unfolding copied
begins_of given was is n e r = record { at = λ i h. subst (λ k. get_or is k 0 ≡ get_or given k 0) (zero-add i) (r.done i (omega arith)) }

-- what the code leaves
module _ {A : Type 0} {f : Field A} (W : Working f) (l : Layout) (a : Admissible f.order l) (given : List ℕ) (given_long : length given ≡ l.dimension * layers l)
    (range : InRange f.coding given) where
  few : l.dimension ≤ trays l
  few = dimension_in l a.cabinet

  u : Usable f l
  u = usable W l a

  pub store_exists : (d : List ℕ) × Stores f l given d
  store_exists = one_codeword f l u few given given_long range

  module _ (c d : List ℕ) (room : length c ≡ trays l * layers l) (front : Begins given c) where
    -- the data's trays are in range, whatever the others held
    old : (x j : ℕ) → x < trays l → j < layers l → Kept (parity_trays l) x → get_or c (x * layers l + j) 0 < f.coding.size
    old x j hx hj kept =
        let i : x * layers l + j < length given = subst (λ n. x * layers l + j < n) (sym given_long) (cell_in l.dimension (layers l) x j (kept_data l few x hx kept) hj) in
        rw (front.at (x * layers l + j) i) (range.at (x * layers l + j) i)

    pub stores : RestoredTo f l (parity_trays l) c (layers l) d → Stores f l given d
    stores r =
        begin f l u few given given_long c room front d
        (restores f l u (parity_trays l) c (parity_listed l few) d room r.long (restored_range f l (parity_trays l) c d (layers_pos f l u) room r old)
        (λ x j hx hj. r.kept x j hj) r.done
        (fits f l u few given given_long c))
