-- What storing many codewords leaves, and the answers.
-- Assumes nothing.
use mathlib.Core.Path.{◌≡◌, refl, sym, ◌∙◌, subst}
use mathlib.Core.Bool.{true}
use mathlib.Core.List.{List}
use Prim.Native.Nat.{ℕ, ◌+◌, ◌*◌, ◌<◌, ◌≤◌}
use native.Mathlib.Nat.{zero-add, mul-le-mul_right}
use native.Mathlib.Omega.{arith}
use borrow.Author.Tests.{lt-ltb}
use lib.ListN.{length, get_or}
use Rattle.lists.proofs.Bools.{all_true}
use Rattle.lists.proofs.Tables.{table_at}
use Rattle.algebra.specs.Coding.{InRange}
use Rattle.algebra.specs.Shape.{Field}
use Rattle.algebra.specs.Plain.{Working}
use Rattle.kernel.specs.Inner.{Run, copied}
use Rattle.layout.specs.declared.Layout.{Layout}
use Rattle.layout.specs.Layout.{trays, checks, layers}
use Rattle.layout.proofs.Facts.{facts_admissible, dimension_in}
use Rattle.range.specs.Range.{symbols_from}
use Rattle.store.specs.Store.{Begins, StoreAnswer}
use Rattle.store.specs.Inner.{parity_trays}
use Rattle.store.proofs.Trays.{parity_long, stores}
use Rattle.store.proofs.Answers.{ground_0 as single-0, answer_done as single-done}
use Rattle.batch_parts.specs.Parts.{part}
use Rattle.batch_parts.proofs.Parts.{part_long, part_at, part_range, part_place}
use Rattle.batch_restore.specs.Inner.{Restoring, Restored}
use Rattle.batch_store.specs.Store.{batch_store_refusal, BatchStoreAnswer}
use Rattle.batch_store.specs.Inner.{Writable}
use Rattle.batch_store.proofs.Grounds.{Storable, storable}

-- what is told to the function that works out the trays after the data
pub parity_told : (l : Layout) (m : ℕ) (c : List ℕ) → Writable l m c → Restoring l m (parity_trays l) c
parity_told l m c w = record {
  adm = w.adm;
  long = w.long;
  rising = record {
    up = λ i k h b. let p = at i (let e = parity_long l in omega arith) in let q = at k (let e = parity_long l in omega arith) in omega arith;
    inside = λ k h. let p = at k (let e = parity_long l in omega arith) in let e = parity_long l in let d = dimension_in l w.adm in omega arith;
  };
  few = let e = parity_long l in omega arith;
}
  where
    at : (i : ℕ) → i < checks l → get_or (parity_trays l) i 0 ≡ l.dimension + i
    at i h = table_at (λ i. l.dimension + i) (checks l) i h

-- the copy has the data in front
front_of : (given was is : List ℕ) → Run (copied given 0) was is 0 (length given) → (i : ℕ) → i < length given → get_or is i 0 ≡ get_or given i 0
unfolding copied
front_of given was is r i h = subst (λ k. get_or is k 0 ≡ get_or given k 0) (zero-add i) (r.done i h)

all_symbols : {A : Type 0} (f : Field A) (xs : List ℕ) → InRange f.coding xs → symbols_from f xs 0 (length xs) ≡ true
unfolding symbols_from
all_symbols f xs r = all_true _ _ (λ i h. lt-ltb _ _ (subst (λ k. get_or xs k 0 < f.coding.size) (sym (zero-add i)) (r.at i h)))

module _ {A : Type 0} {f : Field A} (W : Working f) (l : Layout) (m : ℕ) (given c : List ℕ) where
  pub answer_refused : (r : ℕ) → r ≡ batch_store_refusal f l m given (length c) → (r ≡ 0 → ⊥) → BatchStoreAnswer f l m given c c r
  answer_refused r e n = record { answer = e; unchanged = λ q. refl; long = refl; done = λ q. absurd (n q) }

  module _ (reason : ℕ) (eg : reason ≡ batch_store_refusal f l m given (length c)) (z : reason ≡ 0) where
    s : Storable f l m given (length c)
    s = storable W l m given (length c) (sym eg ∙ z)

    pub data_fits : length given ≤ length c
    data_fits = s.fits

    module _ (mid : List ℕ) (r : Run (copied given 0) c mid 0 (length given)) where
      mid_long : length mid ≡ trays l * layers l * m
      mid_long = r.long ∙ s.room_long

      pub writable : Writable l m mid
      writable = record { adm = s.adm.cabinet; long = mid_long }

      module _ (q : ℕ) (hq : q < m) (d : List ℕ) (b : Restored f l m (parity_trays l) mid d) where
        G-long : length (part m q given) ≡ l.dimension * layers l
        G-long = part_long m q hq given (l.dimension * layers l) s.given_long

        front : Begins (part m q given) (part m q mid)
        front = record {
          at = λ i h. let k : i < l.dimension * layers l = subst (λ n. i < n) G-long h in
              part_at m q hq mid (trays l * layers l) mid_long i (let y = mul-le-mul_right (layers l) (dimension_in l s.adm.cabinet) in omega arith)
              ∙ front_of given c mid r (i * m + q) (part_place m q hq given (l.dimension * layers l) s.given_long i k)
              ∙ sym (part_at m q hq given (l.dimension * layers l) s.given_long i k);
        }

        range : InRange f.coding (part m q given)
        range = part_range m q hq given (l.dimension * layers l) s.given_long f.coding s.symbols

        single : StoreAnswer f l (part m q given) (part m q c) (part m q d) 0
        single = single-done W l (part m q given) (part m q c) (part m q d)
            (sym (single-0 f l (part m q given) (length (part m q c)) (sym (facts_admissible f.order l s.adm)) G-long
            (part_long m q hq c (trays l * layers l) s.room_long) (all_symbols f (part m q given) range)))
            (stores W l s.adm (part m q given) G-long range (part m q mid) (part m q d) (part_long m q hq mid (trays l * layers l) mid_long) front (b.parts q hq))

      pub answer_done : (d : List ℕ) → Restored f l m (parity_trays l) mid d → BatchStoreAnswer f l m given c d 0
      answer_done d b = record {
        answer = sym (sym eg ∙ z);
        unchanged = λ q. absurd (q refl);
        long = b.long ∙ r.long;
        done = λ y q h. single q h d b;
      }
