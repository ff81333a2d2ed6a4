-- The grounds for refusing to store, and the answers.
-- Assumes nothing.
use mathlib.Core.Path.{◌≡◌, refl, sym, subst}
use mathlib.Core.Bool.{true, ◌&&◌}
use mathlib.Core.List.{List}
use Prim.Native.Nat.{ℕ, ◌*◌, ◌<◌, ◌≤◌}
use native.Mathlib.Nat.{zero-add, mul-le-mul_right}
use native.Mathlib.Omega.{arith}
use borrow.Author.Tests.{eq-eqb, eqb-true}
use lib.Dec.{eqb}
use lib.ListN.{length, get_or}
use Rattle.lists.proofs.Bools.{both, passed}
use Rattle.algebra.specs.Coding.{InRange}
use Rattle.algebra.specs.Shape.{Field}
use Rattle.algebra.specs.Plain.{Working}
use Rattle.layout.specs.declared.Layout.{Layout}
use Rattle.layout.specs.Layout.{trays, layers, admissible, Admissible}
use Rattle.layout.proofs.Facts.{admissible_facts, dimension_in}
use Rattle.range.specs.Range.{symbols_from}
use Rattle.range.proofs.Symbols.{symbols_all}
use Rattle.store.specs.Store.{store_refusal, Stores, StoreAnswer}

module _ {A : Type 0} (f : Field A) (l : Layout) (given : List ℕ) (room : ℕ) where
  pub ground_0 : admissible f.order l ≡ true → length given ≡ l.dimension * layers l → room ≡ trays l * layers l → symbols_from f given 0 (length given) ≡ true → 0 ≡ store_refusal f l given room
  unfolding store_refusal
  ground_0 h p q k = simp (h, eq-eqb _ _ p, eq-eqb _ _ q, k)

-- what holds where there is no ground
pub record Storable {A : Type 0} (f : Field A) (l : Layout) (given : List ℕ) (room : ℕ) : Type 0 where
  pub adm : Admissible f.order l
  pub given_long : length given ≡ l.dimension * layers l
  pub room_long : room ≡ trays l * layers l
  pub fits : length given ≤ room
  pub symbols : InRange f.coding given

module _ {A : Type 0} {f : Field A} (W : Working f) where
  pub storable : (l : Layout) (given : List ℕ) (room : ℕ) → store_refusal f l given room ≡ 0 → Storable f l given room
  unfolding store_refusal
  storable l given room h =
      let p1 = passed (admissible f.order l) 1 _ (omega arith) h in
      let p2 = passed (eqb (length given) (l.dimension * layers l) && eqb room (trays l * layers l)) 2 _ (omega arith) p1.1 in
      let p3 = passed (symbols_from f given 0 (length given)) 3 _ (omega arith) p2.1 in
      let q = both (eqb (length given) (l.dimension * layers l)) (eqb room (trays l * layers l)) p2.0 in
      let a = admissible_facts f.order l p1.0 in
      let e : length given ≡ l.dimension * layers l = eqb-true _ _ q.0 in
      let g : room ≡ trays l * layers l = eqb-true _ _ q.1 in
      record {
        adm = a;
        given_long = e;
        room_long = g;
        fits = omega (arith, e, g, mul-le-mul_right (layers l) (dimension_in l a.cabinet));
        symbols = record { at = λ i k. subst (λ n. get_or given n 0 < f.coding.size) (zero-add i) (symbols_all f given 0 (length given) p3.0 i k) };
      }

  module _ (l : Layout) (given c : List ℕ) where
    pub answer_refused : (r : ℕ) → r ≡ store_refusal f l given (length c) → (r ≡ 0 → ⊥) → StoreAnswer f l given c c r
    answer_refused r e n = record { answer = e; unchanged = λ q. refl; done = λ q. absurd (n q) }

    pub answer_done : (d : List ℕ) → store_refusal f l given (length c) ≡ 0 → Stores f l given d → StoreAnswer f l given c d 0
    answer_done d e w = record { answer = sym e; unchanged = λ q. absurd (q refl); done = λ q. w }
