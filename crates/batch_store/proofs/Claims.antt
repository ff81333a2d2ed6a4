-- What is claimed holds over any field that code works in.
-- Assumes nothing.
use mathlib.Core.Path.{◌≡◌, refl, sym, ◌∙◌, subst}
use mathlib.Core.List.{List}
use Prim.Native.Nat.{ℕ, ◌*◌}
use native.Mathlib.Nat.{mul-one}
use native.Mathlib.Decide.{ℕ_discrete}
use native.Mathlib.Omega.{arith}
use lib.ListN.{length}
use Rattle.algebra.specs.Shape.{Field}
use Rattle.algebra.specs.Plain.{Working}
use Rattle.layout.specs.declared.Layout.{Layout}
use Rattle.layout.specs.Layout.{trays, layers}
use Rattle.store.specs.Store.{store_refusal, Stores, StoreAnswer}
use Rattle.store.proofs.Settled.{answer_unique as single-unique}
use Rattle.batch_parts.specs.Parts.{part}
use Rattle.batch_parts.proofs.Parts.{parts_same, part_one}
use Rattle.batch_store.specs.Store.{batch_store_refusal, BatchStoreAnswer}
use Rattle.batch_store.specs.Claims.{BatchStoreClaims}
use Rattle.batch_store.proofs.Grounds.{storable}

refusal_one : {A : Type 0} (f : Field A) (l : Layout) (given : List ℕ) (room : ℕ) → batch_store_refusal f l 1 given room ≡ store_refusal f l given room
unfolding batch_store_refusal store_refusal
refusal_one f l given room = rw (mul-one (l.dimension * layers l), mul-one (trays l * layers l)) refl

module _ {A : Type 0} {f : Field A} (W : Working f) (l : Layout) where
  one : (given c d : List ℕ) (n : ℕ) → BatchStoreAnswer f l 1 given c d n → StoreAnswer f l given c d n
  one given c d n a = record {
    answer = a.answer ∙ refusal_one f l given (length c);
    unchanged = a.unchanged;
    done = λ z. subst (λ x. Stores f l given x) (part_one d) (subst (λ x. Stores f l x (part 1 0 d)) (part_one given) ((a.done z 0 (omega arith)).done refl));
  }

  module _ (m : ℕ) (given c d d' : List ℕ) (n n' : ℕ) (a : BatchStoreAnswer f l m given c d n) (b : BatchStoreAnswer f l m given c d' n') where
    numbers : n ≡ n'
    numbers = a.answer ∙ sym b.answer

    buffers : Dec (n ≡ 0) → d ≡ d'
    buffers (no z) = a.unchanged z ∙ sym (b.unchanged (λ e. z (numbers ∙ e)))
    buffers (yes z) =
        let s = storable W l m given (length c) (sym a.answer ∙ z) in
        parts_same m (trays l * layers l) d d' (a.long ∙ s.room_long) (b.long ∙ s.room_long)
        (λ q h. (single-unique f l (part m q given) (part m q c) (part m q d) (part m q d') 0 0 (a.done z q h) (b.done (sym numbers ∙ z) q h)).1)

    settled : (n ≡ n') × (d ≡ d')
    settled = (numbers, buffers (ℕ_discrete n 0))

pub batch_store_claims : {A : Type 0} {f : Field A} → Working f → BatchStoreClaims f
batch_store_claims W = (
  (λ l m given c d n a z q h. (a.done z q h).done refl),
  (λ l m given c d d' n n' a b. settled W l m given c d d' n n' a b),
  λ l given c d n a. one W l given c d n a,
)
