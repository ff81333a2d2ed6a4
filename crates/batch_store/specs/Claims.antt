-- What is claimed of storing many codewords, over any field. Proved in proofs/Claims.antt.
-- Assumes nothing.
use Rattle.std.specs.Prelude.{◌≡◌, List, ℕ, ◌<◌}
use Rattle.algebra.specs.Shape.{Field}
use Rattle.layout.specs.declared.Layout.{Layout}
use Rattle.batch_parts.specs.Parts.{part}
use Rattle.store.specs.Store.{Stores, StoreAnswer}
use Rattle.batch_store.specs.Store.{BatchStoreAnswer}

module _ {A : Type 0} (f : Field A) where
  -- where it is done, each codeword is the one that begins with its own data
  abbrev pub BatchStores : Type 0
  BatchStores = (l : Layout) (m : ℕ) (given c d : List ℕ) (n : ℕ) → BatchStoreAnswer f l m given c d n → n ≡ 0 → (q : ℕ) → q < m → Stores f l (part m q given) (part m q d)

  -- the contract settles the answer and every symbol
  abbrev pub BatchStoreSettled : Type 0
  BatchStoreSettled = (l : Layout) (m : ℕ) (given c d d' : List ℕ) (n n' : ℕ) → BatchStoreAnswer f l m given c d n → BatchStoreAnswer f l m given c d' n' → (n ≡ n') × (d ≡ d')

  -- one codeword is stored as by the call for one
  abbrev pub BatchStoreOne : Type 0
  BatchStoreOne = (l : Layout) (given c d : List ℕ) (n : ℕ) → BatchStoreAnswer f l 1 given c d n → StoreAnswer f l given c d n

  abbrev pub BatchStoreClaims : Type 0
  BatchStoreClaims = BatchStores × BatchStoreSettled × BatchStoreOne
