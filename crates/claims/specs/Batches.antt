-- MANY CODEWORDS A CALL, over any field f: storing, shares and repair. A batch is `many` codewords of one layout, interleaved; `part` is the one of them that is numbered q (crate
-- batch_parts). What a call leaves in each part is what the call of one codeword leaves, in that call's own definitions.
-- Assumes nothing.
use Rattle.std.specs.Prelude.{◌≡◌, true, List, [], ◌∷◌, ℕ, ◌<◌, length}
use Rattle.algebra.specs.Shape.{Field}
use Rattle.layout.specs.declared.Layout.{Layout}
use Rattle.layout.specs.Layout.{admissible_with}
use Rattle.rule.specs.Rule.{Helpers}
use Rattle.share.specs.One.{share_refusal, share_buffer}
use Rattle.repair.specs.declared.Repaired.{Repaired}
use Rattle.repair.specs.declared.RepairNumbers.{RepairNumbers}
use Rattle.repair.specs.Repair.{report, RepairAnswer}
use Rattle.batch_parts.specs.Parts.{part}
use Rattle.batch_store.specs.Store.{batch_store_refusal, BatchStoreAnswer}
use Rattle.batch_store.specs.Claims.{BatchStores, BatchStoreSettled, BatchStoreOne}
use Rattle.batch_share.specs.ShareBatch.{share_batch_refusal, ShareBatchAnswer}
use Rattle.batch_repair.specs.RepairBatch.{repair_batch_refusal, RepairBatchAnswer}
use Rattle.batch_repair.specs.BatchCalls.{BatchCalls, CutBatch}
use Rattle.gesarumbo.specs.Boundary.{Shown}
use Rattle.claims.specs.Words.{Refuses, Grounded}

-- What is claimed of storing is spelled out in batch_store/specs/Claims.antt.
pub record BatchStoring {A : Type 0} (f : Field A) (l : Layout) : Type 0 where
  -- the answer is the first ground that applies, and a refusal changes nothing that was lent
  pub store_grounds : (m : ℕ) (given c d : List ℕ) (n : ℕ) → BatchStoreAnswer f l m given c d n → Grounded (batch_store_refusal f l m given (length c)) n c d
  -- each codeword is the one that begins with its own data; no contract allows two answers; one codeword is stored as by the call for one
  pub store_each : BatchStores f
  pub store_settled : BatchStoreSettled f
  pub store_one : BatchStoreOne f

pub record BatchRepairs {A : Type 0} (f : Field A) (l : Layout) : Type 0 where
  -- the first ground that applies, and a refusal changes nothing that was lent
  pub share_grounds : (many host helper : ℕ) (rack old new : List ℕ) (n : ℕ) → ShareBatchAnswer f l many host helper rack old new n →
      Grounded (share_batch_refusal f l many host helper rack (length old)) n old new
  pub repair_grounds : (many x : ℕ) (helpers shares host : List ℕ) (first budget : ℕ) (old new : List ℕ) (r : Repaired) →
      RepairBatchAnswer f l many x helpers shares host first budget old new r →
      let reason = repair_batch_refusal f l many x helpers shares host (length old) first budget in
      (Refuses reason → report r ≡ record { refusal = reason; groups = 0; crossed = 0; remaining = 0 }) × (Refuses (report r).refusal → new ≡ old)
  -- each codeword's share is what document 01's call leaves of its rack and its room
  pub share_each : (many host helper : ℕ) (rack old new : List ℕ) → ShareBatchAnswer f l many host helper rack old new 0 → (q : ℕ) → q < many →
      (share_refusal f l host helper (part many q rack) (length (part many q old)) ≡ 0) × (part many q new ≡ share_buffer f l host helper (part many q rack) (part many q old))
  -- with one codeword the calls are those of document 01
  pub share_one : (host helper : ℕ) (rack old new : List ℕ) (n : ℕ) → ShareBatchAnswer f l 1 host helper rack old new n →
      (n ≡ share_refusal f l host helper rack (length old)) × (new ≡ share_buffer f l host helper rack old)
  pub repair_one : (x : ℕ) (helpers shares host : List ℕ) (first budget : ℕ) (old new : List ℕ) (r : Repaired) → RepairBatchAnswer f l 1 x helpers shares host first budget old new r →
      RepairAnswer f l (x ∷ []) helpers shares host first budget old new r
  -- the contracts decide every answer and symbol
  pub share_decided : (many host helper : ℕ) (rack old new new' : List ℕ) (n n' : ℕ) → ShareBatchAnswer f l many host helper rack old new n →
      ShareBatchAnswer f l many host helper rack old new' n' → (n ≡ n') × (new ≡ new')
  pub repair_decided : (many x : ℕ) (helpers shares host : List ℕ) (first budget : ℕ) (old new new' : List ℕ) (a b : Repaired) →
      RepairBatchAnswer f l many x helpers shares host first budget old new a → RepairBatchAnswer f l many x helpers shares host first budget old new' b → (a ≡ b) × (new ≡ new')
  -- the numbers that C is handed are those of the one answer that the contract allows
  pub repair_handed : (many x : ℕ) (helpers shares host : List ℕ) (first budget : ℕ) (old new : List ℕ) (n : RepairNumbers) →
      Shown (RepairBatchAnswer f l many x helpers shares host first budget old new) report n →
      (new' : List ℕ) (r : Repaired) → RepairBatchAnswer f l many x helpers shares host first budget old new' r → (n ≡ report r) × (new ≡ new')
  -- "A repair may be cut. Take any list of its pieces, refused ones included": the claim of one codeword holds for each, and what has crossed and what is still to come add up to
  -- d·L/s symbols for each codeword
  pub cutting : admissible_with f.order 0 l ≡ true → (many x : ℕ) (helpers shares host : List ℕ) → Helpers l x helpers → (start : List ℕ) {G crossed to_come : ℕ} {spare : List ℕ} →
      BatchCalls f l many x helpers shares host start G crossed to_come spare → CutBatch f l many x helpers shares host start G crossed to_come spare
