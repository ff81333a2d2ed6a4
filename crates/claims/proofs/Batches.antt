-- Many codewords a call: storing, shares and repair. Over any field.
-- Assumes nothing.
use mathlib.Core.Path.{◌≡◌, refl, sym, ap, ◌∙◌}
use mathlib.Core.List.{List}
use Prim.Native.Nat.{ℕ}
use Rattle.algebra.specs.Shape.{Field}
use Rattle.algebra.specs.Plain.{Working}
use Rattle.layout.specs.declared.Layout.{Layout}
use Rattle.layout.proofs.Facts.{with_facts}
use Rattle.repair.specs.declared.Repaired.{Repaired}
use Rattle.repair.specs.declared.Repaired.TheVariants.{Done, Refused}
use Rattle.repair.specs.declared.RepairNumbers.{RepairNumbers}
use Rattle.repair.specs.Repair.{report}
use Rattle.batch_store.proofs.Claims.{batch_store_claims}
use Rattle.batch_share.proofs.Single.{one_codeword as one-share, each_codeword, share_unique}
use Rattle.batch_repair.specs.RepairBatch.{repair_batch_refusal, RepairBatchAnswer}
use Rattle.batch_repair.proofs.Single.{one_codeword as one-repair, repaired_batch_unique}
use Rattle.batch_repair.proofs.Cutting.{cutting_batch}
use lib.ListN.{length}
use Rattle.claims.specs.Words.{Refuses}
use Rattle.claims.specs.Batches.{BatchStoring, BatchRepairs}

pub batch_storing : {A : Type 0} {f : Field A} (W : Working f) (l : Layout) → BatchStoring f l
batch_storing W l =
    let C = batch_store_claims W in
    record {
      store_grounds = λ m given c d n a. (a.answer, λ r. a.unchanged (λ z. r (sym a.answer ∙ z)));
      store_each = C.0;
      store_settled = C.1;
      store_one = C.2;
    }

module _ {A : Type 0} (f : Field A) (l : Layout) (many x : ℕ) (helpers shares host : List ℕ) (first budget : ℕ) (old new : List ℕ) where
  abbrev reason : ℕ
  reason = repair_batch_refusal f l many x helpers shares host (length old) first budget

  abbrev no_groups : ℕ → RepairNumbers
  no_groups n = record { refusal = n; groups = 0; crossed = 0; remaining = 0 }

  repair_grounds : (r : Repaired) → RepairBatchAnswer f l many x helpers shares host first budget old new r →
      (Refuses reason → report r ≡ no_groups reason) × (Refuses (report r).refusal → new ≡ old)
  repair_grounds (Done g c t) a = (λ n. absurd (n a.accepted), λ n. absurd (n refl))
  repair_grounds (Refused e) a = (λ n. ap no_groups a.0, λ n. a.2)

pub batch_repairs : {A : Type 0} {f : Field A} (W : Working f) (l : Layout) → BatchRepairs f l
batch_repairs {f = f} W l = record {
  share_grounds = λ many host helper rack old new n a. (a.answer, λ k. a.unchanged (λ z. k (sym a.answer ∙ z)));
  repair_grounds = repair_grounds f l;
  share_each = λ many host helper rack old new a. each_codeword f l many host helper rack old new a;
  share_one = λ host helper rack old new n a. one-share f l host helper rack old new n a;
  repair_one = λ x helpers shares host first budget old new r a. one-repair W l x helpers shares host first budget old new r a;
  share_decided = λ many host helper rack old new new' n n' a b. share_unique f l many host helper rack old new new' n n' a b;
  repair_decided = λ many x helpers shares host first budget old new new' a b p q. repaired_batch_unique W l many x helpers shares host first budget old new new' a b p q;
  repair_handed = λ many x helpers shares host first budget old new n s new' r a.
      let w = repaired_batch_unique W l many x helpers shares host first budget old new new' s.answer r s.right a in
      (s.shown ∙ ap report w.0, w.1);
  cutting = λ adm many x helpers shares host help start calls. cutting_batch W l (with_facts f.order 0 l adm) many x helpers shares host help start calls;
}
