-- One codeword's call: what a call of many leaves in each part, and that with one codeword it is the call of document 01. And the contract decides every answer.
-- Assumes nothing.
use mathlib.Core.Path.{◌≡◌, refl, sym, ap, ap₂, ◌∙◌}
use mathlib.Core.Bool.{true, not, ◌&&◌}
use mathlib.Core.List.{List}
use Prim.Native.Nat.{ℕ, ◌*◌, ◌<◌}
use native.Mathlib.Nat.{mul-one}
use native.Mathlib.Decide.{ℕ_discrete}
use native.Mathlib.Omega.{arith}
use lib.Dec.{eqb, ltb}
use lib.ListN.{length}
use borrow.Author.Tests.{eq-eqb, ne_eqb, eqb-true}
use Rattle.lists.specs.Lists.{unless}
use Rattle.lists.proofs.Bools.{both, passed}
use Rattle.algebra.specs.Shape.{Field}
use Rattle.layout.specs.declared.Layout.{Layout}
use Rattle.layout.specs.Layout.{layers, groups, admissible}
use Rattle.range.specs.Range.{symbols_from}
use Rattle.share.specs.Share.{share_of}
use Rattle.share.specs.One.{share_refusal, share_buffer}
use Rattle.share.proofs.Refusals.{symbols_in, symbols_range}
use Rattle.batch_parts.specs.Parts.{part}
use Rattle.batch_parts.proofs.Parts.{part_long, part_range, parts_same, part_one}
use Rattle.batch_share.specs.ShareBatch.{share_batch_refusal, ShareBatchAnswer}

module _ {A : Type 0} (f : Field A) (l : Layout) (many host helper : ℕ) (rack old : List ℕ) (none : share_batch_refusal f l many host helper rack (length old) ≡ 0) where
  -- the tests that were passed
  record Passed : Type 0 where
    admitted : admissible f.order l ≡ true
    long : length rack ≡ l.size * layers l * many
    room : length old ≡ groups l * many
    host_in : ltb host l.racks ≡ true
    helper_in : ltb helper l.racks ≡ true
    symbols : symbols_from f rack 0 (length rack) ≡ true
    other : not (eqb host helper) ≡ true

  passed_all : Passed
  unfolding share_batch_refusal
  passed_all =
      let p1 = passed (admissible f.order l) 1 _ (omega arith) none in
      let p2 = passed (eqb (length rack) (l.size * layers l * many) && eqb (length old) (groups l * many)) 2 _ (omega arith) p1.1 in
      let p3 = passed (ltb host l.racks && ltb helper l.racks && symbols_from f rack 0 (length rack)) 3 _ (omega arith) p2.1 in
      let p6 = passed (not (eqb host helper)) 6 0 (omega arith) p3.1 in
      let lengths = both (eqb (length rack) (l.size * layers l * many)) (eqb (length old) (groups l * many)) p2.0 in
      let all3 = both (ltb host l.racks && ltb helper l.racks) (symbols_from f rack 0 (length rack)) p3.0 in
      let racks = both (ltb host l.racks) (ltb helper l.racks) all3.0 in
      record {
        admitted = p1.0;
        long = eqb-true (length rack) (l.size * layers l * many) lengths.0;
        room = eqb-true (length old) (groups l * many) lengths.1;
        host_in = racks.0;
        helper_in = racks.1;
        symbols = all3.1;
        other = p6.0;
      }

  pub old_long : length old ≡ groups l * many
  old_long = passed_all.room

  -- each codeword's call is accepted
  pub part_accepted : (q : ℕ) → q < many → share_refusal f l host helper (part many q rack) (length (part many q old)) ≡ 0
  unfolding share_refusal
  part_accepted q hq =
      let p = passed_all in
      let one = eq-eqb (length (part many q rack)) (l.size * layers l) (part_long many q hq rack (l.size * layers l) p.long) in
      let two = eq-eqb (length (part many q old)) (groups l) (part_long many q hq old (groups l) p.room) in
      let three = symbols_in f (part many q rack) (part_range many q hq rack (l.size * layers l) p.long f.coding (symbols_range f rack p.symbols)).at in
      simp (p.admitted, one, two, p.host_in, p.helper_in, three, p.other)

module _ {A : Type 0} (f : Field A) (l : Layout) (host helper : ℕ) (rack old : List ℕ) where
  -- what document 01's call leaves where it is accepted, and where it is not
  accepted_buffer : share_refusal f l host helper rack (length old) ≡ 0 → share_of f l 0 host rack ≡ share_buffer f l host helper rack old
  unfolding share_buffer
  accepted_buffer e = sym (simp (eq-eqb _ _ e))

  refused_buffer : ¬ (share_refusal f l host helper rack (length old) ≡ 0) → old ≡ share_buffer f l host helper rack old
  unfolding share_buffer
  refused_buffer e = sym (simp (ne_eqb _ _ e))

  one_refusal : share_batch_refusal f l 1 host helper rack (length old) ≡ share_refusal f l host helper rack (length old)
  unfolding share_batch_refusal share_refusal
  one_refusal = ap₂ (λ a b. unless (admissible f.order l) 1 (unless (eqb (length rack) a && eqb (length old) b) 2
      (unless (ltb host l.racks && ltb helper l.racks && symbols_from f rack 0 (length rack)) 3 (unless (not (eqb host helper)) 6 0)))) (mul-one (l.size * layers l)) (mul-one (groups l))

  -- with one codeword it is document 01's call
  pub one_codeword : (new : List ℕ) (n : ℕ) → ShareBatchAnswer f l 1 host helper rack old new n →
      (n ≡ share_refusal f l host helper rack (length old)) × (new ≡ share_buffer f l host helper rack old)
  one_codeword new n a = (number, go (ℕ_discrete n 0))
    where
      number : n ≡ share_refusal f l host helper rack (length old)
      number = a.answer ∙ one_refusal

      go : Dec (n ≡ 0) → new ≡ share_buffer f l host helper rack old
      go (yes z) = sym (part_one new) ∙ a.done z 0 (omega arith) ∙ ap (share_of f l 0 host) (part_one rack) ∙ accepted_buffer (sym number ∙ z)
      go (no d) = a.unchanged d ∙ refused_buffer (λ z. d (number ∙ z))

module _ {A : Type 0} (f : Field A) (l : Layout) (many host helper : ℕ) (rack old : List ℕ) where
  -- each codeword's share is what document 01's call leaves
  pub each_codeword : (new : List ℕ) → ShareBatchAnswer f l many host helper rack old new 0 → (q : ℕ) → q < many →
      (share_refusal f l host helper (part many q rack) (length (part many q old)) ≡ 0) × (part many q new ≡ share_buffer f l host helper (part many q rack) (part many q old))
  each_codeword new a q hq =
      let none : share_batch_refusal f l many host helper rack (length old) ≡ 0 = sym a.answer in
      let e = part_accepted f l many host helper rack old none q hq in
      (e, a.done refl q hq ∙ accepted_buffer f l host helper (part many q rack) (part many q old) e)

  -- two answers to one call are the same, and so are the buffers they leave
  pub share_unique : (new new' : List ℕ) (n n' : ℕ) → ShareBatchAnswer f l many host helper rack old new n → ShareBatchAnswer f l many host helper rack old new' n' → (n ≡ n') × (new ≡ new')
  share_unique new new' n n' a b = (same, go (ℕ_discrete n 0))
    where
      same : n ≡ n'
      same = a.answer ∙ sym b.answer

      go : Dec (n ≡ 0) → new ≡ new'
      go (yes z) =
          let long = old_long f l many host helper rack old (sym a.answer ∙ z) in
          parts_same many (groups l) new new' (a.long ∙ long) (b.long ∙ long) (λ q hq. a.done z q hq ∙ sym (b.done (sym same ∙ z) q hq))
      go (no d) = a.unchanged d ∙ sym (b.unchanged (λ z. d (same ∙ z)))
