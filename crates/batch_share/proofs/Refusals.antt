-- What holds where no ground for refusing applies.
-- Assumes nothing.
use mathlib.Core.Path.{◌≡◌, ◌∙◌}
use mathlib.Core.Bool.{◌&&◌}
use mathlib.Core.List.{List}
use Prim.Native.Nat.{ℕ, ◌*◌, ◌<◌}
use native.Mathlib.Omega.{arith}
use lib.Dec.{eqb, ltb}
use lib.ListN.{length}
use borrow.Author.Tests.{eqb-true, ltb-true}
use Rattle.lists.proofs.Bools.{both, passed}
use Rattle.algebra.specs.Shape.{Field}
use Rattle.layout.specs.declared.Layout.{Layout}
use Rattle.layout.specs.Layout.{layers, groups, admissible}
use Rattle.layout.proofs.Facts.{admissible_facts}
use Rattle.range.specs.Range.{symbols_from}
use Rattle.share.proofs.Refusals.{symbols_range}
use Rattle.batch_share.specs.ShareBatch.{share_batch_refusal}
use Rattle.batch_share.specs.Inner.{Gathering}

module _ {A : Type 0} (f : Field A) (l : Layout) (many host helper : ℕ) (rack : List ℕ) (room : ℕ) where
  pub accepted : share_batch_refusal f l many host helper rack room ≡ 0 → 0 < many → (out : List ℕ) → length out ≡ room → Gathering f l host many rack out
  unfolding share_batch_refusal
  accepted h some out e =
      let p1 = passed (admissible f.order l) 1 _ (omega arith) h in
      let p2 = passed (eqb (length rack) (l.size * layers l * many) && eqb room (groups l * many)) 2 _ (omega arith) p1.1 in
      let p3 = passed (ltb host l.racks && ltb helper l.racks && symbols_from f rack 0 (length rack)) 3 _ (omega arith) p2.1 in
      let lengths = both _ _ p2.0 in
      let numbers = both _ _ p3.0 in
      record {
        adm = admissible_facts f.order l p1.0;
        some = some;
        long = eqb-true _ _ lengths.0;
        room = e ∙ eqb-true _ _ lengths.1;
        host_in = ltb-true _ _ (both _ _ numbers.0).0;
        given = symbols_range f rack numbers.1;
      }
