-- The starred lines hold, all by computation from the definitions.
-- Assumes nothing.
use mathlib.Core.Path.{◌≡◌, refl, sym, ◌∙◌, subst}
use mathlib.Core.Bool.{Bool, true, ◌&&◌}
use mathlib.Core.List.{List, [], ◌∷◌, ◌++◌}
use Prim.Native.Nat.{ℕ, ◌*◌}
use borrow.Author.Tests.{eqb-true, ltb-true}
use lib.Dec.{eqb, ltb}
use lib.IntN.{ℤ}
use lib.ListN.{length, get_or}
use Rattle.algebra.specs.Below.{below}
use Rattle.lists.specs.Lists.{all, all_below, table}
use Rattle.lists.proofs.Bools.{both, all_holds}
use Rattle.algebra.specs.Field.{Ops}
use Rattle.algebra.specs.Coding.{InRange}
use Rattle.algebra.specs.Sum.{sum, pow}
use Rattle.algebra.specs.Erasure.{choose}
use Rattle.algebra.specs.Lagrange.{check}
use Rattle.algebra.specs.Points.{tray_point, point, place}
use Rattle.algebra.specs.Layers.{digit, group_of}
use Rattle.algebra.specs.Cabinet.{layer_point, group_sum}
use Rattle.symbol.specs.Arithmetic.{◌⊕◌, ◌⊗◌, shift_add, mulz}
use Rattle.symbol.specs.Elem.{Elem, elem, ops, gf256, coding}
use Rattle.algebra.proofs.Below.{elem_path}
use Rattle.symbol.proofs.Elem.{val_zero}
use Rattle.symbol.proofs.Working.{working}
use Rattle.layout.specs.declared.Layout.{Layout}
use Rattle.layout.specs.Layout.{trays, checks, layers, admissible, lost_count_fits, size_allowed, measured}
use Rattle.layout.proofs.Facts.{admissible_facts}
use Rattle.range.specs.Range.{symbols_from}
use Rattle.codeword.specs.Codeword.{symbol_at, point_at, check_at, Codeword}
use Rattle.rule.specs.Rule.{weighted_sum, share_symbol}
use Rattle.share.specs.Many.{shares_refusal, shares_of}
use Rattle.store.specs.Store.{Begins, Stores, store_refusal}
use Rattle.store.proofs.Trays.{store_exists}
use Rattle.margin.specs.Margin.{live, margin_of, margin_refusal}
use Rattle.bench_book.specs.Table.{AllHold, bench_book, cabinet, tray0, tray1, tray2}

-- the test that c is what storing the data gives: an admissible layout, the lengths, bytes, checks that are zero, and the data in front
unfoldable is_stored : Layout → List ℕ → List ℕ → Bool
is_stored l given c =
    admissible gf256.order l
    && eqb (length given) (l.dimension * layers l)
    && eqb (length c) (trays l * layers l)
    && all (λ i. ltb (get_or given i 0) 256) (length given)
    && all (λ i. ltb (get_or c i 0) 256) (length c)
    && all (λ j. all (λ t. eqb (check_at gf256 l c j t).val 0) (checks l)) (layers l)
    && all (λ i. eqb (get_or c i 0) (get_or given i 0)) (length given)

bytes : (xs : List ℕ) → all (λ i. ltb (get_or xs i 0) 256) (length xs) ≡ true → InRange coding xs
bytes xs h = record { at = λ i k. ltb-true _ _ (all_holds (λ i. ltb (get_or xs i 0) 256) (length xs) h i k) }

module _ (l : Layout) (given c : List ℕ) where
  -- a list that passes is the one codeword
  is_stored_lem : is_stored l given c ≡ true → Stores gf256 l given c
  unfolding is_stored
  is_stored_lem h =
      let p6 = both _ (all (λ i. eqb (get_or c i 0) (get_or given i 0)) (length given)) h in
      let p5 = both _ (all (λ j. all (λ t. eqb (check_at gf256 l c j t).val 0) (checks l)) (layers l)) p6.0 in
      let p4 = both _ (all (λ i. ltb (get_or c i 0) 256) (length c)) p5.0 in
      let p3 = both _ (all (λ i. ltb (get_or given i 0) 256) (length given)) p4.0 in
      let p2 = both _ (eqb (length c) (trays l * layers l)) p3.0 in
      let p1 = both (admissible gf256.order l) (eqb (length given) (l.dimension * layers l)) p2.0 in
      let w = store_exists working l (admissible_facts gf256.order l p1.0) given (eqb-true _ _ p1.1) (bytes given p3.1) in
      let word : Codeword gf256 l c = record {
        long = eqb-true _ _ p2.1;
        symbols = bytes c p4.1;
        holds = λ j hj t ht. elem_path (check_at gf256 l c j t) ops.zero
            (eqb-true _ _ (all_holds (λ t. eqb (check_at gf256 l c j t).val 0) (checks l)
            (all_holds (λ j. all (λ t. eqb (check_at gf256 l c j t).val 0) (checks l)) (layers l) p5.1 j hj) t ht) ∙ sym val_zero);
      } in
      let front : Begins given c = record { at = λ i hi. eqb-true _ _ (all_holds (λ i. eqb (get_or c i 0) (get_or given i 0)) (length given) p6.1 i hi) } in
      subst (Stores gf256 l given) (sym (w.1.only c word front)) w.1

stored : (is_stored (cabinet 2 1 1 1) (0xA7 ∷ []) (0xA7 ∷ 0xA7 ∷ []) ≡ true) × (is_stored (cabinet 3 1 1 2) tray0 (tray0 ++ tray1 ++ tray2) ≡ true)
unfolding is_stored admissible size_allowed all check_at check point_at layer_point tray_point point digit symbol_at sum pow ops below ◌⊕◌ ◌⊗◌ shift_add mulz
stored = (refl, refl)

-- THE BENCH BOOK
pub worked_examples : AllHold bench_book
unfolding measured admissible size_allowed store_refusal symbols_from shares_refusal lost_count_fits shares_of table share_symbol group_sum group_of weighted_sum place symbol_at
    choose sum pow ops below ◌⊕◌ ◌⊗◌ shift_add mulz margin_refusal margin_of live all_below all
worked_examples = (
  refl,
  (
    refl,
    (
      refl,
      (
        refl,
        (
          refl,
          (
            refl,
            (
              refl,
              (
                refl,
                (
                  refl,
                  (
                    refl,
                    (
                      refl,
                      (
                        refl,
                        (
                          (refl, is_stored_lem _ _ _ stored.0),
                          ((refl, is_stored_lem _ _ _ stored.1), ((refl, refl), ((refl, refl), (refl, ((refl, refl), ((refl, refl), ((refl, refl), ((refl, refl), tt)))))))),
                        ),
                      ),
                    ),
                  ),
                ),
              ),
            ),
          ),
        ),
      ),
    ),
  ),
)
