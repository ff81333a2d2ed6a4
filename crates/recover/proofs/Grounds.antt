-- The grounds for refusing a recovery, one after the other.
-- Assumes nothing.
use mathlib.Core.Path.{◌≡◌, sym, ap, ◌∙◌}
use mathlib.Core.Bool.{Bool, true, false, cond, not, ◌&&◌, false≢true}
use mathlib.Core.List.{List}
use Prim.Native.Nat.{ℕ, ◌+◌, ◌*◌, ◌<◌, ◌≤◌}
use native.Mathlib.Omega.{arith}
use borrow.Author.Tests.{eq-eqb, eqb-true, le-leb, leb-true, not-true}
use lib.Dec.{eqb, leb}
use lib.ListN.{length}
use Rattle.lists.specs.Lists.{absent, all_below, strictly_rising}
use Rattle.lists.proofs.Bools.{passed, both, all_holds, all_true, all_false}
use Rattle.algebra.specs.Shape.{Field}
use Rattle.algebra.specs.Plain.{Working}
use Rattle.layout.specs.declared.Layout.{Layout}
use Rattle.layout.specs.Layout.{trays, checks, layers, admissible, Admissible}
use Rattle.layout.proofs.Facts.{admissible_facts}
use Rattle.kernel.proofs.Rows.{row_before}
use Rattle.range.specs.Range.{symbols_from}
use Rattle.recover.specs.Recover.{kept_symbols, recover_refusal}
use Rattle.recover.specs.Inner.{kept_tray}
use Rattle.syndrome.specs.Inner.{Listed}
use Rattle.recover.proofs.Restored.{list_listed}

-- ---- the symbols of the trays that are not listed
pub tray_in : (l : Layout) (c : List ℕ) (x n total : ℕ) → n ≡ trays l → total ≡ layers l → x < n → length c ≡ trays l * layers l → x * total + total ≤ length c
tray_in l c x n total e t h k = rw (t, k) (row_before x (trays l) (layers l) (omega arith))

module _ {A : Type 0} (f : Field A) (l : Layout) (es c : List ℕ) where
  pub kept_false : (x n total : ℕ) (r : Bool) → n ≡ trays l → total ≡ layers l → x < n → r ≡ kept_tray f es c total x → not r ≡ true → false ≡ kept_symbols f l es c
  unfolding kept_symbols kept_tray
  kept_false x n total r e t h q m = all_false _ _ x (omega arith) (λ z. false≢true (sym (sym q ∙ not-true r m) ∙ ap (λ y. kept_tray f es c y x) t ∙ z))

  pub kept_true : (x n total : ℕ) → n ≡ trays l → total ≡ layers l → n ≤ x → ((i : ℕ) → i < x → kept_tray f es c total i ≡ true) → true ≡ kept_symbols f l es c
  unfolding kept_symbols kept_tray
  kept_true x n total e t h g = sym (all_true _ _ (λ i k. ap (λ y. kept_tray f es c y i) (sym t) ∙ g i (omega arith)))

  pub kept_all : kept_symbols f l es c ≡ true → (x : ℕ) → x < trays l → absent es x ≡ true → symbols_from f c (x * layers l) (layers l) ≡ true
  unfolding kept_symbols kept_tray
  kept_all t x h a =
      sym (ap (λ b. cond b (symbols_from f c (x * layers l) (layers l)) true) a)
      ∙ all_holds (λ x. cond (absent es x) (symbols_from f c (x * layers l) (layers l)) true) (trays l) t x h

module _ {A : Type 0} (f : Field A) (l : Layout) (es c : List ℕ) where
  pub ground_0 : admissible f.order l ≡ true → length c ≡ trays l * layers l → all_below es (trays l) ≡ true → kept_symbols f l es c ≡ true → strictly_rising es ≡ true → length es ≤ checks l → 0 ≡ recover_refusal f l es c
  unfolding recover_refusal
  ground_0 h e b y r k = simp (h, eq-eqb _ _ e, b, y, r, le-leb _ _ k)

-- what holds where there is no ground
pub record Recoverable {A : Type 0} (f : Field A) (l : Layout) (es c : List ℕ) : Type 0 where
  pub adm : Admissible f.order l
  pub long : length c ≡ trays l * layers l
  pub symbols : kept_symbols f l es c ≡ true
  pub listed : Listed l es

pub recoverable : {A : Type 0} {f : Field A} (W : Working f) (l : Layout) (es c : List ℕ) → recover_refusal f l es c ≡ 0 → Recoverable f l es c
unfolding recover_refusal
recoverable {f = f} W l es c h =
    let p1 = passed (admissible f.order l) 1 _ (omega arith) h in
    let p2 = passed (eqb (length c) (trays l * layers l)) 2 _ (omega arith) p1.1 in
    let p3 = passed (all_below es (trays l) && kept_symbols f l es c) 3 _ (omega arith) p2.1 in
    let q3 = both (all_below es (trays l)) (kept_symbols f l es c) p3.0 in
    let p4 = passed (strictly_rising es) 4 _ (omega arith) p3.1 in
    let p5 = passed (leb (length es) (checks l)) 5 _ (omega arith) p4.1 in
    record {
      adm = admissible_facts f.order l p1.0;
      long = eqb-true _ _ p2.0;
      symbols = q3.1;
      listed = list_listed l es q3.0 p4.0 (leb-true _ _ p5.0);
    }
