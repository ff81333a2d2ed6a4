-- The numbers of a call in range, and a run all of whose layers are done, from the tests as the code makes them.
-- Assumes nothing.
use mathlib.Core.Path.{◌≡◌, sym, ap, subst}
use mathlib.Core.Bool.{Bool, true, false}
use Prim.Native.Nat.{ℕ, ◌+◌, ◌-◌, ◌/◌, ◌≤◌, ◌<◌}
use native.Mathlib.Decide.{ℕ_discrete}
use native.Mathlib.Omega.{arith}
use lib.Dec.{leb, ltb}
use borrow.Author.Tests.{lt-ltb, ltb-true, le-leb, leb-true, eq-eqb, ne_eqb}
use Rattle.lists.proofs.Bools.{both, not_true_false, all_holds, all_true}
use Rattle.layout.specs.declared.Layout.{Layout}
use Rattle.layout.specs.Layout.{layer_limit, trays, layers, groups, Cabinet}
use Rattle.layout.specs.Inner.{HasLayer}
use Rattle.layout.proofs.Facts.{bounds, rack_in}
use Rattle.rule.specs.Rule.{group_at}
use Rattle.reading.specs.Inner.{Asked, Readable, in_range, all_done, available}

module _ (l : Layout) (lost done tray first end : ℕ) where
  record InRange : Type 0 where
    lost_in : lost < trays l
    tray_in : tray < trays l
    done_in : done ≤ groups l
    rises : first ≤ end
    end_in : end ≤ layers l

  facts : in_range l lost done tray first end ≡ true → InRange
  unfolding in_range
  facts h =
      let h4 = both _ (leb end (layers l)) h in
      let h3 = both _ (leb first end) h4.0 in
      let h2 = both _ (leb done (groups l)) h3.0 in
      let h1 = both (ltb lost (trays l)) (ltb tray (trays l)) h2.0 in
      record {
        lost_in = ltb-true _ _ h1.0;
        tray_in = ltb-true _ _ h1.1;
        done_in = leb-true _ _ h2.1;
        rises = leb-true _ _ h3.1;
        end_in = leb-true _ _ h4.1;
      }

  pub range_facts : Cabinet l → in_range l lost done tray first end ≡ true → Readable l lost done tray first end
  range_facts a h =
      let r = facts h in
      record { adm = a; lost_in = r.lost_in; tray_in = r.tray_in; done_in = r.done_in; rises = r.rises; end_in = r.end_in }

  pub range_lost : (n : ℕ) → n ≡ trays l → n ≤ lost → false ≡ in_range l lost done tray first end
  range_lost n e h = not_true_false _ (λ t. omega (arith, (facts t).lost_in))

  pub range_tray : (n : ℕ) → n ≡ trays l → n ≤ tray → false ≡ in_range l lost done tray first end
  range_tray n e h = not_true_false _ (λ t. omega (arith, (facts t).tray_in))

  pub range_done : (n : ℕ) → n ≡ groups l → n < done → false ≡ in_range l lost done tray first end
  range_done n e h = not_true_false _ (λ t. omega (arith, (facts t).done_in))

  pub range_run : end < first → false ≡ in_range l lost done tray first end
  range_run h = not_true_false _ (λ t. omega (arith, (facts t).rises))

  pub range_end : (n p m : ℕ) → n ≡ trays l → lost < n → tray < n → p ≡ groups l → done ≤ p → first ≤ end → m ≡ layers l → leb end m ≡ in_range l lost done tray first end
  unfolding in_range
  range_end n p m e h k f d r g =
      simp (lt-ltb lost (trays l) (omega arith), lt-ltb tray (trays l) (omega arith), le-leb done (groups l) (omega arith), le-leb first end r) (ap (leb end) g)

module _ (l : Layout) (x done first end : ℕ) where
  back : (j : ℕ) → first ≤ j → first + (j - first) ≡ j
  back j h = omega arith

  pub done_facts : all_done l x done first end ≡ true → (j : ℕ) → first ≤ j → j < end → group_at l x j < done
  unfolding all_done
  done_facts h j k m =
      subst (λ i. group_at l x i < done) (back j k) (ltb-true _ _ (all_holds (λ i. ltb (group_at l x (first + i)) done) (end - first) h (j - first) (omega arith)))

  -- one layer that is not done
  pub not_done : (j g : ℕ) → g ≡ group_at l x j → first ≤ j → j < end → done ≤ g → false ≡ all_done l x done first end
  not_done j g e k m h = not_true_false _ (λ t. omega (arith, done_facts t j k m))

  -- all of them done
  pub done_all : (j : ℕ) → end ≤ j → ((i : ℕ) → first ≤ i → i < j → group_at l x i < done) → true ≡ all_done l x done first end
  unfolding all_done
  done_all j h k =
      sym (all_true (λ i. ltb (group_at l x (first + i)) done) (end - first) (λ i m. lt-ltb _ _ (k (first + i) (omega arith) (omega arith))))

  -- one layer more
  pub done_more : (j g : ℕ) → g ≡ group_at l x j → g < done → ((i : ℕ) → first ≤ i → i < j → group_at l x i < done) → (i : ℕ) → first ≤ i → i < j + 1 → group_at l x i < done
  done_more j g e h before i k m = elim (ℕ_discrete i j) [
    | yes q ↦ subst (λ n. group_at l x n < done) (sym q) (omega arith)
    | no d ↦ before i k (omega arith)
  ]

  -- what the group of the next layer is asked with
  pub has_layer : (j : ℕ) → Asked l x first end → j < end → HasLayer l (x / l.size) j
  has_layer j a h = record { adm = a.adm; host_in = rack_in l a.adm x a.tray_in; layer_in = omega (arith, a.end_in) }

module _ (l : Layout) (lost done tray first end : ℕ) where
  -- what the test of a run of the lost tray is told
  pub asked : Readable l lost done tray first end → Asked l lost first end
  asked r = record { adm = r.adm; tray_in = r.lost_in; rises = r.rises; end_in = r.end_in }

  pub from_store : (tray ≡ lost → ⊥) → true ≡ available l lost done tray first end
  unfolding available
  from_store d = simp (ne_eqb tray lost d)

  pub from_spare : (b : Bool) → tray ≡ lost → b ≡ all_done l lost done first end → b ≡ available l lost done tray first end
  unfolding available
  from_spare b e h = simp (eq-eqb tray lost e) h
