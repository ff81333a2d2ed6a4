-- One image: whether it is live and tray x's own, and its symbols, for any edition.
-- Assumes nothing.
use mathlib.Core.Path.{◌≡◌, refl, sym, ap, ◌∙◌, subst}
use mathlib.Core.Bool.{Bool, true, false, cond}
use mathlib.Core.List.{List}
use Prim.Native.Nat.{ℕ, ◌+◌, ◌-◌, ◌*◌, ◌<◌, ◌≤◌}
use native.Mathlib.Decide.{ℕ_discrete}
use native.Mathlib.Omega.{arith}
use borrow.Author.Tests.{eq-eqb, ne_eqb, eqb-true}
use lib.Dec.{eqb}
use lib.ListN.{length, take, drop}
use Rattle.lists.specs.Lists.{unless, table}
use Rattle.lists.proofs.Bools.{both, and_true, not_both}
use Rattle.kernel.specs.Inner.{Run, filled}
use Rattle.layout.specs.declared.Layout.{Layout}
use Rattle.layout.specs.Layout.{layers}
use Rattle.image.specs.declared.Edition.{Edition}
use Rattle.image.specs.Image.{image_length, own_tray, own_symbols, symbol_at, read_refusal}
use Rattle.image.specs.Inner.{Proper}
use Rattle.image.proofs.ReadGrounds.{readable, given_byte}
use Rattle.gather.specs.Gathering.{image_of, is_live, image_ground, present, shown_symbol}
use Rattle.gather.specs.Inner.{PlaceRead}

module _ (e : Edition) (l : Layout) (volume x : ℕ) (s : List ℕ) where
  pub live_facts : is_live e l volume x s ≡ true → (read_refusal e l volume (layers l) s ≡ 0) × (own_tray s ≡ x)
  unfolding is_live
  live_facts h = let b = both (eqb (read_refusal e l volume (layers l) s) 0) (eqb (own_tray s) x) h in
      (eqb-true _ _ b.0, eqb-true _ _ b.1)

  pub live_so : read_refusal e l volume (layers l) s ≡ 0 → own_tray s ≡ x → is_live e l volume x s ≡ true
  unfolding is_live
  live_so a b = and_true _ _ (eq-eqb _ _ a) (eq-eqb _ _ b)

  pub live_not : (read_refusal e l volume (layers l) s ≡ 0 → own_tray s ≡ x → ⊥) → is_live e l volume x s ≡ false
  unfolding is_live
  live_not n = not_both _ _ (λ a b. n (eqb-true _ _ a) (eqb-true _ _ b))

  -- what is read where it is live
  pub symbols_table : Proper e → read_refusal e l volume (layers l) s ≡ 0 → own_symbols e s ≡ table (symbol_at e s) (layers l)
  unfolding own_symbols
  symbols_table g h = ap (λ m. table (symbol_at e s) (layers m)) (sym (readable e l volume (layers l) s g h).layout_is)

  pub symbol_in : Proper e → read_refusal e l volume (layers l) s ≡ 0 → (j : ℕ) → j < layers l → symbol_at e s j < e.size
  symbol_in g h j b = let r = readable e l volume (layers l) s g h in r.formed.held j (subst (λ m. j < layers m) r.layout_is b)

  -- ---- the ground of an image, by its refusal and the tray number that it has
  module _ (number : ℕ) (q : number ≡ read_refusal e l volume (layers l) s) where
    pub ground_refused : ¬ (number ≡ 0) → number ≡ image_ground e l volume x s
    unfolding image_ground
    ground_refused n =
        q ∙ sym (ap (λ b. cond b (unless (eqb (own_tray s) x) 11 0) (read_refusal e l volume (layers l) s))
        (ne_eqb (read_refusal e l volume (layers l) s) 0 (λ a. n (q ∙ a))))

    module _ (z : number ≡ 0) where
      pub own_in : Proper e → 8 < length s
      own_in g = given_byte e l volume (layers l) s number q z g 8 (omega arith)

      past : image_ground e l volume x s ≡ unless (eqb (own_tray s) x) 11 0
      unfolding image_ground
      past =
          ap (λ b. cond b (unless (eqb (own_tray s) x) 11 0) (read_refusal e l volume (layers l) s))
          (eq-eqb (read_refusal e l volume (layers l) s) 0 (sym q ∙ z))

      module _ (tray : ℕ) (t : tray ≡ own_tray s) where
        pub ground_other : ¬ (tray ≡ x) → 11 ≡ image_ground e l volume x s
        ground_other n = sym (past ∙ ap (λ b. unless b 11 0) (ne_eqb (own_tray s) x (λ a. n (t ∙ a))))

        pub ground_none : tray ≡ x → 0 ≡ image_ground e l volume x s
        ground_none a = sym (past ∙ ap (λ b. unless b 11 0) (eq-eqb (own_tray s) x (sym t ∙ a)))

  -- a live image has no ground, and only that
  pub live_ground : is_live e l volume x s ≡ true → image_ground e l volume x s ≡ 0
  live_ground h = let a = live_facts h in sym (ground_none 0 (sym a.0) refl (own_tray s) refl a.1)

  pub ground_live : image_ground e l volume x s ≡ 0 → is_live e l volume x s ≡ true
  ground_live h = go (ℕ_discrete (read_refusal e l volume (layers l) s) 0)
    where
      go : Dec (read_refusal e l volume (layers l) s ≡ 0) → is_live e l volume x s ≡ true
      go (no n) = absurd (n (ground_refused (read_refusal e l volume (layers l) s) refl n ∙ h))
      go (yes z) = own (ℕ_discrete (own_tray s) x)
        where
          own : Dec (own_tray s ≡ x) → is_live e l volume x s ≡ true
          own (yes t) = live_so z t
          own (no n) = absurd (let a = ground_other 0 (sym z) refl (own_tray s) refl n in omega (arith, a, h))

  pub ground_not : ¬ (image_ground e l volume x s ≡ 0) → is_live e l volume x s ≡ false
  ground_not n = live_not (λ a b. n (live_ground (live_so a b)))

-- ---- one of several
module _ (e : Edition) (l : Layout) (images : List ℕ) (place size : ℕ) (is : size ≡ image_length e l) where
  pub place_in : PlaceRead e l place images → place * size + size ≤ length images
  place_in p = subst (λ n. place * n + n ≤ length images) (sym is) p.image_in

  cut_is : take (place * size + size - place * size) (drop (place * size) images) ≡ image_of e l images place
  unfolding image_of
  cut_is = ap (λ n. take n (drop (place * size) images)) (back (place * size) size) ∙ ap (λ n. take n (drop (place * n) images)) is
    where
      back : (a b : ℕ) → a + b - a ≡ b
      back a b = omega arith

  pub tray_grounded : (volume x r : ℕ) →
      r ≡ image_ground e l volume x (take (place * size + size - place * size) (drop (place * size) images)) →
      r ≡ image_ground e l volume x (image_of e l images place)
  tray_grounded volume x r p = subst (λ s. r ≡ image_ground e l volume x s) cut_is p

  pub tray_copied : (was now : List ℕ) (to len : ℕ) →
      Run (symbol_at e (take (place * size + size - place * size) (drop (place * size) images))) was now to len →
      Run (symbol_at e (image_of e l images place)) was now to len
  tray_copied was now to len r = subst (λ s. Run (symbol_at e s) was now to len) cut_is r

-- ---- a tray of the cabinet
module _ (e : Edition) (l : Layout) (volume : ℕ) (images : List ℕ) (x : ℕ) (was now : List ℕ) (to len : ℕ) where
  run_same : (f g : ℕ → ℕ) → ((j : ℕ) → f j ≡ g j) → Run f was now to len → Run g was now to len
  run_same f g h r = record { long = r.long; done = λ j b. r.done j b ∙ h j; low = r.low; high = r.high }

  -- the number is why its image is not taken for it
  module _ (number : ℕ) (q : number ≡ image_ground e l volume x (image_of e l images x)) where
    pub absent_taken : ¬ (number ≡ 0) → Run (filled 0) was now to len →
        (false ≡ present e l volume images x) × Run (shown_symbol e l volume images x) was now to len
    unfolding present shown_symbol filled
    absent_taken n r =
        let h = ground_not e l volume x (image_of e l images x) (λ z. n (q ∙ z)) in (
          sym h,
          run_same (filled 0) (shown_symbol e l volume images x)
              (λ j. sym (ap (λ b. cond b (symbol_at e (image_of e l images x) j) 0) h)) r,
        )

    pub present_taken : number ≡ 0 → Run (symbol_at e (image_of e l images x)) was now to len →
        (true ≡ present e l volume images x) × Run (shown_symbol e l volume images x) was now to len
    unfolding present shown_symbol
    present_taken z r =
        let h = ground_live e l volume x (image_of e l images x) (sym q ∙ z) in (
          sym h,
          run_same (symbol_at e (image_of e l images x)) (shown_symbol e l volume images x)
              (λ j. sym (ap (λ b. cond b (symbol_at e (image_of e l images x) j) 0) h)) r,
        )
