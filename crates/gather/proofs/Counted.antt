-- The states of the trays, and the margin that counts them, for any edition.
-- Assumes nothing.
use mathlib.Core.Path.{◌≡◌, refl, sym, ap, ◌∙◌, subst}
use mathlib.Core.Bool.{Bool, true, false, cond, ◌&&◌}
use mathlib.Core.List.{List, [], ◌∷◌}
use Prim.Native.Nat.{ℕ, zero, suc, ◌+◌, ◌-◌, ◌*◌, ◌<◌, ◌≤◌}
use native.Mathlib.Decide.{ℕ_discrete}
use native.Mathlib.Omega.{arith}
use borrow.Author.Tests.{eq-eqb, ne_eqb, eqb-true}
use lib.Dec.{eqb}
use lib.IntN.{pos, ◌-ℤ◌}
use lib.ListN.{length, get_or, set, length-append}
use Rattle.lists.specs.Lists.{table, all_below}
use Rattle.lists.proofs.Bools.{passed, both}
use Rattle.lists.proofs.Loops.{Upto, upto_more}
use Rattle.lists.proofs.Numbered.{below_true}
use Rattle.lists.proofs.Tables.{is_table, table_length, table_at}
use Rattle.kernel.proofs.Rows.{row_before}
use Rattle.layout.specs.declared.Layout.{Layout}
use Rattle.layout.specs.Layout.{trays, layers, admissible}
use Rattle.layout.proofs.Facts.{admissible_facts}
use Rattle.image.specs.declared.Edition.{Edition}
use Rattle.image.specs.Image.{image_length, read_refusal, own_tray}
use Rattle.margin.specs.declared.LossMargin.TheVariants.{Known, Refused}
use Rattle.margin.specs.Margin.{live, margin_of, margin_refusal, margin_answer}
use Rattle.gather.specs.declared.Gathered.{Gathered}
use Rattle.gather.specs.Gathering.{image_of, image_ground, present, tray_state, missing_of, missing_trays, states_refusal, states_buffer}
use Rattle.gather.specs.Gathering.{GatherAnswer}
use Rattle.gather.specs.Inner.{PlaceRead, Stating}
use Rattle.gather.proofs.Taking.{ground_refused, ground_other, ground_none, ground_live, ground_not}
use Rattle.gather.proofs.Missing.{missing_none, missing_there, missing_gone}

-- ---- one tray, by why its image is not taken
module _ (e : Edition) (l : Layout) (volume : ℕ) (images : List ℕ) (x number : ℕ)
    (q : number ≡ image_ground e l volume x (image_of e l images x)) where
  pub state_live : number ≡ 0 → 1 ≡ tray_state e l volume images x
  unfolding tray_state present
  state_live z = sym (simp (ground_live e l volume x (image_of e l images x) (sym q ∙ z)))

  -- the ground is 10 exactly where the read's is
  ten : number ≡ 10 → read_refusal e l volume (layers l) (image_of e l images x) ≡ 10
  ten z = go (ℕ_discrete (read_refusal e l volume (layers l) (image_of e l images x)) 0)
    where
      go : Dec (read_refusal e l volume (layers l) (image_of e l images x) ≡ 0) →
          read_refusal e l volume (layers l) (image_of e l images x) ≡ 10
      go (no n) = ground_refused e l volume x (image_of e l images x) (read_refusal e l volume (layers l) (image_of e l images x)) refl n
          ∙ sym q ∙ z
      go (yes y) = own (ℕ_discrete (own_tray (image_of e l images x)) x)
        where
          own : Dec (own_tray (image_of e l images x) ≡ x) → read_refusal e l volume (layers l) (image_of e l images x) ≡ 10
          own (yes t) = absurd (let a = ground_none e l volume x (image_of e l images x) 0 (sym y) refl
              (own_tray (image_of e l images x)) refl t in omega (arith, a, q, z))
          own (no t) = absurd (let a = ground_other e l volume x (image_of e l images x) 0 (sym y) refl
              (own_tray (image_of e l images x)) refl t in omega (arith, a, q, z))

  pub state_demonstration : ¬ (number ≡ 0) → number ≡ 10 → 2 ≡ tray_state e l volume images x
  unfolding tray_state present
  state_demonstration n z = sym (simp (ground_not e l volume x (image_of e l images x) (λ a. n (q ∙ a)), eq-eqb _ _ (ten z)))

  pub state_other : ¬ (number ≡ 0) → ¬ (number ≡ 10) → 0 ≡ tray_state e l volume images x
  unfolding tray_state present
  state_other n m =
      sym (simp (
        ground_not e l volume x (image_of e l images x) (λ a. n (q ∙ a)),
        ne_eqb (read_refusal e l volume (layers l) (image_of e l images x)) 10 (λ a. m (q ∙ sym (back a) ∙ a)),
      ))
    where
      back : read_refusal e l volume (layers l) (image_of e l images x) ≡ 10 →
          read_refusal e l volume (layers l) (image_of e l images x) ≡ image_ground e l volume x (image_of e l images x)
      back a = ground_refused e l volume x (image_of e l images x) (read_refusal e l volume (layers l) (image_of e l images x)) refl
          (λ z. omega (arith, a, z))

-- ---- the loop over the trays
module _ (e : Edition) (l : Layout) (volume : ℕ) (images was : List ℕ) (told : Stating e l images was) where
  pub state_place : (x n : ℕ) → n ≡ trays l → x < n → PlaceRead e l x images
  state_place x n p h = record {
    adm = told.adm;
    image_in = subst (λ y. x * image_length e l + image_length e l ≤ y) (sym told.images_long)
        (row_before x (trays l) (image_length e l) (omega arith));
  }

  pub states_more : (x n v : ℕ) (is : List ℕ) → n ≡ trays l → x < n → Upto (tray_state e l volume images) was is x →
      v ≡ tray_state e l volume images x →
      Upto (tray_state e l volume images) was (set is x v) (x + 1)
  states_more x n v is p h u q = upto_more (tray_state e l volume images) u (omega (arith, told.room_long)) q

  pub states_all : (x n : ℕ) (is : List ℕ) → n ≡ trays l → n ≤ x → Upto (tray_state e l volume images) was is x →
      is ≡ table (tray_state e l volume images) (trays l)
  states_all x n is p h u = is_table is (tray_state e l volume images) (trays l) (u.same ∙ told.room_long) (λ i k. u.low i (omega arith))

-- ---- the grounds
module _ (e : Edition) (l : Layout) (images room : ℕ) where
  pub states_1 : admissible e.order l ≡ false → 1 ≡ states_refusal e l images room
  unfolding states_refusal
  states_1 h = simp h

  module _ (h : admissible e.order l ≡ true) where
    pub states_2_images : (images ≡ trays l * image_length e l → ⊥) → 2 ≡ states_refusal e l images room
    unfolding states_refusal
    states_2_images k = simp (h, ne_eqb _ _ k)

    module _ (a : images ≡ trays l * image_length e l) where
      pub states_2_room : (room ≡ trays l → ⊥) → 2 ≡ states_refusal e l images room
      unfolding states_refusal
      states_2_room k = simp (h, eq-eqb _ _ a, ne_eqb _ _ k)

      pub states_0 : room ≡ trays l → 0 ≡ states_refusal e l images room
      unfolding states_refusal
      states_0 k = simp (h, eq-eqb _ _ a, eq-eqb _ _ k)

-- ---- the answer
module _ (e : Edition) (l : Layout) (volume : ℕ) (images room : List ℕ) where
  states_facts : states_refusal e l (length images) (length room) ≡ 0 → (admissible e.order l ≡ true) × Stating e l images room
  unfolding states_refusal
  states_facts h =
      let p = passed (admissible e.order l) 1 _ (omega arith) h in
      let q = passed (eqb (length images) (trays l * image_length e l) && eqb (length room) (trays l)) 2 0 (omega arith) p.1 in
      let s = both (eqb (length images) (trays l * image_length e l)) (eqb (length room) (trays l)) q.0 in (
        p.0,
        record {
          adm = (admissible_facts e.order l p.0).cabinet;
          images_long = eqb-true _ _ s.0;
          room_long = eqb-true _ _
              s.1;
        },
      )

  module _ (r : ℕ) (q : r ≡ states_refusal e l (length images) (length room)) where
    pub states_kept : ¬ (r ≡ 0) → room ≡ states_buffer e l volume images room
    unfolding states_buffer
    states_kept n = sym (simp (ne_eqb (states_refusal e l (length images) (length room)) 0 (λ z. n (q ∙ z))))

    pub states_told : r ≡ 0 → Stating e l images room
    states_told z = (states_facts (sym q ∙ z)).1

    pub states_given : r ≡ 0 → 0 ≡ states_refusal e l (length images) (length room)
    states_given z = sym z ∙ q

    pub states_done : r ≡ 0 → (is : List ℕ) → is ≡ table (tray_state e l volume images) (trays l) → is ≡ states_buffer e l volume images room
    unfolding states_buffer
    states_done z is y = y ∙ sym (simp (eq-eqb (states_refusal e l (length images) (length room)) 0 (sym q ∙ z)))

-- ---- the margin
-- what a tray adds to the count
abbrev tick : Bool → ℕ
tick b = cond b 1 0

module _ (e : Edition) (l : Layout) (volume : ℕ) (images : List ℕ) where
  state_small : (x : ℕ) → tray_state e l volume images x < 3
  unfolding tray_state
  state_small x = go (present e l volume images x) (eqb (read_refusal e l volume (layers l) (image_of e l images x)) 10)
    where
      go : (a b : Bool) → cond a 1 (cond b 2 0) < 3
      go true b = omega arith
      go false true = omega arith
      go false false = omega arith

  is_one : (x : ℕ) → eqb (tray_state e l volume images x) 1 ≡ present e l volume images x
  unfolding tray_state
  is_one x = go (present e l volume images x) (eqb (read_refusal e l volume (layers l) (image_of e l images x)) 10)
    where
      go : (a b : Bool) → eqb (cond a 1 (cond b 2 0)) 1 ≡ a
      go true b = refl
      go false true = refl
      go false false = refl

  -- a state list whose numbers are these counts the trays present: with those missing they are all
  counted : (s : List ℕ) (n : ℕ) → ((x : ℕ) → x < n → get_or s x 0 ≡ tray_state e l volume images x) →
      live s n + length (missing_of (present e l volume images) n) ≡ n
  unfolding live
  counted s zero h = let a = ap length (missing_none (present e l volume images)) in omega (arith, a)
  counted s (suc n) h = go (present e l volume images n) refl (counted s n (λ x b. h x (omega arith)))
    where
      one : eqb (get_or s n 0) 1 ≡ present e l volume images n
      one = ap (λ v. eqb v 1) (h n (omega arith)) ∙ is_one n

      go : (b : Bool) → present e l volume images n ≡ b → live s n + length (missing_of (present e l volume images) n) ≡ n →
          live s n + cond (eqb (get_or s n 0) 1) 1 0 + length (missing_of (present e l volume images) (suc n)) ≡ suc n
      go true z ih =
          let a = ap tick (one ∙ z) in
          let b = ap length (missing_there (present e l volume images) n z) in
          omega (arith, a, b, ih)
      go false z ih =
          let a = ap tick (one ∙ z) in
          let b = ap length (missing_gone (present e l volume images) n z)
          ∙ length-append (missing_of (present e l volume images) n) (n ∷ []) in
          omega (arith, a, b, ih)

  module _ (room : List ℕ) (z : states_refusal e l (length images) (length room) ≡ 0) where
    is : states_buffer e l volume images room ≡ table (tray_state e l volume images) (trays l)
    unfolding states_buffer
    is = simp (eq-eqb (states_refusal e l (length images) (length room)) 0 z)

    long : length (states_buffer e l volume images room) ≡ trays l
    long = ap length is ∙ table_length (tray_state e l volume images) (trays l)

    at : (x : ℕ) → x < trays l → get_or (states_buffer e l volume images room) x 0 ≡ tray_state e l volume images x
    at x h = ap (λ s. get_or s x 0) is ∙ table_at (tray_state e l volume images) (trays l) x h

    low : all_below (states_buffer e l volume images room) 3 ≡ true
    low = sym (below_true (states_buffer e l volume images room) 3
        (λ k h. subst (λ v. v < 3) (sym (at k (omega (arith, long)))) (state_small k)))

    -- the live trays among the states, and those that gathering lists, are all of them
    pub states_counted : (c m d k : List ℕ) (r : Gathered) → GatherAnswer e l volume images c m d k r → r.refusal ≡ 0 →
        live (states_buffer e l volume images room) (trays l) + r.count ≡ trays l
    unfolding missing_trays
    states_counted c m d k r g y =
        subst (λ v. live (states_buffer e l volume images room) (trays l) + v ≡ trays l) (sym (g.count_is y))
        (counted (states_buffer e l volume images room) (trays l) at)

    accepted : margin_refusal e.order l (states_buffer e l volume images room) ≡ 0
    unfolding margin_refusal
    accepted = simp ((states_facts e l volume images room z).0, eq-eqb _ _ long, low)

    pub margin_known : (c m d k : List ℕ) (r : Gathered) → GatherAnswer e l volume images c m d k r → r.refusal ≡ 0 →
        margin_answer e.order l (states_buffer e l volume images room) ≡ Known (pos (trays l - r.count) -ℤ pos l.dimension)
    unfolding margin_answer margin_of
    margin_known c m d k r g y =
        ap (λ b. cond b (Known (margin_of l (states_buffer e l volume images room)))
        (Refused (margin_refusal e.order l (states_buffer e l volume images room)))) (eq-eqb _ _ accepted)
        ∙ ap (λ n. Known (pos n -ℤ pos l.dimension)) (ap (live (states_buffer e l volume images room)) long ∙ less)
      where
        less : live (states_buffer e l volume images room) (trays l) ≡ trays l - r.count
        less = let a = states_counted c m d k r g y in omega arith
