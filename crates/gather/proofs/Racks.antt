-- Gathering one rack, for any edition.
-- Assumes nothing.
use mathlib.Core.Path.{◌≡◌, refl, sym, ap, ◌∙◌, subst}
use mathlib.Core.Bool.{Bool, true, false, cond, not, ◌&&◌, false≢true}
use mathlib.Core.List.{List}
use mathlib.Core.Logic.{◌⊎◌, inl, inr}
use Prim.Native.Nat.{ℕ, ◌+◌, ◌*◌, ◌/◌, ◌%◌, ◌<◌, ◌≤◌}
use native.Mathlib.Nat.{mod-lt, div-add-mod', div-lt_iff_lt-mul}
use native.Mathlib.Decide.{ℕ_discrete, dec_lt}
use native.Mathlib.Omega.{arith}
use borrow.Author.Tests.{eq-eqb, ne_eqb, eqb-true, lt-ltb, le-ltb, ltb-true}
use lib.Dec.{eqb, ltb}
use lib.ListN.{length, get_or}
use Rattle.lists.specs.Lists.{unless, absent, strictly_rising}
use Rattle.lists.proofs.Bools.{passed, both, told_true, told_false, not_true_false, all_holds, all_true, all_false}
use Rattle.lists.proofs.Numbers.{cell_in}
use Rattle.lists.proofs.Tables.{is_table}
use Rattle.kernel.specs.Inner.{Run}
use Rattle.kernel.proofs.Rows.{row_before}
use Rattle.layout.specs.declared.Layout.{Layout}
use Rattle.layout.specs.Layout.{layers, admissible}
use Rattle.layout.proofs.Facts.{admissible_facts, bounds}
use Rattle.image.specs.declared.Edition.{Edition}
use Rattle.image.specs.Image.{live, image_length, own_tray, own_state, own_layout, own_volume, same_layout, well_formed, symbol_at, read_refusal}
use Rattle.gather.specs.Gathering.{image_of, is_live, image_ground, of_rack, none_with, rack_refusal, rack_symbol, rack_buffer}
use Rattle.gather.specs.Inner.{PlaceRead, Place, looked_ground, lower_of, Lowest, RackRead, RackRoom, PlaceTaken, RackTaken}
use Rattle.gather.proofs.Taking.{ground_refused, ground_other, ground_none, live_ground, ground_live}

-- ---- the trays listed are the rack's
module _ (u rack : ℕ) (lost : List ℕ) where
  -- as far as k
  abbrev pub OfRackTo : ℕ → Type 0
  OfRackTo k = (i : ℕ) → i < k → eqb (get_or lost i 0 / u) rack ≡ true

  pub rack_false : (k : ℕ) → k < length lost → ¬ (get_or lost k 0 / u ≡ rack) → false ≡ of_rack u rack lost
  unfolding of_rack
  rack_false k h n = all_false (λ k. eqb (get_or lost k 0 / u) rack) (length lost) k h (λ t. n (eqb-true _ _ t))

  pub rack_true : (k : ℕ) → length lost ≤ k → OfRackTo k → true ≡ of_rack u rack lost
  unfolding of_rack
  rack_true k h f = sym (all_true (λ k. eqb (get_or lost k 0 / u) rack) (length lost) (λ i b. f i (omega arith)))

-- ---- the grounds of the images looked at
module _ (e : Edition) (l : Layout) (volume : ℕ) (lost images : List ℕ) (place x : ℕ) where
  pub looked_lost : (b : Bool) → b ≡ absent lost x → not b ≡ true → 0 ≡ looked_ground e l volume lost images place x
  unfolding looked_ground
  looked_lost b q n = sym (ap (λ v. cond v (image_ground e l volume x (image_of e l images place)) 0) (told_false q n))

  looked_is : absent lost x ≡ true → looked_ground e l volume lost images place x ≡ image_ground e l volume x (image_of e l images place)
  unfolding looked_ground
  looked_is a = ap (λ v. cond v (image_ground e l volume x (image_of e l images place)) 0) a

  pub looked_told : (b : Bool) (r : ℕ) → b ≡ absent lost x → not b ≡ false → r ≡ image_ground e l volume x (image_of e l images place) →
      r ≡ looked_ground e l volume lost images place x
  looked_told b r q n t = t ∙ sym (looked_is (told_true q n))

pub lower_first : (a b : ℕ) → a ≡ 0 → b ≡ lower_of a b
unfolding lower_of
lower_first a b z = sym (ap (λ t. cond t b (cond (eqb b 0) a (cond (ltb b a) b a))) (eq-eqb a 0 z))

pub lower_second : (a b : ℕ) → ¬ (a ≡ 0) → b ≡ 0 → a ≡ lower_of a b
unfolding lower_of
lower_second a b n z = sym (simp (ne_eqb a 0 n, eq-eqb b 0 z))

pub lower_less : (a b : ℕ) → ¬ (a ≡ 0) → ¬ (b ≡ 0) → b < a → b ≡ lower_of a b
unfolding lower_of
lower_less a b n m h = sym (simp (ne_eqb a 0 n, ne_eqb b 0 m, lt-ltb b a h))

pub lower_more : (a b : ℕ) → ¬ (a ≡ 0) → ¬ (b ≡ 0) → a ≤ b → a ≡ lower_of a b
unfolding lower_of
lower_more a b n m h = sym (simp (ne_eqb a 0 n, ne_eqb b 0 m, le-ltb b a h))

-- what the lower one is
pub record LowerOf (a b r : ℕ) : Type 0 where
  pub one : (r ≡ a) ⊎ (r ≡ b)
  pub left : ¬ (a ≡ 0) → (0 < r) × (r ≤ a)
  pub right : ¬ (b ≡ 0) → (0 < r) × (r ≤ b)

lower_facts : (a b : ℕ) → LowerOf a b (lower_of a b)
lower_facts a b = first (ℕ_discrete a 0) (ℕ_discrete b 0) (dec_lt b a)
  where
    first : Dec (a ≡ 0) → Dec (b ≡ 0) → Dec (b < a) → LowerOf a b (lower_of a b)
    first (yes z) d h = subst (LowerOf a b) (lower_first a b z)
        (record { one = inr refl; left = λ n. absurd (n z); right = λ n. (omega arith, omega arith) })
    first (no n) (yes z) h = subst (LowerOf a b) (lower_second a b n z)
        (record { one = inl refl; left = λ m. (omega arith, omega arith); right = λ m. absurd (m z) })
    first (no n) (no m) (yes h) =
        subst (LowerOf a b) (lower_less a b n m h)
        (record { one = inr refl; left = λ k. (omega arith, omega arith); right = λ k. (omega arith, omega arith) })
    first (no n) (no m) (no h) =
        subst (LowerOf a b) (lower_more a b n m (omega arith))
        (record { one = inl refl; left = λ k. (omega arith, omega arith); right = λ k. (omega arith, omega arith) })

-- a ground of an image is one of those of a read, or 11
small_of : (a b f s x : Bool) → unless a 1 (unless b 2 (unless f 9 (unless s 10 (unless x 11 0)))) ≤ 11
small_of false b f s x = omega arith
small_of true false f s x = omega arith
small_of true true false s x = omega arith
small_of true true true false x = omega arith
small_of true true true true false = omega arith
small_of true true true true true = omega arith

module _ (e : Edition) (l : Layout) (volume x : ℕ) (s : List ℕ) where
  ground_cases : (n : ℕ) → n ≤ 11 → (t : Bool) → cond (eqb n 0) (unless t 11 0) n ≤ 11
  ground_cases n h t = go (eqb n 0) t
    where
      go : (z t : Bool) → cond z (unless t 11 0) n ≤ 11
      go false t = h
      go true false = omega arith
      go true true = omega arith

  ground_small : image_ground e l volume x s ≤ 11
  unfolding image_ground read_refusal
  ground_small =
      ground_cases (read_refusal e l volume (layers l) s)
      (small_of (admissible e.order l) (eqb (layers l) (layers l)) (well_formed e s) (eqb (own_state s) live)
      (same_layout l (own_layout s) && eqb volume (own_volume s)))
      (eqb (own_tray s) x)

  reads : admissible e.order l ≡ true → read_refusal e l volume (layers l) s ≡
      unless (well_formed e s) 9 (unless (eqb (own_state s) live) 10 (unless (same_layout l (own_layout s) && eqb volume (own_volume s)) 11 0))
  unfolding read_refusal
  reads h = simp (h, eq-eqb (layers l) (layers l) refl)

  nine : (f a b : Bool) → ¬ (unless f 9 (unless a 10 (unless b 11 0)) ≡ 0) → 9 ≤ unless f 9 (unless a 10 (unless b 11 0))
  nine false a b n = omega arith
  nine true false b n = omega arith
  nine true true false n = omega arith
  nine true true true n = absurd (n refl)

  pub ground_high : admissible e.order l ≡ true → ¬ (image_ground e l volume x s ≡ 0) → 9 ≤ image_ground e l volume x s
  ground_high h n = go (ℕ_discrete (read_refusal e l volume (layers l) s) 0)
    where
      go : Dec (read_refusal e l volume (layers l) s ≡ 0) → 9 ≤ image_ground e l volume x s
      go (no m) =
          subst (λ v. 9 ≤ v) (ground_refused e l volume x s (read_refusal e l volume (layers l) s) refl m)
          (subst (λ v. 9 ≤ v) (sym (reads h))
          (nine (well_formed e s) (eqb (own_state s) live) (same_layout l (own_layout s) && eqb volume (own_volume s))
          (λ z. m (reads h ∙ z))))
      go (yes z) = own (ℕ_discrete (own_tray s) x)
        where
          own : Dec (own_tray s ≡ x) → 9 ≤ image_ground e l volume x s
          own (yes t) = absurd (n (sym (ground_none e l volume x s 0 (sym z) refl (own_tray s) refl t)))
          own (no m) = subst (λ v. 9 ≤ v) (ground_other e l volume x s 0 (sym z) refl (own_tray s) refl m) (omega arith)

-- ---- the lowest of them
module _ (e : Edition) (l : Layout) (volume rack : ℕ) (lost images : List ℕ) where
  -- the ground of place g
  abbrev at : ℕ → ℕ
  at g = looked_ground e l volume lost images g (rack * l.size + g)

  pub lowest_none : Lowest e l volume rack lost images 0 0
  lowest_none = record { small = omega arith; found = λ n. absurd (n refl); least = λ g h. absurd (omega arith) }

  at_small : (g : ℕ) → at g ≤ 11
  unfolding looked_ground
  at_small g = go (absent lost (rack * l.size + g))
    where
      go : (b : Bool) → cond b (image_ground e l volume (rack * l.size + g) (image_of e l images g)) 0 ≤ 11
      go true = ground_small e l volume (rack * l.size + g) (image_of e l images g)
      go false = omega arith

  pub lowest_more : (g a b r : ℕ) → Lowest e l volume rack lost images g a →
      b ≡ looked_ground e l volume lost images g (rack * l.size + g) → r ≡ lower_of a b →
      Lowest e l volume rack lost images (g + 1) r
  lowest_more g a b r p q s =
      let w = subst (LowerOf a b) (sym s) (lower_facts a b) in
      record { small = small w w.one; found = λ n. found w n w.one; least = λ i h n. least w i h n (ℕ_discrete i g) }
    where
      small : LowerOf a b r → (r ≡ a) ⊎ (r ≡ b) → r ≤ 11
      small w (inl z) = let k = p.small in omega arith
      small w (inr z) = let k = at_small g in omega (arith, q)

      found : LowerOf a b r → ¬ (r ≡ 0) → (r ≡ a) ⊎ (r ≡ b) → (i : ℕ) × (i < g + 1) × (at i ≡ r)
      found w n (inl z) = let k = p.found (λ y. n (z ∙ y)) in (k.0, (let h = k.1 in omega arith), k.2 ∙ sym z)
      found w n (inr z) = (g, omega arith, sym q ∙ sym z)

      least : LowerOf a b r → (i : ℕ) → i < g + 1 → ¬ (at i ≡ 0) → Dec (i ≡ g) → (0 < r) × (r ≤ at i)
      least w i h n (yes z) = subst (λ v. (0 < r) × (r ≤ v)) (q ∙ ap at (sym z)) (w.right (λ y. n (ap at z ∙ sym q ∙ y)))
      least w i h n (no z) = let k = p.least i (omega arith) n in let v = w.left (λ y. let o = k.0 in omega arith) in
          (v.0, (let o = k.1 in let u = v.1 in omega arith))

  pub lowest_end : (g n r : ℕ) → g ≤ n → n ≤ g → Lowest e l volume rack lost images g r → Lowest e l volume rack lost images n r
  lowest_end g n r a b w = let z : g ≡ n = omega arith in subst (λ v. Lowest e l volume rack lost images v r) z w

  -- so whether no image has a ground
  none_so : (k : ℕ) → 0 < k → ((g : ℕ) → g < l.size → ¬ (at g ≡ k)) → none_with e l volume rack lost images k ≡ true
  unfolding none_with
  none_so k h f =
      all_true (λ g. cond (absent lost (rack * l.size + g))
      (not (eqb (image_ground e l volume (rack * l.size + g) (image_of e l images g)) k)) true) l.size
      (λ g b. go g b (absent lost (rack * l.size + g)) refl)
    where
      go : (g : ℕ) → g < l.size → (b : Bool) → absent lost (rack * l.size + g) ≡ b →
          cond (absent lost (rack * l.size + g))
          (not (eqb (image_ground e l volume (rack * l.size + g) (image_of e l images g)) k)) true ≡ true
      go g b false a = ap (λ v. cond v (not (eqb (image_ground e l volume (rack * l.size + g) (image_of e l images g)) k)) true) a
      go g b true a =
          ap (λ v. cond v (not (eqb (image_ground e l volume (rack * l.size + g) (image_of e l images g)) k)) true) a
          ∙ ap not (ne_eqb _ _ (λ z. f g b (looked_is e l volume lost images g (rack * l.size + g) a ∙ z)))

  pub none_all : (k : ℕ) → none_with e l volume rack lost images k ≡ true → (g : ℕ) → g < l.size → absent lost (rack * l.size + g) ≡ true →
      ¬ (image_ground e l volume (rack * l.size + g) (image_of e l images g) ≡ k)
  unfolding none_with
  none_all k t g h a z =
      let q = all_holds (λ g. cond (absent lost (rack * l.size + g))
      (not (eqb (image_ground e l volume (rack * l.size + g) (image_of e l images g)) k)) true) l.size t g h in
      let s = sym (ap (λ v. cond v (not (eqb (image_ground e l volume (rack * l.size + g) (image_of e l images g)) k)) true) a) ∙ q in
      false≢true (sym (ap not (eq-eqb _ _ z)) ∙ s)

  none_not : (k g : ℕ) → 0 < k → g < l.size → at g ≡ k → none_with e l volume rack lost images k ≡ false
  none_not k g h b q = sym (not_true_false (none_with e l volume rack lost images k) (λ t. go (absent lost (rack * l.size + g)) refl t))
    where
      go : (v : Bool) → absent lost (rack * l.size + g) ≡ v → none_with e l volume rack lost images k ≡ true → ⊥
      go true a t = none_all k t g b a (sym (looked_is e l volume lost images g (rack * l.size + g) a) ∙ q)
      go false a t = let z = looked_lost e l volume lost images g (rack * l.size + g) false (sym a) refl in omega (arith, z, q)

  -- the first of the grounds 9, 10 and 11 that an image has is the lowest
  module _ (h : admissible e.order l ≡ true) (r : ℕ) (w : Lowest e l volume rack lost images l.size r) where
    at_high : (g : ℕ) → ¬ (at g ≡ 0) → 9 ≤ at g
    at_high g n = go (absent lost (rack * l.size + g)) refl
      where
        go : (v : Bool) → absent lost (rack * l.size + g) ≡ v → 9 ≤ at g
        go true a =
            subst (λ v. 9 ≤ v) (sym (looked_is e l volume lost images g (rack * l.size + g) a))
            (ground_high e l volume (rack * l.size + g) (image_of e l images g) h
            (λ z. n (looked_is e l volume lost images g (rack * l.size + g) a ∙ z)))
        go false a = absurd (n (sym (looked_lost e l volume lost images g (rack * l.size + g) false (sym a) refl)))

    none_below : (k : ℕ) → 0 < k → (r ≡ 0) ⊎ (k < r) → none_with e l volume rack lost images k ≡ true
    none_below k o c = none_so k o (λ g b z. go g b z c)
      where
        go : (g : ℕ) → g < l.size → at g ≡ k → (r ≡ 0) ⊎ (k < r) → ⊥
        go g b z (inl y) = let v = (w.least g b (λ u. omega (arith, z, u))).0 in omega arith
        go g b z (inr y) = let v = (w.least g b (λ u. omega (arith, z, u))).1 in omega (arith, z)

    has_not : (k : ℕ) → 0 < k → r ≡ k → none_with e l volume rack lost images k ≡ false
    has_not k o z = let q = w.found (λ u. omega arith) in none_not k q.0 o q.1 (q.2 ∙ z)

    pub lowest_is : r ≡ unless (none_with e l volume rack lost images 9) 9
        (unless (none_with e l volume rack lost images 10) 10 (unless (none_with e l volume rack lost images 11) 11 0))
    lowest_is = go (ℕ_discrete r 0) (ℕ_discrete r 9) (ℕ_discrete r 10)
      where
        go : Dec (r ≡ 0) → Dec (r ≡ 9) → Dec (r ≡ 10) →
            r ≡ unless (none_with e l volume rack lost images 9) 9
            (unless (none_with e l volume rack lost images 10) 10 (unless (none_with e l volume rack lost images 11) 11 0))
        go (yes z) a b = z ∙ sym (simp
            (none_below 9 (omega arith) (inl z), none_below 10 (omega arith) (inl z), none_below 11 (omega arith) (inl z)))
        go (no n) (yes z) b = z ∙ sym (simp (has_not 9 (omega arith) z))
        go (no n) (no m) (yes z) = z ∙ sym (simp (none_below 9 (omega arith) (inr (omega arith)), has_not 10 (omega arith) z))
        go (no n) (no m) (no k) = last
            ∙ sym (simp (
              none_below 9 (omega arith) (inr (omega (arith, last))),
              none_below 10 (omega arith)
                  (inr (omega (arith, last))),
              has_not 11 (omega arith) last,
            ))
          where
            last : r ≡ 11
            last = let q = w.found n in let y = at_high q.0 (λ u. n (sym q.2 ∙ u)) in let t = w.small in let v = q.2 in omega arith

module _ (e : Edition) (l : Layout) (rack : ℕ) (images : List ℕ) (r : RackRead e l rack images) where
  pub first_low : rack * l.size + l.size ≤ 60
  first_low = let a = r.adm.trays_high in let b = row_before rack l.racks l.size r.rack_in in omega arith

  pub place_read : (g : ℕ) → g < l.size → PlaceRead e l g images
  place_read g h = record {
    adm = r.adm;
    image_in = subst (λ y. g * image_length e l + image_length e l ≤ y) (sym r.images_long)
        (row_before g l.size (image_length e l) h);
  }

-- ---- the grounds
module _ (e : Edition) (l : Layout) (volume rack : ℕ) (lost images : List ℕ) (room : ℕ) where
  pub rack_1 : admissible e.order l ≡ false → 1 ≡ rack_refusal e l volume rack lost images room
  unfolding rack_refusal
  rack_1 h = simp h

  module _ (h : admissible e.order l ≡ true) where
    pub rack_2_images : (length images ≡ l.size * image_length e l → ⊥) → 2 ≡ rack_refusal e l volume rack lost images room
    unfolding rack_refusal
    rack_2_images k = simp (h, ne_eqb _ _ k)

    module _ (a : length images ≡ l.size * image_length e l) where
      pub rack_2_room : (room ≡ l.size * layers l → ⊥) → 2 ≡ rack_refusal e l volume rack lost images room
      unfolding rack_refusal
      rack_2_room k = simp (h, eq-eqb _ _ a, ne_eqb _ _ k)

      module _ (b : room ≡ l.size * layers l) where
        pub rack_3_rack : l.racks ≤ rack → 3 ≡ rack_refusal e l volume rack lost images room
        unfolding rack_refusal
        rack_3_rack k = simp (h, eq-eqb _ _ a, eq-eqb _ _ b, le-ltb _ _ k)

        module _ (c : rack < l.racks) where
          pub rack_3_lost : of_rack l.size rack lost ≡ false → 3 ≡ rack_refusal e l volume rack lost images room
          unfolding rack_refusal
          rack_3_lost k = simp (h, eq-eqb _ _ a, eq-eqb _ _ b, lt-ltb _ _ c, k)

          module _ (d : of_rack l.size rack lost ≡ true) where
            pub rack_4 : strictly_rising lost ≡ false → 4 ≡ rack_refusal e l volume rack lost images room
            unfolding rack_refusal
            rack_4 k = simp (h, eq-eqb _ _ a, eq-eqb _ _ b, lt-ltb _ _ c, d, k)

            pub rack_looked : strictly_rising lost ≡ true → (r : ℕ) → Lowest e l volume rack lost images l.size r →
                r ≡ rack_refusal e l volume rack lost images room
            unfolding rack_refusal
            rack_looked k r w = lowest_is e l volume rack lost images h r w ∙ sym (simp (h, eq-eqb _ _ a, eq-eqb _ _ b, lt-ltb _ _ c, d, k))

-- what holds where there is no ground
pub record Gatherable (e : Edition) (l : Layout) (volume rack : ℕ) (lost images : List ℕ) (room : ℕ) : Type 0 where
  pub adm_is : admissible e.order l ≡ true
  pub read : RackRead e l rack images
  pub room_is : room ≡ l.size * layers l
  pub own : of_rack l.size rack lost ≡ true
  pub rising : strictly_rising lost ≡ true
  pub no_9 : none_with e l volume rack lost images 9 ≡ true
  pub no_10 : none_with e l volume rack lost images 10 ≡ true
  pub no_11 : none_with e l volume rack lost images 11 ≡ true

module _ (e : Edition) (l : Layout) (volume rack : ℕ) (lost images : List ℕ) (room : ℕ) where
  pub gatherable : rack_refusal e l volume rack lost images room ≡ 0 → Gatherable e l volume rack lost images room
  unfolding rack_refusal
  gatherable h =
      let p1 = passed (admissible e.order l) 1 _ (omega arith) h in
      let p2 = passed (eqb (length images) (l.size * image_length e l) && eqb room (l.size * layers l)) 2 _ (omega arith) p1.1 in
      let q2 = both (eqb (length images) (l.size * image_length e l)) (eqb room (l.size * layers l)) p2.0 in
      let p3 = passed (ltb rack l.racks && of_rack l.size rack lost) 3 _ (omega arith) p2.1 in
      let q3 = both (ltb rack l.racks) (of_rack l.size rack lost) p3.0 in
      let p4 = passed (strictly_rising lost) 4 _ (omega arith) p3.1 in
      let p5 = passed (none_with e l volume rack lost images 9) 9 _ (omega arith) p4.1 in
      let p6 = passed (none_with e l volume rack lost images 10) 10 _ (omega arith) p5.1 in
      let p7 = passed (none_with e l volume rack lost images 11) 11 0 (omega arith) p6.1 in
      record {
        adm_is = p1.0;
        read = record {
          adm = (admissible_facts e.order l p1.0).cabinet;
          rack_in = ltb-true _ _ q3.0;
          images_long = eqb-true _ _
              q2.0;
        };
        room_is = eqb-true _ _ q2.1;
        own = q3.1;
        rising = p4.0;
        no_9 = p5.0;
        no_10 = p6.0;
        no_11 = p7.0;
      }

-- ---- an image with none of these grounds is live
none_of : (n : ℕ) → 9 ≤ n → n ≤ 11 → ¬ (n ≡ 9) → ¬ (n ≡ 10) → ¬ (n ≡ 11) → ⊥
none_of n h k a b c = omega arith

module _ (e : Edition) (l : Layout) (volume x : ℕ) (s : List ℕ) where
  pub live_of : admissible e.order l ≡ true → ¬ (image_ground e l volume x s ≡ 9) → ¬ (image_ground e l volume x s ≡ 10) →
      ¬ (image_ground e l volume x s ≡ 11) → is_live e l volume x s ≡ true
  live_of h a b c = go (ℕ_discrete (image_ground e l volume x s) 0)
    where
      go : Dec (image_ground e l volume x s ≡ 0) → is_live e l volume x s ≡ true
      go (yes z) = ground_live e l volume x s z
      go (no n) = absurd (none_of (image_ground e l volume x s) (ground_high e l volume x s h n) (ground_small e l volume x s) a b c)

-- so a rack whose trays looked at are live has no ground past the first ones
pub rack_accepts : (e : Edition) (l : Layout) (volume rack : ℕ) (lost images : List ℕ) (room : ℕ) → admissible e.order l ≡ true →
    length images ≡ l.size * image_length e l → room ≡ l.size * layers l → rack < l.racks → of_rack l.size rack lost ≡ true →
    strictly_rising lost ≡ true →
    ((g : ℕ) → g < l.size → absent lost (rack * l.size + g) ≡ true →
    is_live e l volume (rack * l.size + g) (image_of e l images g) ≡ true) →
    rack_refusal e l volume rack lost images room ≡ 0
rack_accepts e l volume rack lost images room h a b c d k all =
    sym (rack_looked e l volume rack lost images room h a b c d k 0 (record {
      small = omega arith;
      found = λ n. absurd (n refl);
      least = λ g hg n. absurd (n (none g hg (absent lost (rack * l.size + g)) refl));
    }))
  where
    none : (g : ℕ) → g < l.size → (v : Bool) → absent lost (rack * l.size + g) ≡ v →
        looked_ground e l volume lost images g (rack * l.size + g) ≡ 0
    none g hg true q =
        looked_is e l volume lost images g (rack * l.size + g) q
        ∙ live_ground e l volume (rack * l.size + g) (image_of e l images g) (all g hg q)
    none g hg false q = sym (looked_lost e l volume lost images g (rack * l.size + g) false (sym q) refl)

-- ---- taking the trays
module _ (e : Edition) (l : Layout) (lost images : List ℕ) (place x : ℕ) (was is : List ℕ) where
  pub place_lost : (b : Bool) → b ≡ absent lost x → not b ≡ true → PlaceTaken e l lost images place x was was
  place_lost b q n = record {
    long = refl;
    here = λ j h. sym (ap (λ v. cond v (symbol_at e (image_of e l images place) j) (get_or was (place * layers l + j) 0)) (told_false q n));
    kept = λ g j h z. refl;
  }

  pub place_took : (b : Bool) (total : ℕ) → b ≡ absent lost x → not b ≡ false → total ≡ layers l →
      Run (symbol_at e (image_of e l images place)) was is (place * total) total → PlaceTaken e l lost images place x was is
  place_took b total q n t r = record {
    long = r.long;
    here = λ j h. at j h ∙ sym (ap (λ v. cond v (symbol_at e (image_of e l images place) j) (get_or was (place * layers l + j) 0))
        (told_true q n));
    kept = λ g j h z. other g j h z (dec_lt g place);
  }
    where
      at : (j : ℕ) → j < layers l → get_or is (place * layers l + j) 0 ≡ symbol_at e (image_of e l images place) j
      at j h = subst (λ v. get_or is (place * v + j) 0 ≡ symbol_at e (image_of e l images place) j) t (r.done j (subst (λ v. j < v) (sym t) h))

      other : (g j : ℕ) → j < layers l → ¬ (g ≡ place) → Dec (g < place) → get_or is (g * layers l + j) 0 ≡ get_or was (g * layers l + j) 0
      other g j h z (yes p) = r.low (g * layers l + j)
          (subst (λ v. g * layers l + j < place * v) (sym t) (cell_in place (layers l) g j p h))
      other g j h z (no p) =
          r.high (g * layers l + j) (subst (λ v. place * v + v ≤ g * layers l + j) (sym t)
          (let w = row_before place g (layers l) (omega arith) in omega arith))

module _ (e : Edition) (l : Layout) (rack : ℕ) (lost images was : List ℕ) where
  pub rack_none : RackTaken e l rack lost images was was 0
  rack_none = record { long = refl; here = λ g j h. absurd (omega arith); rest = λ g j h b. refl }

  pub rack_more : (g : ℕ) (is next : List ℕ) → RackTaken e l rack lost images was is g →
      PlaceTaken e l lost images g (rack * l.size + g) is next →
      RackTaken e l rack lost images was next (g + 1)
  unfolding rack_symbol
  rack_more g is next t p = record {
    long = p.long ∙ t.long;
    here = λ i j h b. at i j h b (ℕ_discrete i g);
    rest = λ i j h b. p.kept i j b (omega arith) ∙ t.rest i j (omega arith) b;
  }
    where
      at : (i j : ℕ) → i < g + 1 → j < layers l → Dec (i ≡ g) → get_or next (i * layers l + j) 0 ≡ rack_symbol e l rack lost images was i j
      at i j h b (yes z) =
          subst (λ v. get_or next (v * layers l + j) 0 ≡ rack_symbol e l rack lost images was v j) (sym z)
          (p.here j b ∙ ap (λ v. cond (absent lost (rack * l.size + g)) (symbol_at e (image_of e l images g) j) v)
          (t.rest g j (omega arith) b))
      at i j h b (no z) = p.kept i j b z ∙ t.here i j (omega arith) b

  pub rack_place : (g total : ℕ) (is : List ℕ) → RackRoom e l rack images was → total ≡ layers l → g < l.size → length is ≡ length was →
      Place e l total g images is
  rack_place g total is r q h s = record {
    read = place_read e l rack images r.read g h;
    total_is = q;
    room_in = rw (q, s, r.room_long) (row_before g l.size (layers l) h);
  }

  pub rack_end : (g n : ℕ) (is : List ℕ) → g ≤ n → n ≤ g → RackTaken e l rack lost images was is g → RackTaken e l rack lost images was is n
  rack_end g n is a b t = let z : g ≡ n = omega arith in subst (RackTaken e l rack lost images was is) z t

-- ---- the answer
module _ (e : Edition) (l : Layout) (volume rack : ℕ) (lost images was : List ℕ) where
  module _ (reason : ℕ) (q : reason ≡ rack_refusal e l volume rack lost images (length was)) where
    pub rack_kept : ¬ (reason ≡ 0) → was ≡ rack_buffer e l volume rack lost images was
    unfolding rack_buffer
    rack_kept n = simp (ne_eqb (rack_refusal e l volume rack lost images (length was)) 0 (λ z. n (q ∙ z)))

    module _ (z : reason ≡ 0) where
      facts : Gatherable e l volume rack lost images (length was)
      facts = gatherable e l volume rack lost images (length was) (sym q ∙ z)

      pub rack_room : RackRoom e l rack images was
      rack_room = record { read = facts.read; room_long = facts.room_is }

      -- every tray looked at is live
      pub looked_live : (g : ℕ) → g < l.size → absent lost (rack * l.size + g) ≡ true →
          is_live e l volume (rack * l.size + g) (image_of e l images g) ≡ true
      looked_live g h a =
          live_of e l volume (rack * l.size + g) (image_of e l images g) facts.adm_is
          (none_all e l volume rack lost images 9 facts.no_9 g h a) (none_all e l volume rack lost images 10 facts.no_10 g h a)
          (none_all e l volume rack lost images 11 facts.no_11 g h a)

      pub rack_done : (is : List ℕ) → RackTaken e l rack lost images was is l.size → is ≡ rack_buffer e l volume rack lost images was
      unfolding rack_buffer rack_symbol
      rack_done is t = simp (eq-eqb (rack_refusal e l volume rack lost images (length was)) 0 (sym q ∙ z))
          (is_table is (λ i. rack_symbol e l rack lost images was (i / layers l) (i % layers l)) (l.size * layers l)
          (t.long ∙ facts.room_is) at)
        where
          pos : 0 < layers l
          pos = let b = (bounds l facts.read.adm).layers_low in omega arith

          at : (i : ℕ) → i < l.size * layers l → get_or is i 0 ≡ rack_symbol e l rack lost images was (i / layers l) (i % layers l)
          at i h =
              let g : i / layers l < l.size = (div-lt_iff_lt-mul pos).1 h in
              subst (λ v. get_or is v 0 ≡ rack_symbol e l rack lost images was (i / layers l) (i % layers l)) (div-add-mod' i (layers l))
              (t.here (i / layers l) (i % layers l) g (mod-lt i pos))

-- the answers, where the rack's number is taken out of its kind
module _ (e : Edition) (l : Layout) (volume rack : ℕ) (lost images was : List ℕ) (i : ℕ) (n : i ≡ rack) (reason : ℕ)
    (q : reason ≡ rack_refusal e l volume i lost images (length was)) where
  pub answer_kept : ¬ (reason ≡ 0) →
      (reason ≡ rack_refusal e l volume rack lost images (length was)) × (was ≡ rack_buffer e l volume rack lost images was)
  answer_kept z = subst (λ v. (reason ≡ rack_refusal e l volume v lost images
      (length was)) × (was ≡ rack_buffer e l volume v lost images was)) n (q, rack_kept e l volume i lost images was reason q z)

  pub answer_done : reason ≡ 0 → (is : List ℕ) → RackTaken e l i lost images was is l.size →
      (0 ≡ rack_refusal e l volume rack lost images (length was)) × (is ≡ rack_buffer e l volume rack lost images was)
  answer_done z is t = subst (λ v.
      (0 ≡ rack_refusal e l volume v lost images (length was)) × (is ≡ rack_buffer e l volume v lost images was)) n
      (sym z ∙ q, rack_done e l volume i lost images was reason q z is t)
