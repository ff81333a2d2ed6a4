-- Gathering a whole cabinet, for any edition.
-- Assumes nothing.
use mathlib.Core.Path.{◌≡◌, refl, sym, ap, ◌∙◌, subst}
use mathlib.Core.Bool.{Bool, true, false, cond, ◌&&◌}
use mathlib.Core.List.{List, ◌++◌}
use Prim.Native.Nat.{ℕ, ◌+◌, ◌*◌, ◌/◌, ◌%◌, ◌<◌, ◌≤◌}
use native.Mathlib.Numerals.{add-one}
use native.Mathlib.Nat.{mod-lt, div-add-mod', div-lt_iff_lt-mul}
use native.Mathlib.Decide.{ℕ_discrete}
use native.Mathlib.Omega.{arith}
use borrow.Author.Tests.{eq-eqb, ne_eqb, eqb-true}
use lib.Dec.{eqb}
use lib.ListN.{length, get_or, set, drop, length-set}
use Rattle.lists.proofs.Bools.{passed, both}
use Rattle.lists.proofs.Numbers.{cell_in}
use Rattle.lists.proofs.Tables.{is_table}
use Rattle.kernel.specs.Inner.{Run}
use Rattle.kernel.proofs.Rows.{row_before}
use Rattle.layout.specs.declared.Layout.{Layout}
use Rattle.layout.specs.Layout.{trays, layers, admissible, Admissible}
use Rattle.layout.proofs.Facts.{admissible_facts, bounds}
use Rattle.image.specs.declared.Edition.{Edition}
use Rattle.image.specs.Image.{image_length}
use Rattle.gather.specs.Gathering.{present, shown_symbol, gathered_codeword, missing_of, missing_trays, gather_refusal, GatherAnswer}
use Rattle.gather.specs.Inner.{Place, Gathering, GatheredAll}
use Rattle.gather.proofs.Missing.{missing_few, written_on, counted_on, left_on, counted_left}

-- ---- the loop over the trays
module _ (e : Edition) (l : Layout) (volume : ℕ) (images c m : List ℕ) where
  -- the trays below x
  pub record GatheredTo (x : ℕ) (d k : List ℕ) (count : ℕ) : Type 0 where
    pub long : length d ≡ length c
    pub symbols : (y j : ℕ) → y < x → j < layers l → get_or d (y * layers l + j) 0 ≡ shown_symbol e l volume images y j
    pub list_long : length k ≡ length m
    pub list_is : k ≡ missing_of (present e l volume images) x ++ drop (length (missing_of (present e l volume images) x)) m
    pub count_is : count ≡ length (missing_of (present e l volume images) x)

  pub gathered_none : GatheredTo 0 c m 0
  unfolding missing_of
  gathered_none = record { long = refl; symbols = λ y j h. absurd (omega arith); list_long = refl; list_is = refl; count_is = refl }

  pub place_of : (x n total : ℕ) (d : List ℕ) → Gathering e l images c m → n ≡ trays l → total ≡ layers l → x < n → length d ≡ length c →
      Place e l total x images d
  place_of x n total d g p q h s = record {
    read = record {
      adm = g.adm;
      image_in = subst (λ y. x * image_length e l + image_length e l ≤ y) (sym g.images_long)
          (row_before x (trays l) (image_length e l) (omega arith));
    };
    total_is = q;
    room_in = rw (q, s, g.room_long) (row_before x (trays l) (layers l) (omega arith));
  }

  pub note_in : (x n count : ℕ) (d k : List ℕ) → Gathering e l images c m → n ≡ trays l → x < n → GatheredTo x d k count →
      (count < length k) × (count < 60)
  note_in x n count d k g p h t =
      let a = g.adm.trays_high in
      let b = missing_few (present e l volume images) x in
      let q = t.count_is in
      let s = t.list_long in
      let u = g.list_long in
      (omega arith, omega arith)

  module _ (x total : ℕ) (d k d' k' : List ℕ) (count count' : ℕ) (there : Bool) (g : Gathering e l images c m) (h : x < trays l)
      (q : total ≡ layers l) (t : GatheredTo x d k count)
      (a : there ≡ present e l volume images x) (r : Run (shown_symbol e l volume images x) d d' (x * total) total)
      (n : count' ≡ cond there count (count + 1)) (w : k' ≡ cond there k (set k count x)) where
    at : (y j : ℕ) → y < x + 1 → j < layers l → Dec (y ≡ x) → get_or d' (y * layers l + j) 0 ≡ shown_symbol e l volume images y j
    at y j b s (yes z) =
        subst (λ v. get_or d' (v * layers l + j) 0 ≡ shown_symbol e l volume images v j) (sym z)
        (subst (λ v. get_or d' (x * v + j) 0 ≡ shown_symbol e l volume images x j) q (r.done j (subst (λ v. j < v) (sym q) s)))
    at y j b s (no z) = r.low (y * layers l + j)
        (subst (λ v. y * layers l + j < x * v) (sym q) (cell_in x (layers l) y j (omega arith) s)) ∙ t.symbols y j (omega arith) s

    low : count < length m
    low = let u = missing_few (present e l volume images) x in let v = t.count_is in let o = g.list_long in omega arith

    on : (b : Bool) → there ≡ b → GatheredTo (x + 1) d' k' count'
    on true z =
        let p = sym a ∙ z in
        let kk = w ∙ ap (λ b. cond b k (set k count x)) z in
        record {
          long = r.long ∙ t.long;
          symbols = λ y j b s. at y j b s (ℕ_discrete y x);
          list_long = ap length kk ∙ t.list_long;
          list_is = kk ∙ rw (add-one x) (left_on (present e l volume images) m k x count t.list_is t.count_is p);
          count_is = n ∙ ap (λ b. cond b count (count + 1)) z
              ∙ rw (add-one x) (counted_left (present e l volume images) m k x count t.list_is t.count_is p);
        }
    on false z =
        let p = sym a ∙ z in
        let kk = w ∙ ap (λ b. cond b k (set k count x)) z in
        record {
          long = r.long ∙ t.long;
          symbols = λ y j b s. at y j b s (ℕ_discrete y x);
          list_long = ap length kk ∙ length-set k count x ∙ t.list_long;
          list_is = kk ∙ rw (add-one x) (written_on (present e l volume images) m k x count t.list_is t.count_is low p);
          count_is = n ∙ ap (λ b. cond b count (count + 1)) z
              ∙ rw (add-one x) (counted_on (present e l volume images) m k x count t.list_is t.count_is p);
        }

    pub gathered_more : GatheredTo (x + 1) d' k' count'
    gathered_more = on there refl

  pub gathered_end : (x n : ℕ) (d k : List ℕ) (count : ℕ) → n ≡ trays l → x ≤ n → n ≤ x → GatheredTo x d k count →
      GatheredAll e l volume images c m d k count
  unfolding missing_trays
  gathered_end x n d k count p a b t =
      let z : x ≡ trays l = omega arith in
      record {
        count_is = t.count_is ∙ ap (λ v. length (missing_of (present e l volume images) v)) z;
        long = t.long;
        symbols = λ y j h s. t.symbols y j (omega arith) s;
        list_is = t.list_is ∙ ap (λ v. missing_of (present e l volume images) v ++ drop
            (length (missing_of (present e l volume images) v)) m) z;
      }

-- ---- the grounds
module _ (e : Edition) (l : Layout) (images room places : ℕ) where
  pub gather_1 : admissible e.order l ≡ false → 1 ≡ gather_refusal e l images room places
  unfolding gather_refusal
  gather_1 h = simp h

  module _ (h : admissible e.order l ≡ true) where
    pub gather_2_images : (images ≡ trays l * image_length e l → ⊥) → 2 ≡ gather_refusal e l images room places
    unfolding gather_refusal
    gather_2_images k = simp (h, ne_eqb _ _ k)

    module _ (a : images ≡ trays l * image_length e l) where
      pub gather_2_room : (room ≡ trays l * layers l → ⊥) → 2 ≡ gather_refusal e l images room places
      unfolding gather_refusal
      gather_2_room k = simp (h, eq-eqb _ _ a, ne_eqb _ _ k)

      module _ (b : room ≡ trays l * layers l) where
        pub gather_2_list : (places ≡ trays l → ⊥) → 2 ≡ gather_refusal e l images room places
        unfolding gather_refusal
        gather_2_list k = simp (h, eq-eqb _ _ a, eq-eqb _ _ b, ne_eqb _ _ k)

        pub gather_0 : places ≡ trays l → 0 ≡ gather_refusal e l images room places
        unfolding gather_refusal
        gather_0 k = simp (h, eq-eqb _ _ a, eq-eqb _ _ b, eq-eqb _ _ k)

-- ---- the answer
module _ (e : Edition) (l : Layout) (volume : ℕ) (images c m : List ℕ) where
  pub gather_facts : gather_refusal e l (length images) (length c) (length m) ≡ 0 → Admissible e.order l × Gathering e l images c m
  unfolding gather_refusal
  gather_facts h =
      let p = passed (admissible e.order l) 1 _ (omega arith) h in
      let q = passed (eqb (length images) (trays l * image_length e l) && eqb (length c) (trays l * layers l) && eqb (length m) (trays l)) 2
      0 (omega arith) p.1 in
      let r = both (eqb (length images) (trays l * image_length e l) && eqb (length c) (trays l * layers l)) (eqb (length m) (trays l))
      q.0 in
      let s = both (eqb (length images) (trays l * image_length e l)) (eqb (length c) (trays l * layers l)) r.0 in
      let a = admissible_facts e.order l p.0 in
      (a, record { adm = a.cabinet; images_long = eqb-true _ _ s.0; room_long = eqb-true _ _ s.1; list_long = eqb-true _ _ r.1 })

  module _ (r : ℕ) (q : r ≡ gather_refusal e l (length images) (length c) (length m)) where
    pub gather_refused : ¬ (r ≡ 0) → GatherAnswer e l volume images c m c m (record { refusal = r; count = 0 })
    gather_refused n = record {
      answer = q;
      unchanged = λ z. (refl, refl, refl);
      count_is = λ z. absurd (n z);
      codeword_is = λ z. absurd (n z);
      list_is = λ z. absurd (n z);
    }

    pub gather_told : r ≡ 0 → Gathering e l images c m
    gather_told z = (gather_facts (sym q ∙ z)).1

    pub gather_done : r ≡ 0 → (d k : List ℕ) (count : ℕ) → GatheredAll e l volume images c m d k count →
        GatherAnswer e l volume images c m d k (record { refusal = 0; count = count })
    unfolding gathered_codeword
    gather_done z d k count g = record {
      answer = sym z ∙ q;
      unchanged = λ n. absurd (n refl);
      count_is = λ n. g.count_is;
      codeword_is = λ n. whole;
      list_is = λ n. g.list_is;
    }
      where
        told : Gathering e l images c m
        told = gather_told z

        pos : 0 < layers l
        pos = let b = (bounds l told.adm).layers_low in omega arith

        long : length d ≡ trays l * layers l
        long = g.long ∙ told.room_long

        at : (i : ℕ) → i < trays l * layers l → get_or d i 0 ≡ shown_symbol e l volume images (i / layers l) (i % layers l)
        at i h = subst (λ v. get_or d v 0 ≡ shown_symbol e l volume images (i / layers l) (i % layers l)) (div-add-mod' i (layers l))
            (g.symbols (i / layers l) (i % layers l) ((div-lt_iff_lt-mul pos).1 h) (mod-lt i pos))

        whole : d ≡ gathered_codeword e l volume images
        whole = is_table d (λ i. shown_symbol e l volume images (i / layers l) (i % layers l)) (trays l * layers l) long at
