-- A well-formed image as facts, and from the tests as the code makes them.
-- Assumes nothing.
use mathlib.Core.Path.{◌≡◌, refl, sym, ap, ◌∙◌}
use mathlib.Core.Bool.{Bool, true, false, not, ◌&&◌, false≢true}
use mathlib.Core.List.{List}
use Prim.Native.Nat.{ℕ, ◌+◌, ◌*◌, ◌≤◌, ◌<◌}
use native.Mathlib.Omega.{arith}
use lib.Dec.{eqb, leb, ltb}
use lib.ListN.{length}
use borrow.Author.Tests.{eq-eqb, eqb-true, leb-true, le-leb, lt-ltb, ltb-true}
use Rattle.lists.proofs.Bools.{both, not_true_false, told_false, told_true, all_holds, all_true}
use Rattle.layout.specs.declared.Layout.{Layout}
use Rattle.layout.specs.Layout.{layers, admissible, Cabinet, Admissible}
use Rattle.layout.proofs.Facts.{admissible_facts, facts_admissible, admitted_so}
use Rattle.image.specs.declared.Edition.{Edition}
use Rattle.image.specs.Image.{header_length, image_length, header, in_range, own_layout, own_state, own_tray, own_volume, symbol_at, begins, well_formed}
use Rattle.image.specs.Inner.{Proper, Headed, own_header, symbols_held, header_formed}
use Rattle.image.proofs.Ranges.{InRange, range_facts, facts_range}

module _ (ed : Edition) (s : List ℕ) where
  pub record HeaderFormed : Type 0 where
    pub long : header_length ≤ length s
    pub adm : Admissible ed.order (own_layout s)
    pub whole : length s ≡ image_length ed (own_layout s)
    pub range : InRange (own_layout s) (own_tray s) (own_state s) (own_volume s)
    pub front : begins s (own_header ed s) ≡ true

  pub header_facts : Proper ed → header_formed ed s ≡ true → HeaderFormed
  unfolding header_formed
  header_facts g h =
      let h4 = both _ (begins s (own_header ed s)) h in
      let h3 = both _ (in_range (own_layout s) (own_tray s) (own_state s) (own_volume s)) h4.0 in
      let h2 = both _ (eqb (length s) (image_length ed (own_layout s))) h3.0 in
      let h1 = both (leb header_length (length s)) (admissible ed.order (own_layout s)) h2.0 in
      record {
        long = leb-true _ _ h1.0;
        adm = admissible_facts _ _ h1.1;
        whole = eqb-true _ _ h2.1;
        range = range_facts _ _ _ _ h3.1;
        front = h4.1;
      }

  pub facts_header : Proper ed → HeaderFormed → header_formed ed s ≡ true
  unfolding header_formed
  facts_header g w =
      simp (
        le-leb _ _ w.long,
        sym (facts_admissible _ _ w.adm),
        eq-eqb _ _ w.whole,
        facts_range _ _ _ _ w.range,
        w.front,
      )

  header_bad : Proper ed → (HeaderFormed → ⊥) → false ≡ header_formed ed s
  header_bad g d = not_true_false (header_formed ed s) (λ e. d (header_facts g e))

  pub header_short : Proper ed → length s < header_length → false ≡ header_formed ed s
  header_short g k = header_bad g (λ w. omega (arith, w.long))

  pub header_layout : Proper ed → (own : Layout) (b : Bool) → own ≡ own_layout s → b ≡ admissible ed.order own → not b ≡ true → false ≡ header_formed ed s
  header_layout g own b o e k =
      header_bad g (λ w. false≢true (sym (told_false e k) ∙ ap (admissible ed.order) o ∙ sym (facts_admissible _ _ w.adm)))

  pub record WellFormed : Type 0 where
    pub head : HeaderFormed
    pub held : (j : ℕ) → j < layers (own_layout s) → symbol_at ed s j < ed.size

  parts : well_formed ed s ≡ (header_formed ed s && symbols_held ed s (layers (own_layout s)))
  unfolding well_formed header_formed symbols_held
  parts = refl

  pub formed_facts : Proper ed → well_formed ed s ≡ true → WellFormed
  unfolding symbols_held
  formed_facts g h =
      let p = both (header_formed ed s) (symbols_held ed s (layers (own_layout s))) (sym parts ∙ h) in
      record {
        head = header_facts g p.0;
        held = λ j k. ltb-true _ _ (all_holds (λ j. ltb (symbol_at ed s j) ed.size) (layers (own_layout s)) p.1 j k);
      }

  pub facts_formed : Proper ed → WellFormed → well_formed ed s ≡ true
  unfolding symbols_held
  facts_formed g w =
      rw parts (simp (
        facts_header g w.head,
        all_true (λ j. ltb (symbol_at ed s j) ed.size) (layers (own_layout s)) (λ j k. lt-ltb _ _ (w.held j k)),
      ))

  -- from the test of the header
  module _ (b : Bool) (e : b ≡ header_formed ed s) where
    pub formed_not : not b ≡ true → false ≡ well_formed ed s
    formed_not h = rw parts (simp (told_false e h))

    module _ (g : Proper ed) (h : not b ≡ false) where
      facts : HeaderFormed
      facts = header_facts g (told_true e h)

      pub formed_long : header_length ≤ length s
      formed_long = facts.long

      pub formed_cabinet : (own : Layout) → own ≡ own_layout s → Cabinet own
      formed_cabinet own o = rw o facts.adm.cabinet

      module _ (own : Layout) (total : ℕ) (o : own ≡ own_layout s) (t : total ≡ layers own) where
        own_total : total ≡ layers (own_layout s)
        own_total = t ∙ ap (λ m. layers m) o

        pub formed_room : header_length + ed.width * total ≤ length s
        formed_room = let f : ed.width * total ≡ ed.width * layers (own_layout s) = ap (λ n. ed.width * n) own_total in omega (arith, facts.whole, f)

        pub formed_symbols : (r : Bool) → r ≡ symbols_held ed s total → r ≡ well_formed ed s
        formed_symbols r q = rw parts (simp (told_true e h) (q ∙ ap (symbols_held ed s) own_total))

pub formed_reads : (ed : Edition) (s : List ℕ) (f : Bool) → Proper ed → f ≡ well_formed ed s → not f ≡ false → header_length ≤ length s
formed_reads ed s f g e k = (formed_facts ed s g (told_true e k)).head.long

pub headed : (ed : Edition) (own : Layout) (s : List ℕ) (a : Bool) → Proper ed → header_length ≤ length s → own ≡ own_layout s
    → a ≡ admissible ed.order own → not a ≡ false → Headed ed own s
headed ed own s a g h e f k = record { proper = g; long = h; own_is = e; adm = admitted_so ed.order own a f k }

module _ (ed : Edition) (own : Layout) (s : List ℕ) (h : Headed ed own s) where
  pub header_length_bad : (full : ℕ) → full ≡ image_length ed own → (length s ≡ full → ⊥) → false ≡ header_formed ed s
  header_length_bad full e d = header_bad ed s h.proper (λ w. d (w.whole ∙ ap (λ m. image_length ed m) (sym h.own_is) ∙ sym e))

  module _ (state x tray volume : ℕ) (b : Bool) (e : state ≡ own_state s) (f : x ≡ own_tray s) (t : tray ≡ x) (v : volume ≡ own_volume s) (g : b ≡ in_range own tray state volume) where
    own_range : b ≡ in_range (own_layout s) (own_tray s) (own_state s) (own_volume s)
    own_range = g ∙ (λ i. in_range (h.own_is i) ((t ∙ f) i) (e i) (v i))

    pub header_range_bad : not b ≡ true → false ≡ header_formed ed s
    header_range_bad k = header_bad ed s h.proper (λ w. false≢true (sym (told_false own_range k) ∙ facts_range _ _ _ _ w.range))

    -- past them all, the header decides
    pub header_decides : (full : ℕ) (head : List ℕ) (r : Bool) → not b ≡ false → full ≡ image_length ed own → length s ≡ full
        → head ≡ header ed own tray state volume → r ≡ begins s head → r ≡ header_formed ed s
    unfolding header_formed
    header_decides full head r k l-is n-is h-is r-is =
        let a : admissible ed.order (own_layout s) ≡ true = ap (admissible ed.order) (sym h.own_is) ∙ sym (facts_admissible _ own h.adm) in
        let w : length s ≡ image_length ed (own_layout s) = n-is ∙ l-is ∙ ap (λ m. image_length ed m) h.own_is in
        let q : head ≡ own_header ed s = h-is ∙ (λ i. header ed (h.own_is i) ((t ∙ f) i) (e i) (v i)) in
        simp (le-leb _ _ h.long, a, eq-eqb _ _ w, told_true own_range k) (r-is ∙ ap (begins s) q)
