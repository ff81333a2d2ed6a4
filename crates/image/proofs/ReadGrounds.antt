-- The grounds of a read one by one, from the tests as the code makes them, and what is handed out.
-- Assumes nothing.
use mathlib.Core.Path.{◌≡◌, sym, ap, ◌∙◌}
use mathlib.Core.Bool.{Bool, true, false, not}
use mathlib.Core.List.{List}
use Prim.Native.Nat.{ℕ, ◌≤◌, ◌<◌}
use native.Mathlib.Omega.{arith}
use lib.Dec.{eqb, lit<}
use lib.ListN.{length}
use borrow.Author.Tests.{eq-eqb, ne_eqb, eqb-true}
use Rattle.lists.proofs.Bools.{passed, both, told_false, told_true}
use Rattle.layout.specs.declared.Layout.{Layout}
use Rattle.layout.specs.Layout.{layers, admissible, Admissible}
use Rattle.layout.proofs.Facts.{admissible_facts}
use Rattle.image.specs.declared.Edition.{Edition}
use Rattle.image.specs.Image.{header_length, live, own_layout, own_state, own_tray, own_volume, own_symbols, well_formed, same_layout, read_refusal, read_tray, read_symbols}
use Rattle.image.specs.Inner.{Proper, expected, formed_refusal}
use Rattle.image.proofs.SameLayout.{same_facts}
use Rattle.image.proofs.Forms.{WellFormed, formed_facts}

-- the layout and volume expected
module _ (l : Layout) (volume : ℕ) (s : List ℕ) (own : Layout) (b : Bool) (w : own ≡ own_layout s) (p : b ≡ same_layout l own) where
  pub expected_volume : not b ≡ false → (v : ℕ) → v ≡ own_volume s → eqb volume v ≡ expected l volume s
  expected_volume r v u = simp (ap (same_layout l) (sym w) ∙ told_true p r) (ap (eqb volume) u)

-- the grounds of a well-formed image
module _ (l : Layout) (volume : ℕ) (s : List ℕ) (state : ℕ) (o : state ≡ own_state s) where
  pub formed_10 : (state ≡ live → ⊥) → 10 ≡ formed_refusal l volume s
  unfolding formed_refusal
  formed_10 d = simp (ne_eqb _ _ (λ q. d (o ∙ q)))

  module _ (n : state ≡ live) (b : Bool) (p : b ≡ expected l volume s) where
    pub formed_11 : not b ≡ true → 11 ≡ formed_refusal l volume s
    unfolding formed_refusal
    formed_11 r = simp (eq-eqb _ _ (sym o ∙ n), told_false p r)

    pub formed_0 : not b ≡ false → 0 ≡ formed_refusal l volume s
    unfolding formed_refusal
    formed_0 r = simp (eq-eqb _ _ (sym o ∙ n), told_true p r)

module _ (ed : Edition) (l : Layout) (volume places : ℕ) (s : List ℕ) where
  pub read_1 : (a : Bool) → a ≡ admissible ed.order l → not a ≡ true → 1 ≡ read_refusal ed l volume places s
  unfolding read_refusal
  read_1 a e h = simp (told_false e h)

  module _ (a : Bool) (e : a ≡ admissible ed.order l) (h : not a ≡ false) where
    pub read_2 : (total : ℕ) → total ≡ layers l → (places ≡ total → ⊥) → 2 ≡ read_refusal ed l volume places s
    unfolding read_refusal
    read_2 total t d = simp (told_true e h, ne_eqb places (layers l) (λ q. d (q ∙ sym t)))

    module _ (total : ℕ) (t : total ≡ layers l) (p : places ≡ total) (f : Bool) (g : f ≡ well_formed ed s) where
      pub read_9 : not f ≡ true → 9 ≡ read_refusal ed l volume places s
      unfolding read_refusal
      read_9 k = simp (told_true e h, eq-eqb places (layers l) (p ∙ t), told_false g k)

      pub read_formed : not f ≡ false → (r : ℕ) → r ≡ formed_refusal l volume s → r ≡ read_refusal ed l volume places s
      unfolding read_refusal formed_refusal
      read_formed k r q = simp (told_true e h, eq-eqb places (layers l) (p ∙ t), told_true g k) q

  -- what lets a read through
  pub record Readable : Type 0 where
    pub adm : Admissible ed.order l
    pub places_is : places ≡ layers l
    pub formed : WellFormed ed s
    pub live_is : own_state s ≡ live
    pub layout_is : l ≡ own_layout s
    pub volume_is : volume ≡ own_volume s

  pub readable : Proper ed → read_refusal ed l volume places s ≡ 0 → Readable
  unfolding read_refusal
  readable g h =
      let p = passed (admissible ed.order l) 1 _ (lit< tt) h in
      let n = passed (eqb places (layers l)) 2 _ (lit< tt) p.1 in
      let q = passed (well_formed ed s) 9 _ (lit< tt) n.1 in
      let r = passed (eqb (own_state s) live) 10 _ (lit< tt) q.1 in
      let t = passed (expected l volume s) 11 _ (lit< tt) r.1 in
      let same = both (same_layout l (own_layout s)) (eqb volume (own_volume s)) t.0 in
      record {
        adm = admissible_facts ed.order l p.0;
        places_is = eqb-true _ _ n.0;
        formed = formed_facts ed s g q.0;
        live_is = eqb-true _ _ r.0;
        layout_is = same_facts l (own_layout s) same.0;
        volume_is = eqb-true _ _ same.1;
      }

  -- what is handed out
  module _ (e : ℕ) (q : e ≡ read_refusal ed l volume places s) where
    pub refused_symbols : (refused : List ℕ) → (e ≡ 0 → ⊥) → refused ≡ read_symbols ed l volume places refused s
    unfolding read_symbols
    refused_symbols refused d = simp (ne_eqb _ _ (λ z. d (q ∙ z)))

    pub refused_tray : (e ≡ 0 → ⊥) → 0 ≡ read_tray ed l volume places s
    unfolding read_tray
    refused_tray d = simp (ne_eqb _ _ (λ z. d (q ∙ z)))

    module _ (z : e ≡ 0) where
      pub given_0 : 0 ≡ read_refusal ed l volume places s
      given_0 = sym z ∙ q

      pub given_long : Proper ed → header_length ≤ length s
      given_long g = (readable g (sym given_0)).formed.head.long

      pub given_byte : Proper ed → (n : ℕ) → n < header_length → n < length s
      given_byte g n h = omega (arith, given_long g)

      pub given_symbols : (refused : List ℕ) → own_symbols ed s ≡ read_symbols ed l volume places refused s
      unfolding read_symbols
      given_symbols refused = simp (eq-eqb _ _ (sym given_0))

      pub given_tray : (x t : ℕ) → x ≡ own_tray s → t ≡ x → t ≡ read_tray ed l volume places s
      unfolding read_tray
      given_tray x t o p = simp (eq-eqb _ _ (sym given_0)) (p ∙ o)
