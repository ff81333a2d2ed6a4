-- The grounds for refusing shares, one by one, and what holds where none applies: once for all calls, over the number of shares and of trays lent.
-- Assumes nothing.
use mathlib.Core.Path.{◌≡◌, refl, sym, ap, ap₂, ◌∙◌, subst}
use mathlib.Core.Bool.{Bool, true, false, not, cond, ◌&&◌}
use mathlib.Core.List.{List}
use Prim.Native.Nat.{ℕ, ◌+◌, ◌*◌, ◌/◌, ◌%◌, ◌≤◌, ◌<◌}
use native.Mathlib.Nat.{one-mul, zero-add, mul_assoc, div-lt_iff_lt-mul, mod-lt}
use native.Mathlib.Decide.{dec_lt}
use native.Mathlib.Omega.{arith}
use lib.Arith.{digits_div}
use lib.Dec.{eqb, ltb}
use lib.ListN.{length, get_or, drop}
use lib.Seq.{get_or-take, get_or-drop}
use borrow.Author.Tests.{eq-eqb, ne_eqb, lt-ltb, eqb-true, eqb-false, ltb-true, not-true}
use Rattle.lists.proofs.Numbers.{cell_in}
use Rattle.lists.proofs.Bools.{both, and_true, not_both, passed, not_true_false, told_false, told_true}
use Rattle.algebra.specs.Coding.{InRange}
use Rattle.algebra.specs.Shape.{Field}
use Rattle.algebra.specs.Plain.{Working}
use Rattle.layout.specs.declared.Layout.{Layout}
use Rattle.layout.specs.Layout.{layers, groups, admissible, admissible_with, lost_count_fits, Cabinet, Admissible}
use Rattle.layout.proofs.Facts.{admissible_facts, facts_admissible, with_facts, with_other, with_same, size_pos, fits, fits_so}
use Rattle.codeword.specs.Codeword.{Codeword}
use Rattle.rule.specs.Rule.{rack_part}
use Rattle.rule.proofs.Racks.{rack_long}
use Rattle.range.specs.Range.{symbols_from}
use Rattle.range.proofs.Symbols.{symbols_true, symbols_all}
use Rattle.share.specs.One.{share_refusal, add_refusal}
use Rattle.share.specs.Many.{shares_of, fed_many, shares_refusal, shares_buffer, fed_refusal, fed_buffer, many_refusal, many_buffer, add_many_refusal, add_many_buffer}
use Rattle.share.specs.Inner.{grounds}

-- what holds where e shares are not refused
pub record Shareable (N : ℕ) (l : Layout) (e lent host helper given room : ℕ) (symbols : Bool) : Type 0 where
  pub adm : Admissible N l
  pub long : given ≡ lent * layers l
  pub room_long : room ≡ e * groups l
  pub host_in : host < l.racks
  pub helper_in : helper < l.racks
  pub symbols_so : symbols ≡ true
  pub some : 0 < e
  pub few : e + l.dimension % l.size ≤ l.size
  pub differ : ¬ (host ≡ helper)

-- a whole buffer
pub symbols_in : {A : Type 0} (f : Field A) (xs : List ℕ) → ((k : ℕ) → k < length xs → get_or xs k 0 < f.coding.size) → symbols_from f xs 0 (length xs) ≡ true
symbols_in f xs h = sym (symbols_true f xs 0 (length xs) (λ k t. subst (λ n. get_or xs n 0 < f.coding.size) (sym (zero-add k)) (h k t)))

pub symbols_range : {A : Type 0} (f : Field A) (xs : List ℕ) → symbols_from f xs 0 (length xs) ≡ true → InRange f.coding xs
symbols_range f xs t = record { at = λ k h. subst (λ n. get_or xs n 0 < f.coding.size) (zero-add k) (symbols_all f xs 0 (length xs) t k h) }

-- a rack of a codeword has symbols only
pub rack_symbols : {A : Type 0} (f : Field A) (l : Layout) (c : List ℕ) → Codeword f l c → (i : ℕ) → i < l.racks → symbols_from f (rack_part l c i) 0 (length (rack_part l c i)) ≡ true
unfolding rack_part
rack_symbols f l c w i inside = symbols_in f (rack_part l c i) (λ n h.
    let m : n < l.size * layers l = rw (rack_long l c i inside w.long) at h in
    rw (get_or-take (l.size * layers l) (drop (i * (l.size * layers l)) c) n 0 m ∙ get_or-drop (i * (l.size * layers l)) c n 0)
    (w.symbols.at _ (rw (w.long, mul_assoc l.racks l.size (layers l)) (cell_in l.racks (l.size * layers l) i n inside m))))

-- what is looked at where there is a share to make
seen_so : (e : ℕ) (b : Bool) → 0 < e → cond (eqb e 0) true b ≡ true → b ≡ true
seen_so e b h t = sym (ap (λ y. cond y true b) (ne_eqb e 0 (λ q. omega arith))) ∙ t

seen_all : (e : ℕ) (b : Bool) → 0 < e → b ≡ true → cond (eqb e 0) true b ≡ true
seen_all e b h t = ap (λ y. cond y true b) (ne_eqb e 0 (λ q. omega arith)) ∙ t

pub some_seen : (e : ℕ) (b : Bool) → (e ≡ 0 → ⊥) → b ≡ cond (eqb e 0) true b
some_seen e b q = sym (ap (λ y. cond y true b) (ne_eqb e 0 q))

module _ (N : ℕ) (l : Layout) (e lent host helper given room : ℕ) (symbols : Bool) where
  pub ground_1 : admissible N l ≡ false → 1 ≡ grounds N l e lent host helper given room symbols
  unfolding grounds
  ground_1 h = simp h

  pub ground_2 : admissible N l ≡ true → (given ≡ lent * layers l → room ≡ e * groups l → ⊥) → 2 ≡ grounds N l e lent host helper given room symbols
  unfolding grounds
  ground_2 h k = simp (h, not_both _ _ (λ p q. k (eqb-true _ _ p) (eqb-true _ _ q)))

  module _ (h : admissible N l ≡ true) (g : given ≡ lent * layers l) (r : room ≡ e * groups l) where
    pub ground_3 : (host < l.racks → helper < l.racks → ⊥) → 3 ≡ grounds N l e lent host helper given room symbols
    unfolding grounds
    ground_3 k = simp (h, eq-eqb _ _ g, eq-eqb _ _ r, not_both _ _ (λ p q. k (ltb-true _ _ p) (ltb-true _ _ q)))

    module _ (p : host < l.racks) (q : helper < l.racks) where
      pub ground_3_symbols : cond (eqb e 0) true symbols ≡ false → 3 ≡ grounds N l e lent host helper given room symbols
      unfolding grounds
      ground_3_symbols k = simp (h, eq-eqb _ _ g, eq-eqb _ _ r, lt-ltb _ _ p, lt-ltb _ _ q, k)

      module _ (y : cond (eqb e 0) true symbols ≡ true) where
        pub ground_12 : lost_count_fits l e ≡ false → 12 ≡ grounds N l e lent host helper given room symbols
        unfolding grounds
        ground_12 k = simp (h, eq-eqb _ _ g, eq-eqb _ _ r, lt-ltb _ _ p, lt-ltb _ _ q, y, k)

        module _ (c : lost_count_fits l e ≡ true) where
          pub ground_6 : host ≡ helper → 6 ≡ grounds N l e lent host helper given room symbols
          unfolding grounds
          ground_6 k = simp (h, eq-eqb _ _ g, eq-eqb _ _ r, lt-ltb _ _ p, lt-ltb _ _ q, y, c, eq-eqb _ _ k)

          pub ground_0 : (host ≡ helper → ⊥) → 0 ≡ grounds N l e lent host helper given room symbols
          unfolding grounds
          ground_0 k = simp (h, eq-eqb _ _ g, eq-eqb _ _ r, lt-ltb _ _ p, lt-ltb _ _ q, y, c, ne_eqb _ _ k)

  pub shareable : grounds N l e lent host helper given room symbols ≡ 0 → Shareable N l e lent host helper given room symbols
  unfolding grounds
  shareable h =
      let p1 = passed (admissible N l) 1 _ (omega arith) h in
      let p2 = passed (eqb given (lent * layers l) && eqb room (e * groups l)) 2 _ (omega arith) p1.1 in
      let p3 = passed (ltb host l.racks && ltb helper l.racks && cond (eqb e 0) true symbols) 3 _ (omega arith) p2.1 in
      let p12 = passed (lost_count_fits l e) 12 _ (omega arith) p3.1 in
      let p6 = passed (not (eqb host helper)) 6 _ (omega arith) p12.1 in
      let lengths = both _ _ p2.0 in
      let inside = both (ltb host l.racks && ltb helper l.racks) _ p3.0 in
      let racks = both _ _ inside.0 in
      let count = fits_so l e p12.0 in
      record {
        adm = admissible_facts N l p1.0;
        long = eqb-true _ _ lengths.0;
        room_long = eqb-true _ _ lengths.1;
        host_in = ltb-true _ _ racks.0;
        helper_in = ltb-true _ _ racks.1;
        symbols_so = seen_so e symbols count.0 inside.1;
        some = count.0;
        few = count.1;
        differ = eqb-false _ _ (not-true _ p6.0);
      }

-- a tray is in the layout where its rack is
in_rack : (x b u : ℕ) → 0 < u → ltb (x / u) b ≡ ltb x (b * u)
in_rack x b u pos = go (dec_lt x (b * u))
  where
    go : Dec (x < b * u) → ltb (x / u) b ≡ ltb x (b * u)
    go (yes h) = lt-ltb _ _ ((div-lt_iff_lt-mul pos).1 h) ∙ sym (lt-ltb _ _ h)
    go (no h) = sym (not_true_false _ (λ e. h ((div-lt_iff_lt-mul pos).0 (ltb-true _ _ e)))) ∙ not_true_false _ (λ e. h (ltb-true _ _ e))

module _ {A : Type 0} {f : Field A} (W : Working f) (l : Layout) where
  -- the whole-rack call lends u trays
  module _ (e host helper : ℕ) (rack : List ℕ) (room : ℕ) where
    pub rack_grounds_lem : grounds f.order l e l.size host helper (length rack) room (symbols_from f rack 0 (length rack)) ≡ shares_refusal f l e host helper rack room
    unfolding grounds shares_refusal
    rack_grounds_lem = refl

    pub rack_ground_1 : admissible f.order l ≡ false → 1 ≡ shares_refusal f l e host helper rack room
    unfolding shares_refusal
    rack_ground_1 h = simp h

    pub rack_shareable : shares_refusal f l e host helper rack room ≡ 0 →
        Shareable f.order l e l.size host helper (length rack) room (symbols_from f rack 0 (length rack))
    rack_shareable h = shareable f.order l e l.size host helper (length rack) room _ (rack_grounds_lem ∙ h)

  -- the call for a tray lends one, and looks at the shares as well
  module _ (e host x : ℕ) (symbols held : List ℕ) where
    abbrev tray_seen : Bool
    tray_seen = symbols_from f symbols 0 (length symbols) && symbols_from f held 0 (length held)

    pub tray_grounds_lem : Admissible f.order l → grounds f.order l e 1 host (x / l.size) (length symbols) (length held) tray_seen ≡ fed_refusal f l e host x symbols held
    unfolding grounds fed_refusal
    tray_grounds_lem a = simp (sym (facts_admissible f.order l a), one-mul (layers l), in_rack x l.racks l.size (size_pos l a.cabinet))

    pub tray_ground_1 : admissible f.order l ≡ false → 1 ≡ fed_refusal f l e host x symbols held
    unfolding fed_refusal
    tray_ground_1 h = simp h

    tray_admissible : fed_refusal f l e host x symbols held ≡ 0 → Admissible f.order l
    unfolding fed_refusal
    tray_admissible h = admissible_facts f.order l (passed (admissible f.order l) 1 _ (omega arith) h).0

    pub tray_shareable : fed_refusal f l e host x symbols held ≡ 0 → Shareable f.order l e 1 host (x / l.size) (length symbols) (length held) tray_seen
    tray_shareable h = shareable f.order l e 1 host (x / l.size) (length symbols) (length held) tray_seen (tray_grounds_lem (tray_admissible h) ∙ h)

  -- the same tray is not refused where the shares hold something else
  pub tray_ground_0 : (e host x : ℕ) (symbols held : List ℕ) (old : ℕ) (b : Bool) → Shareable f.order l e 1 host (x / l.size) (length symbols) old
      (symbols_from f symbols 0 (length symbols) && b) →
      length held ≡ old → symbols_from f held 0 (length held) ≡ true → 0 ≡ fed_refusal f l e host x symbols held
  tray_ground_0 e host x symbols held old b s long range =
      ground_0 f.order l e 1 host (x / l.size) (length symbols) (length held) _ (sym (facts_admissible f.order l s.adm)) s.long (long ∙ s.room_long) s.host_in s.helper_in
      (seen_all e _ s.some (and_true _ _ (both (symbols_from f symbols 0 (length symbols)) b s.symbols_so).0 range)) (sym (fits l e s.some s.few)) s.differ
      ∙ tray_grounds_lem e host x symbols held s.adm

  -- the tray at place g of rack i is not refused
  pub tray_done : (e host i g : ℕ) (symbols held : List ℕ) →
      Shareable f.order l e 1 host i (length symbols) (length held) (symbols_from f symbols 0 (length symbols) && symbols_from f held 0 (length held)) →
      g < l.size → fed_refusal f l e host (i * l.size + g) symbols held ≡ 0
  tray_done e host i g symbols held s h =
      sym (tray_grounds_lem e host (i * l.size + g) symbols held s.adm)
      ∙ ap (λ k. grounds f.order l e 1 host k (length symbols) (length held) (symbols_from f symbols 0 (length symbols) && symbols_from f held 0 (length held))) (digits_div i h)
      ∙ sym (ground_0 f.order l e 1 host i (length symbols) (length held) _ (sym (facts_admissible f.order l s.adm)) s.long s.room_long s.host_in s.helper_in
      (seen_all e _ s.some s.symbols_so) (sym (fits l e s.some s.few)) s.differ)

-- with e = 1 the refusals are those of the calls for one share: 12 never applies
pub one_few : (l : Layout) → Cabinet l → 1 + l.dimension % l.size ≤ l.size
one_few l a = omega (arith, mod-lt l.dimension (size_pos l a))

module _ {A : Type 0} {f : Field A} (W : Working f) (l : Layout) where
  one_fits : admissible f.order l ≡ true → lost_count_fits l 1 ≡ true
  one_fits h = sym (fits l 1 (omega arith) (one_few l (admissible_facts f.order l h).cabinet))

  pub one_refusal : (host y : ℕ) (rack : List ℕ) (room : ℕ) → shares_refusal f l 1 host y rack room ≡ share_refusal f l host y rack room
  one_refusal host y rack room = go (admissible f.order l) refl
    where
      go : (b : Bool) → admissible f.order l ≡ b → shares_refusal f l 1 host y rack room ≡ share_refusal f l host y rack room
      go true h = unfold shares_refusal share_refusal in simp (h, one-mul (groups l), one_fits h)
      go false h = unfold shares_refusal share_refusal in simp h

  pub one_add_refusal : (host y : ℕ) (symbols held : List ℕ) → fed_refusal f l 1 host y symbols held ≡ add_refusal f l host y symbols held
  one_add_refusal host y symbols held = go (admissible f.order l) refl
    where
      go : (b : Bool) → admissible f.order l ≡ b → fed_refusal f l 1 host y symbols held ≡ add_refusal f l host y symbols held
      go true h = unfold fed_refusal add_refusal in simp (h, one-mul (groups l), one_fits h)
      go false h = unfold fed_refusal add_refusal in simp h

module _ {A : Type 0} (f : Field A) (l : Layout) (e host helper : ℕ) (rack out : List ℕ) where
  pub buffer_refused : (shares_refusal f l e host helper rack (length out) ≡ 0 → ⊥) → out ≡ shares_buffer f l e host helper rack out
  unfolding shares_buffer
  buffer_refused h = simp (ne_eqb (shares_refusal f l e host helper rack (length out)) 0 h)

  pub buffer_done : shares_refusal f l e host helper rack (length out) ≡ 0 → shares_of f l e host rack ≡ shares_buffer f l e host helper rack out
  unfolding shares_buffer
  buffer_done h = simp (eq-eqb (shares_refusal f l e host helper rack (length out)) 0 h)

module _ {A : Type 0} (f : Field A) (l : Layout) (e host x : ℕ) (symbols held : List ℕ) where
  pub add_refused : (fed_refusal f l e host x symbols held ≡ 0 → ⊥) → held ≡ fed_buffer f l e host x symbols held
  unfolding fed_buffer
  add_refused h = simp (ne_eqb (fed_refusal f l e host x symbols held) 0 h)

  pub add_done : fed_refusal f l e host x symbols held ≡ 0 → fed_many f l e host x symbols held ≡ fed_buffer f l e host x symbols held
  unfolding fed_buffer
  add_done h = simp (eq-eqb (fed_refusal f l e host x symbols held) 0 h)

-- the calls with e: with E = 0 they do what is done with either E, with another they answer 1 and write nothing
module _ {A : Type 0} (f : Field A) (l : Layout) where
  -- a ground that is 1 where a test fails is 0 only where it passes
  with_zero : (n : ℕ) → n ≡ 1 → ¬ (n ≡ 0)
  with_zero n e z = omega arith

  module _ (e host helper : ℕ) (rack out : List ℕ) where
    pub many_refused : ¬ (l.errors ≡ 0) → (1 ≡ many_refusal f l e host helper rack (length out)) × (out ≡ many_buffer f l e host helper rack out)
    many_refused d = (one, rest (ne_eqb _ 0 (with_zero _ (sym one))))
      where
        one : 1 ≡ many_refusal f l e host helper rack (length out)
        one = unfold many_refusal in simp (sym (with_other f.order 0 l d))

        rest : eqb (many_refusal f l e host helper rack (length out)) 0 ≡ false → out ≡ many_buffer f l e host helper rack out
        rest q = unfold many_buffer in simp q

    pub many_plain : many_refusal f l e host helper rack (length out) ≡ 0 → l.errors ≡ 0
    unfolding many_refusal
    many_plain h = (with_facts f.order 0 l (passed (admissible_with f.order 0 l) 1 _ (omega arith) h).0).errors_are

    pub many_same : l.errors ≡ 0 → shares_refusal f l e host helper rack (length out) ≡ many_refusal f l e host helper rack (length out)
    unfolding shares_refusal many_refusal
    many_same z = simp (sym (with_same f.order 0 l (admissible f.order l) z refl))

    pub many_done : (r : ℕ) (is : List ℕ) → l.errors ≡ 0 → r ≡ shares_refusal f l e host helper rack (length out) → is ≡ shares_buffer f l e host helper rack out →
        (r ≡ many_refusal f l e host helper rack (length out)) × (is ≡ many_buffer f l e host helper rack out)
    unfolding shares_buffer many_buffer
    many_done r is z p q = (p ∙ many_same z, q ∙ ap (λ n. cond (eqb n 0) (shares_of f l e host rack) out) (many_same z))

  module _ (e host x : ℕ) (symbols held : List ℕ) where
    pub add_many_refused : ¬ (l.errors ≡ 0) → (1 ≡ add_many_refusal f l e host x symbols held) × (held ≡ add_many_buffer f l e host x symbols held)
    add_many_refused d = (one, rest (ne_eqb _ 0 (with_zero _ (sym one))))
      where
        one : 1 ≡ add_many_refusal f l e host x symbols held
        one = unfold add_many_refusal in simp (sym (with_other f.order 0 l d))

        rest : eqb (add_many_refusal f l e host x symbols held) 0 ≡ false → held ≡ add_many_buffer f l e host x symbols held
        rest q = unfold add_many_buffer in simp q

    pub add_many_left : ¬ (add_many_refusal f l e host x symbols held ≡ 0) → held ≡ add_many_buffer f l e host x symbols held
    unfolding add_many_buffer
    add_many_left d = simp (ne_eqb (add_many_refusal f l e host x symbols held) 0 d)

    add_many_same : l.errors ≡ 0 → fed_refusal f l e host x symbols held ≡ add_many_refusal f l e host x symbols held
    unfolding fed_refusal add_many_refusal
    add_many_same z = simp (sym (with_same f.order 0 l (admissible f.order l) z refl))

    pub add_many_done : (r : ℕ) (is : List ℕ) → l.errors ≡ 0 → r ≡ fed_refusal f l e host x symbols held → is ≡ fed_buffer f l e host x symbols held →
        (r ≡ add_many_refusal f l e host x symbols held) × (is ≡ add_many_buffer f l e host x symbols held)
    unfolding fed_buffer add_many_buffer
    add_many_done r is z p q = (p ∙ add_many_same z, q ∙ ap (λ n. cond (eqb n 0) (fed_many f l e host x symbols held) held) (add_many_same z))
