-- Shares built up tray by tray: in any order, each tray fed once, they are the rack's e shares; a tray fed twice counts twice, and among bytes cancels.
-- Assumes nothing.
use mathlib.Core.Bool.{Bool, true, false, not, cond}
use mathlib.Core.Path.{◌≡◌, refl, sym, ap, ap₂, ◌∙◌, subst}
use mathlib.Core.List.{List, [], ◌∷◌}
use Prim.Native.Nat.{ℕ, zero, suc, ◌+◌, ◌*◌, ◌%◌, ◌≤◌, ◌<◌}
use native.Mathlib.Nat.{one-mul}
use native.Mathlib.Decide.{ℕ_discrete}
use lib.Dec.{eqb}
use lib.ListN.{length, get_or}
use Rattle.lists.specs.Lists.{table}
use Rattle.lists.proofs.Bools.{and_true}
use Rattle.lists.proofs.Numbers.{cell_in}
use Rattle.lists.proofs.Tables.{table_at, table_length, table_same, is_table}
use Rattle.algebra.specs.Field.{Ops, Laws}
use Rattle.algebra.specs.Coding.{InRange}
use Rattle.algebra.specs.Sum.{sum}
use Rattle.algebra.specs.Erasure.{choose}
use Rattle.algebra.specs.Shape.{Field, FieldLaws}
use Rattle.algebra.specs.Plain.{Working}
use Rattle.algebra.proofs.Ring.{zero_add, add_zero, add_assoc}
use Rattle.algebra.proofs.Sum.{sum_zero, sum_suc, sum_congr, sum_add, sum_single, sum_is_zero}
use Rattle.algebra.proofs.Cabinet.{choose_same, choose_other}
use Rattle.symbol.specs.Elem.{Elem, ops, gf256}
use Rattle.symbol.proofs.Elem.{gf256_laws}
use Rattle.symbol.proofs.Working.{working}
use Rattle.layout.specs.declared.Layout.{Layout}
use Rattle.layout.specs.Layout.{layers, groups, Admissible}
use Rattle.layout.proofs.Facts.{bounds}
use Rattle.rule.specs.Rule.{tray_part}
use Rattle.range.specs.Range.{symbols_from}
use Rattle.rule.proofs.Racks.{tray_at, tray_long}
use Rattle.share.specs.Many.{shares_of, part_at, fed_many, fed_refusal, fed_buffer, many_refusal, many_buffer, add_many_refusal, add_many_buffer}
use Rattle.share.specs.Feeds.{count, odd, cleared, Feeds, none, feed, refused}
use Rattle.share.proofs.Refusals.{symbols_in, symbols_range, rack_shareable, tray_done, tray_shareable, tray_ground_0, buffer_done, add_refused, add_done}
use Rattle.share.proofs.Refusals.{many_plain, many_same, many_done, add_many_refused, add_many_left, add_many_done}
use Rattle.share.proofs.Parts.{all_parts}

-- one tray more among those counted
count_more : {A : Type 0} (o : Ops A) → Laws o → (places : List ℕ) (x g : ℕ) (a : A) →
    sum o (count g (x ∷ places)) (λ n. a) ≡ o.add (sum o (count g places) (λ n. a)) (choose (eqb g x) a o.zero)
unfolding count choose
count_more o L places x g a = go (eqb g x)
  where
    go : (b : Bool) → sum o (cond b (suc (count g places)) (count g places)) (λ n. a) ≡ o.add (sum o (count g places) (λ n. a)) (choose b a o.zero)
    go true = sum_suc o (count g places) (λ n. a)
    go false = sym (add_zero o L _)

module _ {A : Type 0} {f : Field A} (W : Working f) (l : Layout) (e : ℕ) where
  open f use {ops as o}
  open f.ops use {add, zero}

  laws : FieldLaws f
  laws = W.field

  module _ (host x : ℕ) (symbols held : List ℕ) where
    once_long : length (fed_many f l e host x symbols held) ≡ e * groups l
    unfolding fed_many
    once_long = table_length _ (e * groups l)

    twice : fed_many f l e host x symbols (fed_many f l e host x symbols held)
        ≡ table (λ n. f.coding.val (add (f.coding.elem (get_or held n 0)) (add (part_at f l host x symbols n) (part_at f l host x symbols n)))) (e * groups l)
    unfolding fed_many
    twice = table_same _ _ (e * groups l) (λ n k.
        ap f.coding.val (ap (λ y. add y (part_at f l host x symbols n)) (ap f.coding.elem (table_at _ (e * groups l) n k) ∙ laws.coded.elem_val _)
        ∙ add_assoc o laws.laws _ _ _))

    -- what it holds are symbols
    once_range : symbols_from f (fed_many f l e host x symbols held) 0 (length (fed_many f l e host x symbols held)) ≡ true
    unfolding fed_many
    once_range = symbols_in f (fed_many f l e host x symbols held) (λ k h.
        rw (table_at (λ n. f.coding.val (add (f.coding.elem (get_or held n 0)) (part_at f l host x symbols n))) (e * groups l) k (rw once_long at h)) (laws.coded.val_below _))

    -- feeding a tray twice adds its parts twice
    pub fed_twice : fed_refusal f l e host x symbols held ≡ 0 →
        fed_buffer f l e host x symbols (fed_buffer f l e host x symbols held)
        ≡ table (λ n. f.coding.val (add (f.coding.elem (get_or held n 0)) (add (part_at f l host x symbols n) (part_at f l host x symbols n)))) (e * groups l)
    fed_twice q =
        ap (fed_buffer f l e host x symbols) (sym (add_done f l e host x symbols held q))
        ∙ sym (add_done f l e host x symbols (fed_many f l e host x symbols held)
        (again q))
        ∙ twice
      where
        again : fed_refusal f l e host x symbols held ≡ 0 → fed_refusal f l e host x symbols (fed_many f l e host x symbols held) ≡ 0
        again q =
            let p = tray_shareable W l e host x symbols held q in
            sym (tray_ground_0 W l e host x symbols (fed_many f l e host x symbols held) (length held) (symbols_from f held 0 (length held)) p (once_long ∙ sym p.room_long) once_range)

  module _ (a : Admissible f.order l) (host i : ℕ) (host_in : host < l.racks) (rack_in : i < l.racks) (some : 0 < e) (few : e + l.dimension % l.size ≤ l.size) (differ : ¬ (host ≡ i))
      (rack : List ℕ) (long : length rack ≡ l.size * layers l) (given : InRange f.coding rack) (start : List ℕ) (room : length start ≡ e * groups l) (range : InRange f.coding start) where
    -- number n of the parts of the tray at place g
    part : ℕ → ℕ → A
    part g n = part_at f l host (i * l.size + g) (tray_part l rack g) n

    -- number n of what has been fed: each tray's part as often as it was fed
    total : List ℕ → ℕ → A
    total places n = sum o l.size (λ g. sum o (count g places) (λ k. part g n))

    after : List ℕ → List ℕ
    after places = table (λ n. f.coding.val (add (f.coding.elem (get_or start n 0)) (total places n))) (e * groups l)

    total_none : (n : ℕ) → total [] n ≡ zero
    unfolding total count
    total_none n = sum_is_zero o laws.laws l.size _ (λ g h. sum_zero o _)

    total_more : (places : List ℕ) (g n : ℕ) → g < l.size → total (g ∷ places) n ≡ add (total places n) (part g n)
    unfolding total
    total_more places g n h =
        sum_congr o l.size _ _ (λ y k. count_more o laws.laws places g y (part y n))
        ∙ sum_add o laws.laws l.size _ _
        ∙ ap (add (sum o l.size (λ y. sum o (count y places) (λ k. part y n))))
        (sum_single o laws.laws l.size g _ h (λ y k d. choose_other y g _ _ d) ∙ choose_same g g _ _ refl)

    after_none : start ≡ after []
    unfolding after
    after_none = is_table start _ (e * groups l) room (λ n k.
        sym (laws.coded.val_elem _ (range.at n (rw room k)))
        ∙ ap f.coding.val (sym (add_zero o laws.laws _) ∙ ap (add (f.coding.elem (get_or start n 0))) (sym (total_none n))))

    after_long : (places : List ℕ) → length (after places) ≡ e * groups l
    unfolding after
    after_long places = table_length _ (e * groups l)

    after_more : (places : List ℕ) (g : ℕ) → g < l.size → fed_many f l e host (i * l.size + g) (tray_part l rack g) (after places) ≡ after (g ∷ places)
    unfolding after fed_many part
    after_more places g h = table_same _ _ (e * groups l) (λ n k.
        ap f.coding.val (
        ap (λ y. add y (part g n)) (ap f.coding.elem (table_at _ (e * groups l) n k) ∙ laws.coded.elem_val _)
        ∙ add_assoc o laws.laws _ _ _
        ∙ ap (add (f.coding.elem (get_or start n 0))) (sym (total_more places g n h))))

    -- what a call looks at are symbols
    tray_whole : (g : ℕ) → g < l.size → length (tray_part l rack g) ≡ layers l
    tray_whole g h = tray_long l rack l.size g (bounds l a.cabinet).layers_low long h

    tray_range : (g : ℕ) → g < l.size → symbols_from f (tray_part l rack g) 0 (length (tray_part l rack g)) ≡ true
    tray_range g h = symbols_in f (tray_part l rack g) (λ k t.
        let j : k < layers l = rw (tray_whole g h) at t in
        rw (tray_at l rack g k j) (given.at (g * layers l + k) (rw long (cell_in l.size (layers l) g k h j))))

    after_range : (places : List ℕ) → symbols_from f (after places) 0 (length (after places)) ≡ true
    unfolding after
    after_range places = symbols_in f (after places) (λ k t.
        rw (table_at (λ n. f.coding.val (add (f.coding.elem (get_or start n 0)) (total places n))) (e * groups l) k (rw (after_long places) at t)) (laws.coded.val_below _))

    done : (places : List ℕ) (g : ℕ) → g < l.size → fed_refusal f l e host (i * l.size + g) (tray_part l rack g) (after places) ≡ 0
    done places g h = tray_done W l e host i g (tray_part l rack g) (after places) (record {
      adm = a;
      long = tray_whole g h ∙ sym (one-mul (layers l));
      room_long = after_long places;
      host_in = host_in;
      helper_in = rack_in;
      symbols_so = and_true _ _ (tray_range g h) (after_range places);
      some = some;
      few = few;
      differ = differ;
    }) h

    is_after : (places held : List ℕ) → Feeds f l e host i rack start places held → held ≡ after places
    is_after _ _ none = after_none
    is_after _ _ (feed {places} {held} before g h) =
        ap (fed_buffer f l e host (i * l.size + g) (tray_part l rack g)) (is_after places held before)
        ∙ sym (add_done f l e host (i * l.size + g) (tray_part l rack g) (after places) (done places g h))
        ∙ after_more places g h
    is_after places _ (refused {held = held} before l' e' host' x symbols q) = sym (add_refused f l' e' host' x symbols held q) ∙ is_after places held before

    -- after any feeds the buffer holds what it held at first, plus each tray's parts as often as it was fed
    pub feeds_sum : (places held : List ℕ) → Feeds f l e host i rack start places held →
        held ≡ table (λ n. f.coding.val (add (f.coding.elem (get_or start n 0))
        (sum o l.size (λ g. sum o (count g places) (λ k. part_at f l host (i * l.size + g) (tray_part l rack g) n))))) (e * groups l)
    unfolding after total part
    feeds_sum = is_after

    -- so from a cleared buffer, with each tray fed once, in any order, it holds the rack's e shares
    pub feeds_shares : start ≡ cleared f l e → (places held : List ℕ) → Feeds f l e host i rack start places held → ((g : ℕ) → g < l.size → count g places ≡ 1) →
        held ≡ shares_of f l e host rack
    unfolding after cleared shares_of total part
    feeds_shares clear places held feeds once = is_after places held feeds ∙ table_same _ _ (e * groups l) (λ n k.
        ap f.coding.val (
        ap₂ add (ap (λ s. f.coding.elem (get_or s n 0)) clear ∙ ap f.coding.elem (table_at _ (e * groups l) n k) ∙ laws.coded.elem_val zero)
        (sum_congr o l.size _ _ (λ g h. ap (λ y. sum o y (λ m. part g n)) (once g h) ∙ one_term (part g n)) ∙ all_parts f laws l host i rack n)
        ∙ zero_add o laws.laws _))
      where
        one_term : (y : A) → sum o 1 (λ m. y) ≡ y
        one_term y = sum_suc o 0 _ ∙ ap (λ s. add s y) (sum_zero o _) ∙ zero_add o laws.laws y

module _ {A : Type 0} {f : Field A} (W : Working f) (l : Layout) (e : ℕ) where
  cleared_long : length (cleared f l e) ≡ e * groups l
  unfolding cleared
  cleared_long = table_length _ (e * groups l)

  cleared_range : InRange f.coding (cleared f l e)
  unfolding cleared
  cleared_range = record { at = λ n h. rw (table_at (λ n. f.coding.val f.ops.zero) (e * groups l) n (rw cleared_long at h)) (W.field.coded.val_below _) }

  -- and that is what the call for the whole rack writes, into whatever room of the right length
  pub feeds_call : (host i : ℕ) (rack out : List ℕ) → many_refusal f l e host i rack (length out) ≡ 0 →
      (places held : List ℕ) → Feeds f l e host i rack (cleared f l e) places held → ((g : ℕ) → g < l.size → count g places ≡ 1) → held ≡ many_buffer f l e host i rack out
  feeds_call host i rack out q places held feeds once =
      let z = many_plain f l e host i rack out q in
      let h = many_same f l e host i rack out z ∙ q in
      let p = rack_shareable W l e host i rack (length out) h in
      feeds_shares W l e p.adm host i p.host_in p.helper_in p.some p.few p.differ rack p.long (symbols_range f rack p.symbols_so)
      (cleared f l e) cleared_long cleared_range refl places held feeds once
      ∙ buffer_done f l e host i rack out h
      ∙ (many_done f l e host i rack out _ _ z refl refl).1

  -- a call with e and E = 0 is a step of a list of feeds, and so is one that is refused, with any E
  module _ (host i : ℕ) (rack start places held : List ℕ) (before : Feeds f l e host i rack start places held) where
    pub many_feed : l.errors ≡ 0 → (g : ℕ) → g < l.size → Feeds f l e host i rack start (g ∷ places) (add_many_buffer f l e host (i * l.size + g) (tray_part l rack g) held)
    many_feed z g h = subst (Feeds f l e host i rack start (g ∷ places)) (add_many_done f l e host (i * l.size + g) (tray_part l rack g) held _ _ z refl refl).1 (feed before g h)

    pub many_left : (l' : Layout) (e' host' x : ℕ) (symbols : List ℕ) → ¬ (add_many_refusal f l' e' host' x symbols held ≡ 0) →
        Feeds f l e host i rack start places (add_many_buffer f l' e' host' x symbols held)
    many_left l' e' host' x symbols d = subst (Feeds f l e host i rack start places) (add_many_left f l' e' host' x symbols held d) before

both_cancel : (x y : Elem) → x ≡ ops.add x (ops.add y y)
unfolding ops
both_cancel x y = sym (add_zero ops gf256_laws.laws x) ∙ ap (ops.add x) (sym (gf256_laws.laws.neg_add y))

-- a symbol added so often stays where that is odd
often : (n : ℕ) (y : Elem) → sum ops n (λ k. y) ≡ choose (odd n) y ops.zero
unfolding odd choose
often zero y = sum_zero ops _
often (suc n) y = sum_suc ops n _ ∙ ap (λ x. ops.add x y) (often n y) ∙ go (odd n)
  where
    go : (t : Bool) → ops.add (choose t y ops.zero) y ≡ choose (not t) y ops.zero
    go true = sym (zero_add ops gf256_laws.laws (ops.add y y)) ∙ sym (both_cancel ops.zero y)
    go false = zero_add ops gf256_laws.laws y

-- among bytes, after any feeds, the trays fed an odd number of times are in the shares, once each, and those fed an even number of times have cancelled
pub feeds_cancel : (l : Layout) (e : ℕ) → Admissible gf256.order l → (host i : ℕ) → host < l.racks → i < l.racks → 0 < e → e + l.dimension % l.size ≤ l.size → ¬ (host ≡ i) →
    (rack : List ℕ) → length rack ≡ l.size * layers l → InRange gf256.coding rack → (start : List ℕ) → length start ≡ e * groups l → InRange gf256.coding start →
    (places held : List ℕ) → Feeds gf256 l e host i rack start places held →
    held ≡ table (λ n. gf256.coding.val (ops.add (gf256.coding.elem (get_or start n 0))
    (sum ops l.size (λ g. choose (odd (count g places)) (part_at gf256 l host (i * l.size + g) (tray_part l rack g) n) ops.zero)))) (e * groups l)
feeds_cancel l e a host i hh hi some few differ rack long given start room range places held feeds =
    feeds_sum working l e a host i hh hi some few differ rack long given start room range places held feeds
    ∙ table_same _ _ (e * groups l) (λ n k.
    ap (λ y. gf256.coding.val (ops.add (gf256.coding.elem (get_or start n 0)) y)) (sum_congr ops l.size _ _ (λ g h. often (count g places) _)))

-- so feeding the same tray twice leaves the buffer as it was, refused or done ..
pub twice_fed : (l : Layout) (e host x : ℕ) (symbols held : List ℕ) → InRange gf256.coding held →
    fed_buffer gf256 l e host x symbols (fed_buffer gf256 l e host x symbols held) ≡ held
twice_fed l e host x symbols held range = go (ℕ_discrete (fed_refusal gf256 l e host x symbols held) 0)
  where
    go : Dec (fed_refusal gf256 l e host x symbols held ≡ 0) → fed_buffer gf256 l e host x symbols (fed_buffer gf256 l e host x symbols held) ≡ held
    go (yes q) =
        let room : length held ≡ e * groups l = (tray_shareable working l e host x symbols held q).room_long in
        fed_twice working l e host x symbols held q
        ∙ sym (is_table held _ (e * groups l) room (λ n k.
        sym (gf256_laws.coded.val_elem _ (range.at n (rw room k)))
        ∙ ap (λ y. y.val) (both_cancel (gf256.coding.elem (get_or held n 0)) (part_at gf256 l host x symbols n))))
    go (no d) = ap (fed_buffer gf256 l e host x symbols) (sym (add_refused gf256 l e host x symbols held d)) ∙ sym (add_refused gf256 l e host x symbols held d)

-- .. and so does the same call twice
pub twice_cancels : (l : Layout) (e host x : ℕ) (symbols held : List ℕ) → InRange gf256.coding held →
    add_many_buffer gf256 l e host x symbols (add_many_buffer gf256 l e host x symbols held) ≡ held
twice_cancels l e host x symbols held range = go (ℕ_discrete l.errors 0)
  where
    again : l.errors ≡ 0 → (xs : List ℕ) → add_many_buffer gf256 l e host x symbols xs ≡ fed_buffer gf256 l e host x symbols xs
    again z xs = sym (add_many_done gf256 l e host x symbols xs _ _ z refl refl).1

    go : Dec (l.errors ≡ 0) → add_many_buffer gf256 l e host x symbols (add_many_buffer gf256 l e host x symbols held) ≡ held
    go (yes z) = again z _ ∙ ap (fed_buffer gf256 l e host x symbols) (again z held) ∙ twice_fed l e host x symbols held range
    go (no d) = sym (add_many_refused gf256 l e host x symbols (add_many_buffer gf256 l e host x symbols held) d).1 ∙ sym (add_many_refused gf256 l e host x symbols held d).1
