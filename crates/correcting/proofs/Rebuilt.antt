-- The tray from shares that are right is the one that all shares fix, once a wrong one is put right.
-- Assumes nothing.
use mathlib.Core.Path.{◌≡◌, refl, sym, ap, ap₂, ◌∙◌, subst}
use mathlib.Core.List.{List, [], ◌∷◌}
use Prim.Native.Nat.{ℕ, zero, suc, ◌+◌, ◌-◌, ◌*◌, ◌/◌, ◌%◌, ◌<◌, ◌≤◌}
use native.Mathlib.Nat.{one-mul}
use native.Mathlib.Decide.{ℕ_discrete}
use native.Mathlib.Omega.{arith}
use lib.Dec.{eqb}
use lib.ListN.{length, get_or}
use Rattle.algebra.specs.Sum.{sum}
use Rattle.algebra.specs.Erasure.{choose}
use Rattle.algebra.specs.Layers.{group_of}
use Rattle.algebra.specs.Shape.{Field}
use Rattle.algebra.specs.Plain.{Working}
use Rattle.algebra.specs.Cabinet.{group_sum, Solution}
use Rattle.algebra.proofs.Plain.{laws}
use Rattle.layout.specs.declared.Layout.{Layout}
use Rattle.layout.specs.Layout.{layers, groups, parity_racks, layer_limit, Cabinet, AdmissibleWith}
use Rattle.layout.proofs.Facts.{bounds}
use Rattle.codeword.specs.Codeword.{shape_of, symbol_at}
use Rattle.codeword.proofs.Usable.{usable, solvable}
use Rattle.rule.specs.Rule.{Helpers, group_at, shared_symbol, sound_sum}
use Rattle.rule.specs.Lost.{Piece}
use Rattle.rule.proofs.Rule.{solution_sums}
use Rattle.rule.proofs.Single.{one_loss, one_lost}
use Rattle.pieces.specs.Inner.{Piecing}
use Rattle.correcting.specs.Correcting.{ChecksHold}
use Rattle.correcting.specs.Inner.{plain_layout, Racks, past_one, HelpersLeft, SharesLeft, Rebuilding, Rebuilt, LeavingOut, RebuiltWithout}
use Rattle.correcting.proofs.Choices.{group_below, chosen_rising}
use Rattle.correcting.proofs.Lists.{past_below, past_up, past_not}
use Rattle.correcting.proofs.Layouts.{plain_digits, plain_unknowns, plain_admissible, plain_shape, plain_groups, plain_layers, one_rack_lem, two_racks}

-- ---- what the repair of a piece is told, and what it gives
module _ {A : Type 0} {f : Field A} (W : Working f) (l : Layout) (n x : ℕ) (helpers shares host spare : List ℕ) (g : Rebuilding f.order l n x helpers shares host spare)
    (plain : Layout) (total : ℕ) (ep : plain ≡ plain_layout n l) (et : total ≡ groups plain) where
  cab : Cabinet l
  cab = g.adm.admissible.cabinet

  adm : AdmissibleWith f.order 0 (plain_layout n l)
  adm = plain_admissible f.order l n g.racks g.adm

  total_is : total ≡ groups (plain_layout n l)
  total_is = et ∙ ap groups ep

  groups_are : groups (plain_layout n l) ≡ groups l
  groups_are = plain_groups l cab g.adm.errors_are n g.racks

  layers_are : layers (plain_layout n l) ≡ layers l
  layers_are = plain_layers l cab g.adm.errors_are n g.racks

  helpers_are : l.helpers - (2 - n) ≡ (plain_layout n l).helpers
  unfolding plain_layout
  helpers_are = refl

  size_is : l.size ≡ (plain_layout n l).size
  unfolding plain_layout
  size_is = refl

  pub piecing_of : Piecing f.order plain (x ∷ []) helpers shares host 0 total spare
  piecing_of = subst (λ y. Piecing f.order y (x ∷ []) helpers shares host 0 total spare) (sym ep) go
    where
      go : Piecing f.order (plain_layout n l) (x ∷ []) helpers shares host 0 total spare
      go = let t = total_is in record {
        adm = adm;
        losses = one_loss f (plain_layout n l) (solvable W (plain_layout n l) adm) x helpers g.help;
        shares_long = g.shares_long ∙ ap₂ (λ y z. y * z) helpers_are (sym groups_are ∙ sym (one-mul (groups (plain_layout n l))));
        host_long = g.host_long ∙ ap₂ (λ y z. y * z) size_is (sym layers_are);
        spare_long = g.spare_long ∙ sym layers_are ∙ sym (one-mul (layers (plain_layout n l)));
        within = omega arith;
      }

  pub rebuilt_of : (new : List ℕ) → Piece f plain (x ∷ []) helpers shares host 0 total spare new → Rebuilt f l n x helpers shares host spare new
  rebuilt_of new p =
      let t : total ≡ groups l = total_is ∙ groups_are in
      record {
        long = p.long;
        ruled = λ q hq. one_lost f (plain_layout n l) (usable W (plain_layout n l) adm.admissible) x helpers shares host q new
            ((subst (λ y. Piece f y (x ∷ []) helpers shares host 0 total spare new) ep p).done q (omega arith) (omega arith));
      }

-- ---- all helpers but one
module _ {A : Type 0} {f : Field A} (W : Working f) (l : Layout) (adm : AdmissibleWith f.order 1 l) (x : ℕ) (helpers : List ℕ) (ch : Helpers l x helpers) (k : ℕ) (left : List ℕ)
    (g : HelpersLeft k helpers (l.helpers - 1) left) where
  some : 2 ≤ l.helpers
  some = omega (arith, adm.admissible.cabinet.helpers_low, adm.errors_are)

  pub left_inside : (i : ℕ) → i < l.helpers - 1 → past_one k i < l.helpers
  left_inside i q = let b = past_below k i (l.helpers - 1) q in let s = some in omega arith

  count : l.helpers - (2 - 1) ≡ l.helpers - 1
  count = omega arith

  pub left_helpers : Helpers (plain_layout 1 l) x left
  unfolding plain_layout
  left_helpers = record {
    lost_in = ch.lost_in;
    many = g.long ∙ sym count;
    inside = λ i q. let r = rw count at q in rw (g.at i r) (ch.inside (past_one k i) (left_inside i r));
    rising = λ i q.
        let r = rw count at q in
        rw (g.at i (omega arith), g.at (i + 1) r)
        ((chosen_rising W l adm x helpers ch).up (past_one k i) (past_one k (i + 1)) (past_up k i (i + 1) (omega arith)) (left_inside (i + 1) r));
    other = λ i q. let r = rw count at q in rw (g.at i r) (ch.other (past_one k i) (left_inside i r));
  }

module _ {A : Type 0} {f : Field A} (W : Working f) (l : Layout) (x : ℕ) (helpers shares host : List ℕ) (k : ℕ) (spare : List ℕ) (g : LeavingOut f.order l x helpers shares host k spare) where
  pub left_in : (left : List ℕ) → length left + 1 ≡ l.helpers → (length left + 1 ≡ length helpers) × (length helpers ≤ layer_limit)
  left_in left e = let b = bounds l g.adm.admissible.cabinet in (e ∙ sym g.help.many, omega (arith, g.help.many, g.adm.admissible.cabinet.helpers_high))

  pub shares_in : (total : ℕ) (left left' sent : List ℕ) → total ≡ groups l → length left + 1 ≡ l.helpers → length left' ≡ length left → length sent ≡ length left * groups l →
      (k ≤ length left') × (length left' ≤ layer_limit) × (length sent ≡ length left' * total) × (length shares ≡ (length left' + 1) * total)
  shares_in total left left' sent et e el es =
      let b = bounds l g.adm.admissible.cabinet in
      let n : length left' + 1 ≡ l.helpers = ap (λ y. y + 1) el ∙ e in (
        omega (arith, g.inside),
        omega (arith, g.adm.admissible.cabinet.helpers_high),
        es ∙ ap₂ (λ y z. y * z) (sym el) (sym et),
        g.shares_long ∙ ap₂ (λ y z. y * z) (sym n) (sym et),
      )

  pub helpers_left : (n : ℕ) (left : List ℕ) → n + 1 ≡ l.helpers → HelpersLeft k helpers n left → HelpersLeft k helpers (l.helpers - 1) left
  helpers_left n left e h = let m : n ≡ l.helpers - 1 = omega arith in subst (λ y. HelpersLeft k helpers y left) m h

  pub rebuilding_of : (n : ℕ) (left sent : List ℕ) → n + 1 ≡ l.helpers → HelpersLeft k helpers n left → length sent ≡ n * groups l → Rebuilding f.order l 1 x left sent host spare
  rebuilding_of n left sent e h es = record {
    adm = g.adm;
    racks = one_rack_lem;
    help = left_helpers W l g.adm x helpers g.help k left (helpers_left n left e h);
    shares_long = let m : n ≡ l.helpers - (2 - 1) = omega arith in es ∙ ap (λ y. y * groups l) m;
    host_long = g.host_long;
    spare_long = g.spare_long;
  }

  pub without_of : (total n m : ℕ) (left sent new : List ℕ) → total ≡ groups l → n + 1 ≡ l.helpers → m ≡ n → HelpersLeft k helpers n left → SharesLeft k m total shares sent →
      Rebuilt f l 1 x left sent host spare new → RebuiltWithout f l x helpers shares host k spare new
  without_of total n m left sent new et en em hl sl r =
      let q : m ≡ l.helpers - 1 = omega arith in
      record {
        left = left;
        sent = sent;
        helpers_left = helpers_left n left en hl;
        shares_left = subst (λ y. SharesLeft k y (groups l) shares sent) q (subst (λ y. SharesLeft k m y shares sent) et sl);
        rebuilt = r;
      }

-- ---- the tray
module _ {A : Type 0} {f : Field A} (W : Working f) (l : Layout) (adm : AdmissibleWith f.order 1 l) (x : ℕ) (helpers : List ℕ) (ch : Helpers l x helpers)
    (meant : ℕ → ℕ → A) (hold : ChecksHold f l x helpers meant) where
  a : Cabinet l
  a = adm.admissible.cabinet

  one : l.errors ≡ 1
  one = adm.errors_are

  abbrev h : ℕ
  h = x / l.size

  -- helper i of those taken is helper `old i` of all
  module _ (n : ℕ) (r : Racks n) (left sent host before new : List ℕ) (m : Rebuilt f l n x left sent host before new) (H : Helpers (plain_layout n l) x left) (old : ℕ → ℕ)
      (inside : (i : ℕ) → i < l.helpers - (2 - n) → old i < l.helpers) (same-rack : (i : ℕ) → i < l.helpers - (2 - n) → get_or left i 0 ≡ get_or helpers (old i) 0)
      (right : (i p : ℕ) → i < l.helpers - (2 - n) → p < groups l → shared_symbol f (plain_layout n l) sent p i ≡ meant p (old i)) where
    sound_same : (j : ℕ) → sound_sum f (plain_layout n l) x host j ≡ sound_sum f l x host j
    unfolding sound_sum symbol_at plain_layout
    sound_same j = ap (λ y. sum f.ops l.size (λ z. choose (eqb z (x % l.size)) f.ops.zero (f.coding.elem (get_or host (z * y + j) 0)))) (plain_layers l a one n r)

    group_same : (j : ℕ) → group_at (plain_layout n l) x j ≡ group_at l x j
    unfolding plain_layout
    group_same j = ap (λ s. group_of s (x / l.size) j) (plain_digits l a one n r)

    fewer_checks : (w : ℕ) → w < parity_racks (plain_layout n l) → w < parity_racks l
    fewer_checks w q = let e = plain_unknowns l a one n r in omega arith

    -- the rack sums that all shares fix are a solution for those taken
    restricted : (p : ℕ) → p < groups l →
        Solution (shape_of f (plain_layout n l)) 0 (x / l.size) p (λ i. get_or left i 0) (plain_layout n l).helpers (parity_racks (plain_layout n l))
        (shared_symbol f (plain_layout n l) sent p) (hold.sums p)
    unfolding plain_layout
    restricted p hp =
        subst (λ sh. Solution sh 0 h p (λ i. get_or left i 0) (l.helpers - (2 - n)) (parity_racks (plain_layout n l)) (shared_symbol f (plain_layout n l) sent p)
        (hold.sums p)) (plain_shape l a one n r f)
        (record {
          given = λ i q.
              ap (λ y. group_sum (shape_of f l) h p (hold.sums p y)) (same-rack i q)
              ∙ (hold.solution p hp).given (old i) (inside i q)
              ∙ sym (right i p q hp);
          checks = λ w q. (hold.solution p hp).checks w (fewer_checks w q);
        })

    pub tray_settled : (j : ℕ) → j < layers l → get_or new j 0 ≡ f.coding.val (f.ops.add (hold.sums (group_at l x j) (x / l.size) j) (f.ops.neg (sound_sum f l x host j)))
    unfolding plain_layout
    tray_settled j hj =
        let p = group_at l x j in
        let hp = group_below W l adm x helpers ch j hj in
        let ok = solvable W (plain_layout n l) (plain_admissible f.order l n r adm) in
        let t = m.ruled p hp in
        let within : p < groups (plain_layout n l) = rw (plain_groups l a one n r) hp in
        let same : t.sums h j ≡ hold.sums p h j
        = solution_sums f (plain_layout n l) ok x left H p within 0 (shared_symbol f (plain_layout n l) sent p) t.sums t.solution j (group_same j)
        ∙ sym (solution_sums f (plain_layout n l) ok x left H p within 0 (shared_symbol f (plain_layout n l) sent p) (hold.sums p) (restricted p hp) j (group_same j)) in
        t.holds j (rw (plain_layers l a one n r) hj) (group_same j)
        ∙ ap₂ (λ y z. f.coding.val (f.ops.add y (f.ops.neg z))) same (sound_same j)

  -- from all shares, where they are those meant
  pub tray_all : (shares host before new : List ℕ) → Helpers (plain_layout 2 l) x helpers → Rebuilt f l 2 x helpers shares host before new →
      ((i p : ℕ) → i < l.helpers → p < groups l → shared_symbol f l shares p i ≡ meant p i) →
      (j : ℕ) → j < layers l → get_or new j 0 ≡ f.coding.val (f.ops.add (hold.sums (group_at l x j) (x / l.size) j) (f.ops.neg (sound_sum f l x host j)))
  tray_all shares host before new H m right =
      tray_settled 2 two_racks helpers shares host before new m H (λ i. i) (λ i q. omega arith) (λ i q. refl) (λ i p q hp. shared i p ∙ right i p (omega arith) hp)
    where
      shared : (i p : ℕ) → shared_symbol f (plain_layout 2 l) shares p i ≡ shared_symbol f l shares p i
      shared i p = unfold shared_symbol in ap (λ n. f.coding.elem (get_or shares (i * n + p) 0)) (plain_groups l a one 2 two_racks)

  -- from those but the k-th, which is not asked to be the one meant
  pub tray_without : (shares host : List ℕ) (k : ℕ) (before new : List ℕ) → RebuiltWithout f l x helpers shares host k before new →
      ((i p : ℕ) → i < l.helpers → p < groups l → ¬ (i ≡ k) → shared_symbol f l shares p i ≡ meant p i) →
      (j : ℕ) → j < layers l → get_or new j 0 ≡ f.coding.val (f.ops.add (hold.sums (group_at l x j) (x / l.size) j) (f.ops.neg (sound_sum f l x host j)))
  tray_without shares host k before new m right =
      tray_settled 1 one_rack_lem m.left m.sent host before new m.rebuilt (left_helpers W l adm x helpers ch k m.left m.helpers_left) (past_one k)
      (λ i q. left_inside W l adm x helpers ch k m.left m.helpers_left i (omega arith)) (λ i q. m.helpers_left.at i (omega arith))
      (λ i p q hp. shared i p (omega arith) hp ∙ right (past_one k i) p (left_inside W l adm x helpers ch k m.left m.helpers_left i (omega arith)) hp (past_not k i))
    where
      shared : (i p : ℕ) → i < l.helpers - 1 → p < groups l → shared_symbol f (plain_layout 1 l) m.sent p i ≡ shared_symbol f l shares p (past_one k i)
      shared i p q hp = unfold shared_symbol in
          ap (λ n. f.coding.elem (get_or m.sent (i * n + p) 0)) (plain_groups l a one 1 one_rack_lem) ∙ ap f.coding.elem (m.shares_left.at i p q hp)

-- ---- the helper named
module _ {A : Type 0} {f : Field A} (W : Working f) where
  pub record Differs (n : ℕ) (s t : ℕ → A) : Type 0 where
    pub at : ℕ
    pub inside : at < n
    pub differ : ¬ (s at ≡ t at)

  -- what is not alike everywhere differs somewhere
  pub differs : (n : ℕ) (s t : ℕ → A) → ¬ ((p : ℕ) → p < n → s p ≡ t p) → Differs n s t
  differs zero s t d = absurd (d (λ p q. absurd (omega arith)))
  differs (suc n) s t d = go ((laws W).decide (s n) (t n)) (λ e. differs n s t (λ all. d (λ p q. every p q all e (ℕ_discrete p n))))
    where
      every : (p : ℕ) → p < suc n → ((p : ℕ) → p < n → s p ≡ t p) → s n ≡ t n → Dec (p ≡ n) → s p ≡ t p
      every p q all e (yes z) = ap s z ∙ e ∙ ap t (sym z)
      every p q all e (no z) = all p (omega arith)

      go : Dec (s n ≡ t n) → (s n ≡ t n → Differs n s t) → Differs (suc n) s t
      go (yes e) ih = let w = ih e in record { at = w.at; inside = omega (arith, w.inside); differ = w.differ }
      go (no e) ih = record { at = n; inside = omega arith; differ = e }
