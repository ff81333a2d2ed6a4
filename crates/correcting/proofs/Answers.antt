-- The answers of the repair with E = 1, from what was found of the shares.
-- Assumes nothing.
use mathlib.Core.Path.{◌≡◌, refl, sym, ap, ap₂, ◌∙◌, subst}
use mathlib.Core.List.{List}
use Prim.Native.Nat.{ℕ, zero, suc, ◌+◌, ◌-◌, ◌*◌, ◌/◌, ◌^◌, ◌<◌, ◌≤◌}
use native.Mathlib.Nat.{mul-one, pow-suc, mul-le-mul, mul-le-mul_left, pow-le-pow_left, pow-le-pow_right, div-mul-le_self}
use native.Mathlib.Decide.{ℕ_discrete, dec_le}
use native.Mathlib.Omega.{arith}
use mir.Val.{Fits}
use mir.Syntax.{w64}
use lib.ListN.{length, get_or, take}
use lib.Seq.{length-take-le}
use Rattle.algebra.specs.Shape.{Shape, Field}
use Rattle.algebra.specs.Plain.{Working}
use Rattle.algebra.specs.Locate.{Clean, Located}
use Rattle.layout.specs.declared.Layout.{Layout}
use Rattle.layout.specs.Layout.{digits, layers, groups, parity_racks, tray_limit, layer_limit, Cabinet, AdmissibleWith}
use Rattle.layout.proofs.Facts.{bounds, rack_in}
use Rattle.layout.proofs.Numbers.{groups_are}
use Rattle.codeword.specs.Codeword.{shape_of}
use Rattle.rule.specs.Rule.{Helpers, shared_symbol}
use Rattle.sums.specs.Inner.{helper_at}
use Rattle.locating.specs.Inner.{Sent, Found}
use Rattle.correcting.specs.declared.Corrected.TheVariants.{Done, Refused}
use Rattle.correcting.specs.Correcting.{correcting_refusal, report, ChecksHold, CorrectingDone, CorrectingRefused}
use Rattle.correcting.specs.Inner.{plain_layout, sent_limit, Rebuilding, Rebuilt, LeavingOut, RebuiltWithout}
use Rattle.correcting.proofs.Choices.{Alike, clean_hold, hold_clean, right_share, right_alike, located_hold, none_hold}
use Rattle.correcting.proofs.Layouts.{plain_digits, plain_unknowns, plain_cabinet, plain_groups, two_racks}
use Rattle.correcting.proofs.Refusals.{Accepted, accepted_so}
use Rattle.correcting.proofs.Rebuilt.{tray_all, tray_without, Differs, differs}

-- ---- room: with s = 1 there is one group, and else there are at most 12 racks and 2,048 groups
one_power : (n : ℕ) → 1 ^ n ≡ 1
one_power zero = refl
one_power (suc n) = pow-suc 1 n ∙ mul-one (1 ^ n) ∙ one_power n

many_racks : (B s : ℕ) → 2 ≤ s → s ^ B ≤ layer_limit → B ≤ 12
many_racks B s h k = go (dec_le B 12)
  where
    go : Dec (B ≤ 12) → B ≤ 12
    go (yes q) = q
    go (no q) =
        let two : 2 ^ B ≤ s ^ B = pow-le-pow_left h B in
        let low : 1 ≤ 2 = omega arith in
        let high : 13 ≤ B = omega arith in
        let more : 2 ^ 13 ≤ 2 ^ B = pow-le-pow_right low high in
        absurd (omega arith)

pub sent_few : (l : Layout) → Cabinet l → (l.helpers - 1) * groups l ≤ sent_limit
sent_few l a = go (dec_le 2 (digits l))
  where
    go : Dec (2 ≤ digits l) → (l.helpers - 1) * groups l ≤ sent_limit
    go (yes h) =
        let r = many_racks l.racks (digits l) h a.layers_high in
        let g : groups l * digits l ≤ layers l = div-mul-le_self (layers l) (digits l) in
        let t : groups l * 2 ≤ groups l * digits l = mul-le-mul_left (groups l) h in
        let d : l.helpers - 1 ≤ 10 = omega (arith, a.helpers_high) in
        let e : groups l ≤ 2048 = omega (arith, a.layers_high) in
        let p : (l.helpers - 1) * groups l ≤ 10 * 2048 = mul-le-mul d e in
        omega arith
    go (no h) =
        let b = bounds l a in
        let s : digits l ≡ 1 = omega arith in
        let g : groups l ≡ 1 = groups_are l a ∙ ap (λ y. y ^ (l.racks - 1)) s ∙ one_power (l.racks - 1) in
        omega (arith, ap (λ y. (l.helpers - 1) * y) g ∙ mul-one (l.helpers - 1))

module _ (N : ℕ) (l : Layout) (x : ℕ) (helpers shares host : List ℕ) (k : ℕ) (spare : List ℕ) (g : LeavingOut N l x helpers shares host k spare) where
  left_count : length helpers - 1 ≡ l.helpers - 1
  left_count = ap (λ n. n - 1) g.help.many

  product : (n : ℕ) → n ≡ groups l → (length helpers - 1) * n ≡ (l.helpers - 1) * groups l
  product n e = ap₂ (λ a b. a * b) left_count e

  pub left_room : (left : List ℕ) → tray_limit ≤ length left → length helpers - 1 ≤ length left
  left_room left r = let b = bounds l g.adm.admissible.cabinet in omega (arith, g.help.many, g.adm.admissible.cabinet.helpers_high)

  pub sent_room : (n : ℕ) (sent : List ℕ) → n ≡ groups l → sent_limit ≤ length sent → (length helpers - 1) * n ≤ length sent
  sent_room n sent e r = let t = sent_few l g.adm.admissible.cabinet in let p = product n e in omega arith

  pub cut_left : (left : List ℕ) → tray_limit ≤ length left → length helpers - 1 ≡ length (take (length helpers - 1) left)
  cut_left left r = sym (length-take-le (length helpers - 1) left (left_room left r))

  pub cut_sent : (n : ℕ) (sent : List ℕ) → n ≡ groups l → sent_limit ≤ length sent → (length helpers - 1) * n ≡ length (take ((length helpers - 1) * n) sent)
  cut_sent n sent e r = sym (length-take-le ((length helpers - 1) * n) sent (sent_room n sent e r))

  pub cut_fits : (n : ℕ) (left sent : List ℕ) → n ≡ groups l → tray_limit ≤ length left → sent_limit ≤ length sent →
      (length (take (length helpers - 1) left) + 1 ≡ l.helpers) × (length (take ((length helpers - 1) * n) sent) ≡ length (take (length helpers - 1) left) * groups l)
  cut_fits n left sent e r s =
      let c = cut_left left r in (
        ap (λ y. y + 1) (sym c) ∙ omega (arith, g.help.many, g.inside),
        sym (cut_sent n sent e s) ∙ ap₂ (λ a b. a * b) c e,
      )

-- ---- what was found, by the layout itself
all_helpers : (l : Layout) → (plain_layout 2 l).helpers ≡ l.helpers
unfolding plain_layout
all_helpers l = omega arith

move : (P : ℕ → ℕ → ℕ → ℕ → Type 0) (d e s t m n F G : ℕ) → d ≡ e → s ≡ t → m ≡ n → F ≡ G → P d s m F → P e t n G
move P d e s t m n F G z a b c p = subst (λ y. P e t n y) c (subst (λ y. P e t y F) b (subst (λ y. P e y m F) a (subst (λ y. P y s m F) z p)))

module _ {A : Type 0} (f : Field A) (l : Layout) (a : Cabinet l) (one : l.errors ≡ 1) (h : ℕ) (helpers shares : List ℕ) where
  -- the layout's shape and shares, with s digits and F groups
  abbrev by : ℕ → Shape A
  by s = record { ops = f.ops; root = f.root; order = f.order; racks = l.racks; size = l.size; digits = s }

  abbrev shared_by : ℕ → ℕ → ℕ → A
  shared_by F p k = f.coding.elem (get_or shares (k * F + p) 0)

  abbrev CleanBy : ℕ → ℕ → ℕ → ℕ → Type 0
  CleanBy d s m F = Clean (by s) h (helper_at helpers) d m F (shared_by F)

  abbrev LocatedBy : ℕ → ℕ → ℕ → ℕ → ℕ → Type 0
  LocatedBy k d s m F = Located (by s) h (helper_at helpers) d m F k (shared_by F)

  pub clean_here : Clean (shape_of f (plain_layout 2 l)) h (helper_at helpers) (plain_layout 2 l).helpers (parity_racks (plain_layout 2 l)) (groups (plain_layout 2 l))
      (shared_symbol f (plain_layout 2 l) shares) →
      Clean (shape_of f l) h (λ k. get_or helpers k 0) l.helpers (parity_racks l - 2) (groups l) (shared_symbol f l shares)
  unfolding plain_layout shared_symbol
  clean_here = move CleanBy _ _ _ _ _ _ _ _ (all_helpers l) (plain_digits l a one 2 two_racks) (plain_unknowns l a one 2 two_racks) (plain_groups l a one 2 two_racks)

  pub clean_there : Clean (shape_of f l) h (λ k. get_or helpers k 0) l.helpers (parity_racks l - 2) (groups l) (shared_symbol f l shares) →
      Clean (shape_of f (plain_layout 2 l)) h (helper_at helpers) (plain_layout 2 l).helpers (parity_racks (plain_layout 2 l)) (groups (plain_layout 2 l)) (shared_symbol f (plain_layout 2 l) shares)
  unfolding plain_layout shared_symbol
  clean_there = move CleanBy _ _ _ _ _ _ _ _ (sym (all_helpers l)) (sym (plain_digits l a one 2 two_racks)) (sym (plain_unknowns l a one 2 two_racks)) (sym (plain_groups l a one 2 two_racks))

  pub located_here : (k : ℕ) → Located (shape_of f (plain_layout 2 l)) h (helper_at helpers) (plain_layout 2 l).helpers (parity_racks (plain_layout 2 l))
      (groups (plain_layout 2 l)) k (shared_symbol f (plain_layout 2 l) shares) →
      Located (shape_of f l) h (λ k. get_or helpers k 0) l.helpers (parity_racks l - 2) (groups l) k (shared_symbol f l shares)
  unfolding plain_layout shared_symbol
  located_here k = move (LocatedBy k) _ _ _ _ _ _ _ _ (all_helpers l) (plain_digits l a one 2 two_racks) (plain_unknowns l a one 2 two_racks) (plain_groups l a one 2 two_racks)

  pub located_there : (k : ℕ) → Located (shape_of f l) h (λ k. get_or helpers k 0) l.helpers (parity_racks l - 2) (groups l) k (shared_symbol f l shares) →
      Located (shape_of f (plain_layout 2 l)) h (helper_at helpers) (plain_layout 2 l).helpers (parity_racks (plain_layout 2 l)) (groups (plain_layout 2 l)) k (shared_symbol f (plain_layout 2 l) shares)
  unfolding plain_layout shared_symbol
  located_there k = move (LocatedBy k) _ _ _ _ _ _ _ _ (sym (all_helpers l)) (sym (plain_digits l a one 2 two_racks)) (sym (plain_unknowns l a one 2 two_racks))
      (sym (plain_groups l a one 2 two_racks))

-- ---- the answers
module _ {A : Type 0} {f : Field A} (W : Working f) (l : Layout) (x : ℕ) (helpers shares host old : List ℕ) where
  pub refused_answer : (r : ℕ) → r ≡ correcting_refusal f l x helpers shares host (length old) → ¬ (r ≡ 0) → CorrectingRefused f l x helpers shares host old old (report (Refused r))
  refused_answer r e d = record { reason = omega arith; refused = λ n. e; last = λ z. absurd (d (e ∙ z)); kept = refl }

  module _ (z : correcting_refusal f l x helpers shares host (length old) ≡ 0) where
    acc : Accepted f l x helpers shares host (length old)
    acc = accepted_so f l x helpers shares host (length old) z

    pub accepted_layout : AdmissibleWith f.order 1 l
    accepted_layout = acc.adm

    cab : Cabinet l
    cab = acc.adm.admissible.cabinet

    one : l.errors ≡ 1
    one = acc.adm.errors_are

    all_help : Helpers (plain_layout 2 l) x helpers
    all_help = unfold plain_layout in record {
      lost_in = acc.help.lost_in;
      many = acc.help.many ∙ sym (all_helpers l);
      inside = λ i q. acc.help.inside i (rw (all_helpers l) at q);
      rising = λ i q. acc.help.rising i (rw (all_helpers l) at q);
      other = λ i q. acc.help.other i (rw (all_helpers l) at q);
    }

    pub rebuilding_all : Rebuilding f.order l 2 x helpers shares host old
    rebuilding_all = record {
      adm = acc.adm;
      racks = two_racks;
      help = all_help;
      shares_long = let d : l.helpers ≡ l.helpers - (2 - 2) = omega arith in acc.shares_long ∙ ap (λ n. n * groups l) d;
      host_long = acc.host_long;
      spare_long = acc.spare_long;
    }

    pub leaving_out : (k : ℕ) → k < length helpers → LeavingOut f.order l x helpers shares host k old
    leaving_out k h = record {
      adm = acc.adm;
      help = acc.help;
      inside = omega (arith, h, acc.help.many);
      shares_long = acc.shares_long;
      host_long = acc.host_long;
      spare_long = acc.spare_long;
    }

    pub sending_of : (short : Layout) → short ≡ plain_layout 2 l → Sent short (x / l.size) helpers shares
    sending_of short e = subst (λ y. Sent y (x / l.size) helpers shares) (sym e) go
      where
        go : Sent (plain_layout 2 l) (x / l.size) helpers shares
        go = unfold plain_layout in record {
          chosen = record {
            adm = plain_cabinet l cab one 2 two_racks;
            plain = refl;
            host_in = rack_in l cab x acc.help.lost_in;
            many = all_help.many;
            inside = all_help.inside;
            rising = all_help.rising;
            other = all_help.other;
          };
          shares_long = acc.shares_long ∙ ap₂ (λ d n. d * n) (sym (all_helpers l)) (sym (plain_groups l cab one 2 two_racks));
        }

    module _ (short : Layout) (e : short ≡ plain_layout 2 l) (r : ℕ) (found : Found f short (x / l.size) helpers shares r) where
      abbrev h : ℕ
      h = x / l.size

      here : Found f (plain_layout 2 l) (x / l.size) helpers shares r
      here = subst (λ y. Found f y (x / l.size) helpers shares r) e found

      d_is : (plain_layout 2 l).helpers ≡ l.helpers
      d_is = all_helpers l

      shared : ℕ → ℕ → A
      shared = shared_symbol f l shares

      dirty : ¬ (r ≡ l.helpers) → ¬ (ChecksHold f l x helpers shared)
      unfolding shared
      dirty d g = here.dirty (λ q. d (q ∙ d_is)) (clean_there f l cab one h helpers shares (hold_clean W l acc.adm x helpers acc.help shared g))

      -- no share alone can be the wrong one
      pub none_answer : length helpers < r → CorrectingRefused f l x helpers shares host old old (report (Refused 14))
      unfolding shared
      none_answer q =
          let m = acc.help.many in
          let top : r ≡ (plain_layout 2 l).helpers + 1 = (let t = here.high in let d = d_is in omega arith) in
          record {
            reason = omega arith;
            refused = λ n. absurd (n z);
            last = λ w. (
              refl,
              none_hold W l acc.adm x helpers acc.help shares
                  (λ c. here.dirty (λ y. omega (arith, d_is)) (clean_there f l cab one h helpers shares c))
                  (λ k hk g. here.none top k (rw d_is hk) (located_there f l cab one h helpers shares k g)),
            );
            kept = refl;
          }

      -- the checks hold
      pub clean_answer : (new : List ℕ) → r ≡ length helpers → Rebuilt f l 2 x helpers shares host old new →
          CorrectingDone f l x helpers shares host old new (report (Done l.racks (length shares)))
      unfolding shared
      clean_answer new q m =
          let g = clean_hold W l acc.adm x helpers acc.help shared
          (clean_here f l cab one h helpers shares (here.clean (q ∙ acc.help.many ∙ sym d_is))) in
          record {
            accepted = z;
            crossed_is = acc.shares_long;
            long = m.long;
            settled = record {
              meant = shared;
              named = record { right = λ i p hi hp n. refl; wrong = λ d. absurd (d refl) };
              hold = g;
              tray = tray_all W l acc.adm x helpers acc.help shared g shares host old new all_help m (λ i p hi hp. refl);
            };
          }

      -- one share is wrong
      pub named_answer : (new : List ℕ) → r < length helpers → RebuiltWithout f l x helpers shares host r old new →
          CorrectingDone f l x helpers shares host old new (report (Done (get_or helpers r 0) (length shares)))
      unfolding shared
      named_answer new q m =
          let inside : r < l.helpers = rw (sym acc.help.many) q in
          let meant = right_share W l acc.adm x helpers acc.help r shared in
          let alike = right_alike W l acc.adm x helpers acc.help r shared in
          let g : ChecksHold f l x helpers meant = located_hold W l acc.adm x helpers acc.help r shared inside
          (located_here f l cab one h helpers shares r (here.helper (rw d_is inside))) in
          let w : Differs W (groups l) (λ p. shared p r) (λ p. meant p r) = differs W (groups l) (λ p. shared p r) (λ p. meant p r) (λ all.
          dirty (λ y. omega arith) (record {
            sums = g.sums;
            solution = λ p hp. record {
              given = λ i hi. (g.solution p hp).given i hi ∙ sym (both meant alike all p hp i hi (ℕ_discrete i r));
              checks = (g.solution p hp).checks;
            };
          })) in
          record {
            accepted = z;
            crossed_is = acc.shares_long;
            long = m.rebuilt.long;
            settled = record {
              meant = meant;
              named = record {
                right = λ i p hi hp n. alike.at p i hp hi (λ y. n (ap (λ o. get_or helpers o 0) y));
                wrong = λ n. record { helper = r; group = w.at; helper_in = inside; group_in = w.inside; is_rack = refl; differs = w.differ };
              };
              hold = g;
              tray = tray_without W l acc.adm x helpers acc.help meant g shares host r old new m (λ i p hi hp a. alike.at p i hp hi a);
            };
          }
        where
          both : (meant : ℕ → ℕ → A) → Alike W l acc.adm x helpers acc.help r shared meant → ((p : ℕ) → p < groups l → shared p r ≡ meant p r) →
              (p : ℕ) → p < groups l → (i : ℕ) → i < l.helpers → Dec (i ≡ r) → shared p i ≡ meant p i
          both meant alike all p hp i hi (yes y) = ap (shared p) y ∙ all p hp ∙ ap (meant p) (sym y)
          both meant alike all p hp i hi (no y) = alike.at p i hp hi y
