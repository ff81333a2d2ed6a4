-- With E = 1 a group has R - 2 unknowns and R checks: what the algebra says of such shares, over any field and every admissible layout.
-- Assumes nothing.
use mathlib.Core.Path.{◌≡◌, sym, ◌∙◌, ap, subst}
use mathlib.Core.List.{List}
use Prim.Native.Nat.{ℕ, ◌+◌, ◌-◌, ◌/◌, ◌^◌, ◌<◌}
use native.Mathlib.Nat.{div-lt_iff_lt-mul}
use native.Mathlib.Numerals.{add-one}
use native.Mathlib.Omega.{arith}
use lib.ListN.{get_or}
use Rattle.algebra.specs.Shape.{Field, Fits}
use Rattle.algebra.specs.Plain.{Working}
use Rattle.algebra.specs.Layers.{digit, layer_of}
use Rattle.algebra.specs.Cabinet.{Rising, Helping, Solution}
use Rattle.algebra.specs.Consistent.{Consistent, AlikeBut}
use Rattle.algebra.specs.Locate.{Clean, Located, corrected}
use Rattle.algebra.proofs.Numbers.{rising_from}
use Rattle.algebra.proofs.Layers.{digit_below, layer_back, group_in}
use Rattle.algebra.proofs.Repair.{host_congr}
use Rattle.algebra.proofs.Cabinet.{sums_only}
use Rattle.algebra.proofs.Locate.{correction_unique, consistent_clean, clean_consistent, located_consistent, corrected_alike, uncorrectable}
use Rattle.layout.specs.declared.Layout.{Layout}
use Rattle.layout.specs.Layout.{digits, layers, groups, parity_racks, Cabinet, AdmissibleWith}
use Rattle.layout.proofs.Numbers.{total, groups_are}
use Rattle.codeword.specs.Codeword.{shape_of}
use Rattle.codeword.proofs.Usable.{usable}
use Rattle.rule.specs.Rule.{Helpers, group_at, shared_symbol}
use Rattle.correcting.specs.Correcting.{ChecksHold, NoneHold}

module _ {A : Type 0} {f : Field A} (W : Working f) (l : Layout) (adm : AdmissibleWith f.order 1 l) (x : ℕ) (helpers : List ℕ) (ch : Helpers l x helpers) where
  cabinet : Cabinet l
  cabinet = adm.admissible.cabinet

  fits : Fits (shape_of f l)
  fits = (usable W l adm.admissible).fits

  -- the host rack, the helpers and the unknowns
  abbrev h : ℕ
  h = x / l.size

  abbrev helper : ℕ → ℕ
  helper k = get_or helpers k 0

  abbrev m : ℕ
  m = parity_racks l - 2

  pub two_more : m + 2 ≡ parity_racks l
  two_more = omega (arith, total l cabinet, adm.errors_are, cabinet.helpers_high)

  pub host_in : x / l.size < l.racks
  host_in = (div-lt_iff_lt-mul fits.some_places).1 ch.lost_in

  pub chosen_rising : Rising (λ k. get_or helpers k 0) l.helpers l.racks
  chosen_rising = rising_from helper l.helpers l.racks (λ k q. subst (λ n. helper k < helper n) (add-one k) (ch.rising k (omega (arith, add-one k)))) ch.inside

  pub helping : Helping (shape_of f l) (x / l.size) (λ k. get_or helpers k 0) l.helpers (parity_racks l - 2)
  helping = record {
    host_in = host_in;
    rising = chosen_rising;
    other = ch.other;
    total = omega (arith, total l cabinet, adm.errors_are, cabinet.helpers_high);
    few = cabinet.helpers_high;
  }

  pub helpers_some : 0 < l.helpers
  helpers_some = omega (arith, cabinet.helpers_low, adm.errors_are)

  within : (p : ℕ) → p < groups l → p < digits l ^ (l.racks - 1)
  within p k = rw (groups_are l cabinet) at k

  pub group_below : (j : ℕ) → j < layers l → group_at l x j < groups l
  group_below j k = rw (groups_are l cabinet) (group_in (digits l) fits.some_digits l.racks h j host_in k)

  -- R in place of R - 2 + 2
  over : (share : ℕ → ℕ → A) → ChecksHold f l x helpers share → Consistent (shape_of f l) h helper l.helpers (m + 2) (groups l) share
  over share g = record { sums = g.sums; solution = λ p k. subst (λ n. Solution (shape_of f l) 0 h p helper l.helpers n (share p) (g.sums p)) (sym two_more) (g.solution p k) }

  back : (share : ℕ → ℕ → A) → Consistent (shape_of f l) h helper l.helpers (m + 2) (groups l) share → ChecksHold f l x helpers share
  back share g = record { sums = g.sums; solution = λ p k. subst (λ n. Solution (shape_of f l) 0 h p helper l.helpers n (share p) (g.sums p)) two_more (g.solution p k) }

  -- the two are alike but for the k-th helper's share
  abbrev pub Alike : ℕ → (ℕ → ℕ → A) → (ℕ → ℕ → A) → Type 0
  Alike = AlikeBut (shape_of f l) (x / l.size) (λ k. get_or helpers k 0) l.helpers (parity_racks l) (groups l)

  alike_over : (k : ℕ) (s t : ℕ → ℕ → A) → Alike k s t → AlikeBut (shape_of f l) h helper l.helpers (m + 2) (groups l) k s t
  alike_over k s t a = record { at = a.at }

  alike_back : (k : ℕ) (s t : ℕ → ℕ → A) → AlikeBut (shape_of f l) h helper l.helpers (m + 2) (groups l) k s t → Alike k s t
  alike_back k s t a = record { at = a.at }

  -- one helper's share changed: what the checks hold for is the same
  pub hold_one : (share s t : ℕ → ℕ → A) (j k : ℕ) → j < l.helpers → k < l.helpers → Alike j share s → Alike k share t → ChecksHold f l x helpers s → ChecksHold f l x helpers t →
      (p i : ℕ) → p < groups l → i < l.helpers → s p i ≡ t p i
  hold_one share s t j k hj hk a b u v =
      correction_unique (shape_of f l) (fits) h helper l.helpers m helping (groups l) within share s t j k hj hk (alike_over j share s a) (alike_over k share t b) (over s u) (over t v)

  -- shares that are the same have the same host rack sums
  pub hold_sums : (s t : ℕ → ℕ → A) (u : ChecksHold f l x helpers s) (v : ChecksHold f l x helpers t) → ((p i : ℕ) → p < groups l → i < l.helpers → s p i ≡ t p i) →
      (j : ℕ) → j < layers l → u.sums (group_at l x j) (x / l.size) j ≡ v.sums (group_at l x j) (x / l.size) j
  hold_sums s t u v same j hj =
      let p = group_at l x j in
      let k = group_below j hj in
      let b = digit (digits l) j h in
      let lb = digit_below (digits l) fits.some_digits j h in
      let here = layer_back (digits l) fits.some_digits h j in
      let fewer : (s : ℕ → ℕ → A) (u : ChecksHold f l x helpers s) → Solution (shape_of f l) 0 h p helper l.helpers m (s p) (u.sums p)
      = λ s u. record { given = (u.solution p k).given; checks = λ w q. (u.solution p k).checks w (omega arith) } in
      ap (u.sums p h) (sym here)
      ∙ sums_only (shape_of f l) (fits) h host_in p (within p k) 0 helper l.helpers m helping (s p) (u.sums p) (fewer s u) b lb
      ∙ host_congr (shape_of f l) (fits) h (digit (digits l) (layer_of (digits l) h p 0)) (λ i q. digit_below (digits l) fits.some_digits _ i) helper l.helpers m helping 0 (s p) (t p)
      (λ i q. same p i k q) b
      ∙ sym (sums_only (shape_of f l) (fits) h host_in p (within p k) 0 helper l.helpers m helping (t p) (v.sums p) (fewer t v) b lb)
      ∙ ap (v.sums p h) here

  -- by the residues: the checks hold, or they hold with one share changed, or refusal 14
  pub clean_hold : (share : ℕ → ℕ → A) → Clean (shape_of f l) (x / l.size) (λ k. get_or helpers k 0) l.helpers (parity_racks l - 2) (groups l) share → ChecksHold f l x helpers share
  clean_hold share c = back share (clean_consistent (shape_of f l) (fits) h helper l.helpers m helping (groups l) within share c)

  pub hold_clean : (share : ℕ → ℕ → A) → ChecksHold f l x helpers share → Clean (shape_of f l) (x / l.size) (λ k. get_or helpers k 0) l.helpers (parity_racks l - 2) (groups l) share
  hold_clean share g = consistent_clean (shape_of f l) (fits) h helper l.helpers m helping (groups l) within share (over share g)

  pub right_share : ℕ → (ℕ → ℕ → A) → ℕ → ℕ → A
  right_share k share = corrected (shape_of f l) h helper l.helpers m (groups l) k share

  pub right_alike : (k : ℕ) (share : ℕ → ℕ → A) → Alike k share (right_share k share)
  unfolding right_share
  right_alike k share = alike_back k share _ (corrected_alike (shape_of f l) (fits) h helper l.helpers m helping (groups l) within k share)

  pub located_hold : (k : ℕ) (share : ℕ → ℕ → A) → k < l.helpers →
      Located (shape_of f l) (x / l.size) (λ k. get_or helpers k 0) l.helpers (parity_racks l - 2) (groups l) k share → ChecksHold f l x helpers (right_share k share)
  unfolding right_share
  located_hold k share hk g = back _ (located_consistent (shape_of f l) (fits) h helper l.helpers m helping (groups l) within k share hk g)

  pub none_hold : (shares : List ℕ) → ¬ (Clean (shape_of f l) (x / l.size) (λ k. get_or helpers k 0) l.helpers (parity_racks l - 2) (groups l) (shared_symbol f l shares)) →
      ((k : ℕ) → k < l.helpers → ¬ (Located (shape_of f l) (x / l.size) (λ k. get_or helpers k 0) l.helpers (parity_racks l - 2) (groups l) k (shared_symbol f l shares))) →
      NoneHold f l x helpers shares
  none_hold shares dirty none =
      let n = uncorrectable (shape_of f l) (fits) h helper l.helpers m helping (groups l) within (shared_symbol f l shares) dirty none in
      record { broken = λ g. n.broken (over _ g); changed = λ k q s a g. n.changed k q s (alike_over k _ s a) (over s g) }
