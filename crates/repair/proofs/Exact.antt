-- The lost trays come back exactly: shares as the share call computes them, sound trays of the codeword, and one call that does every group.
-- Assumes nothing.
use mathlib.Core.Path.{◌≡◌, refl, sym, ◌∙◌, ap, subst}
use mathlib.Core.List.{List}
use Prim.Native.Nat.{ℕ, ◌+◌, ◌*◌, ◌/◌, ◌%◌, ◌≤◌, ◌<◌}
use native.Mathlib.Decide.{ℕ_discrete}
use native.Mathlib.Nat.{mul_assoc, mod-lt, div-add-mod', div-lt_iff_lt-mul}
use native.Mathlib.Omega.{arith}
use lib.ListN.{length, get_or, take, drop, length-drop}
use lib.Seq.{get_or-take, get_or-drop, length-take-le}
use Rattle.lists.proofs.Tables.{table_at}
use Rattle.algebra.specs.Coding.{InRange}
use Rattle.algebra.specs.Shape.{Field, FieldLaws}
use Rattle.algebra.specs.Plain.{Working}
use Rattle.layout.specs.declared.Layout.{Layout}
use Rattle.layout.specs.Layout.{layers, groups, traffic, AdmissibleWith}
use Rattle.layout.proofs.Facts.{facts_admissible, size_pos, fits}
use Rattle.kernel.proofs.Rows.{row_before}
use Rattle.codeword.specs.Codeword.{Usable, Solvable}
use Rattle.codeword.proofs.Usable.{solvable}
use Rattle.rule.specs.Rule.{rack_part, share_symbol}
use Rattle.rule.specs.Lost.{first_lost, lost_part, Of}
use Rattle.rule.proofs.Racks.{rack_long}
use Rattle.rule.proofs.Rule.{host_in}
use Rattle.rule.proofs.Lost.{lost_high}
use Rattle.rule.proofs.Exact.{rule_whole}
use Rattle.share.specs.Share.{share_of}
use Rattle.share.specs.Many.{shares_buffer, many_refusal, many_buffer}
use Rattle.share.proofs.Sums.{groups_pos}
use Rattle.share.proofs.Refusals.{rack_symbols, some_seen, ground_0, rack_grounds_lem, buffer_refused, buffer_done, many_same, many_done}
use Rattle.share.proofs.Shares.{sent, sent_many}
use Rattle.repair.specs.declared.Repaired.{Repaired}
use Rattle.repair.specs.declared.Repaired.TheVariants.{Done, Refused}
use Rattle.repair.specs.Repair.{report, RepairAnswer}
use Rattle.repair.specs.Exact.{Sent, Called}
use Rattle.repair.proofs.Refusals.{accepted}
use Rattle.repair.proofs.Pieces.{swap}
use Rattle.repair.proofs.Seen.{piece_symbols_lem}

share_below : {A : Type 0} (f : Field A) → FieldLaws f → (l : Layout) (m h : ℕ) (rack : List ℕ) (p : ℕ) → p < groups l → get_or (share_of f l m h rack) p 0 < f.coding.size
unfolding share_of
share_below f laws l m h rack p hp = rw (table_at (λ p. f.coding.val (share_symbol f l m h rack p)) (groups l) p hp) (laws.coded.val_below _)

-- the shares and sound trays are those of the codeword
pub of_sent : {A : Type 0} (f : Field A) (l : Layout) → Usable f l → (lost helpers shares host c : List ℕ) → Sent f l lost helpers shares host c → Of f l lost helpers shares host c
of_sent f l ok lost helpers shares host c s = record {
  codeword = s.setting.codeword;
  share = λ m i p hm hi hp. sent f ok.field l (length lost) (first_lost l lost / l.size) shares (rack_part l c (get_or helpers i 0)) i m (s.share i m hi hm) p hp;
  sound = s.setting.sound;
}

-- so the shares' numbers are symbols
sent_range : {A : Type 0} {f : Field A} (W : Working f) (l : Layout) → AdmissibleWith f.order 0 l → (lost helpers shares host c : List ℕ) →
    Sent f l lost helpers shares host c → InRange f.coding shares
sent_range {f = f} W l adm lost helpers shares host c s = record {
  at = λ n hn.
      let row_low : n / groups l < l.helpers * length lost = (div-lt_iff_lt-mul pos).1 (omega (arith, hn, long)) in
      subst (λ y. get_or shares y 0 < f.coding.size) (place n)
      (at (n / groups l / length lost) (n / groups l % length lost) (n % groups l) ((div-lt_iff_lt-mul some).1 row_low) (mod-lt (n / groups l) some) (mod-lt n pos));
}
  where
    pos : 0 < groups l
    pos = groups_pos l adm.admissible.cabinet

    some : 0 < length lost
    some = s.setting.losses.some

    long : length shares ≡ l.helpers * length lost * groups l
    long = s.setting.shares_long ∙ swap (length lost) l.helpers (groups l) ∙ sym (mul_assoc l.helpers (length lost) (groups l))

    place : (n : ℕ) → (n / groups l / length lost * length lost + n / groups l % length lost) * groups l + n % groups l ≡ n
    place n = ap (λ y. y * groups l + n % groups l) (div-add-mod' (n / groups l) (length lost)) ∙ div-add-mod' n (groups l)

    at : (k m p : ℕ) → k < l.helpers → m < length lost → p < groups l → get_or shares ((k * length lost + m) * groups l + p) 0 < f.coding.size
    at k m p hk hm hp =
        rw (sym (get_or-take (groups l) (drop ((k * length lost + m) * groups l) shares) p 0 hp ∙ get_or-drop ((k * length lost + m) * groups l) shares p 0)
        ∙ ap (λ o. get_or o p 0) (s.share k m hk hm))
        (share_below f W.field l m (first_lost l lost / l.size) (rack_part l c (get_or helpers k 0)) p hp)

-- For each admissible layout, codeword c, e lost trays of one rack and choice of d helpers out of the other racks: a repair with first group 0 and a budget of L/s
-- groups or more, given the helpers' shares and the sound trays of the rack, is done, e·d·L/s symbols cross, and the spare then holds the codeword's lost trays.
pub repair_exact : {A : Type 0} {f : Field A} (W : Working f) (l : Layout) → AdmissibleWith f.order 0 l → (lost helpers shares host c : List ℕ) → Sent f l lost helpers shares host c →
    (budget : ℕ) → groups l ≤ budget → (spare new : List ℕ) → length spare ≡ length lost * layers l →
    (answer : Repaired) → RepairAnswer f l lost helpers shares host 0 budget spare new answer →
    ((report answer).refusal ≡ 0) × ((report answer).crossed ≡ length lost * traffic l) × (new ≡ lost_part l lost c)
repair_exact {f = f} W l adm lost helpers shares host c s budget enough spare new el (Refused e) r =
    let t = s.setting in
    let ok = solvable W l adm in
    absurd (omega (
      arith,
      r.0,
      r.1,
      accepted f l lost helpers shares host (length spare) 0 budget (lost_high f l ok lost helpers t.losses)
          (record { adm = adm; shares_long = t.shares_long; host_long = t.host_long; spare_long = el; losses = t.losses; first_in = omega arith })
          (piece_symbols_lem f l lost shares host 0 budget helpers t.losses (size_pos l adm.admissible.cabinet) (omega arith) t.shares_long
          (sent_range W l adm lost helpers shares host c s) t.host_range),
    ))
repair_exact {f = f} W l adm lost helpers shares host c s budget enough spare new el (Done g k t) r =
    let ok = solvable W l adm in
    let all : g ≡ groups l = omega (arith, r.done_is) in (
      refl,
      r.crossed_is ∙ ap (λ n. length lost * (l.helpers * n)) all,
      rule_whole f l ok lost helpers s.setting.losses shares host c (of_sent f l ok.usable lost helpers shares host c s) new (r.piece.long ∙ el)
          (λ p h. r.piece.done p (omega arith) (omega (arith, all))),
    )

module _ {A : Type 0} {f : Field A} (W : Working f) (l : Layout) (adm : AdmissibleWith f.order 0 l) (lost helpers shares host c : List ℕ)
    (s : Called f l lost helpers shares host c) where
  abbrev ok : Solvable f l
  ok = solvable W l adm

  abbrev e : ℕ
  e = length lost

  abbrev h : ℕ
  h = first_lost l lost / l.size

  module _ (k : ℕ) (hk : k < l.helpers) where
    abbrev i : ℕ
    i = get_or helpers k 0

    -- the k-th helper's shares fill their place among the shares
    block_long : length (take (e * groups l) (drop (k * (e * groups l)) shares)) ≡ e * groups l
    block_long =
        length-take-le (e * groups l) (drop (k * (e * groups l)) shares)
        (rw (length-drop (k * (e * groups l)) shares, s.setting.shares_long, swap e l.helpers (groups l)) (omega (arith, row_before k l.helpers (e * groups l) hk)))

    -- no such share call is refused
    pub call_done : many_refusal f l e h i (rack_part l c i) (length (s.room k)) ≡ 0
    call_done = go (ℕ_discrete _ 0)
      where
        fits_then : length (s.room k) ≡ e * groups l → many_refusal f l e h i (rack_part l c i) (length (s.room k)) ≡ 0
        fits_then r =
            let t = s.setting in
            let help = t.losses.help in
            sym (ground_0 f.order l e l.size h i _ _ _ (sym (facts_admissible f.order l adm.admissible))
            (rack_long l c i (help.inside k hk) t.codeword.long) r (host_in f l ok (first_lost l lost) helpers help) (help.inside k hk)
            (sym (some_seen e _ (λ q. let z = t.losses.some in omega arith)) ∙ rack_symbols f l c t.codeword i (help.inside k hk))
            (sym (fits l e t.losses.some t.losses.few)) (λ q. help.other k hk (sym q))
            ∙ rack_grounds_lem W l e h i (rack_part l c i) (length (s.room k)) ∙ many_same f l e h i (rack_part l c i) (s.room k) adm.errors_are)

        same : shares_buffer f l e h i (rack_part l c i) (s.room k) ≡ many_buffer f l e h i (rack_part l c i) (s.room k)
        same = (many_done f l e h i (rack_part l c i) (s.room k) _ _ adm.errors_are refl refl).1

        left : ¬ (many_refusal f l e h i (rack_part l c i) (length (s.room k)) ≡ 0) → s.room k ≡ many_buffer f l e h i (rack_part l c i) (s.room k)
        left d = buffer_refused f l e h i (rack_part l c i) (s.room k) (λ z. d (sym (many_same f l e h i (rack_part l c i) (s.room k) adm.errors_are) ∙ z)) ∙ same

        go : Dec (many_refusal f l e h i (rack_part l c i) (length (s.room k)) ≡ 0) → many_refusal f l e h i (rack_part l c i) (length (s.room k)) ≡ 0
        go (yes z) = z
        go (no d) = fits_then (ap length (left d ∙ sym (s.share k hk)) ∙ block_long)

  -- what the share calls left is what the repair asks for
  pub sent_by_calls : Sent f l lost helpers shares host c
  sent_by_calls = record {
    setting = s.setting;
    share = λ k m hk hm.
        sent_many f l e h shares (rack_part l c (get_or helpers k 0)) k m hm
        (s.share k hk ∙ sym (
        buffer_done f l e h (get_or helpers k 0) (rack_part l c (get_or helpers k 0)) (s.room k)
        (many_same f l e h (get_or helpers k 0) (rack_part l c (get_or helpers k 0)) (s.room k) adm.errors_are ∙ call_done k hk)
        ∙ (many_done f l e h (get_or helpers k 0) (rack_part l c (get_or helpers k 0)) (s.room k) _ _ adm.errors_are refl refl).1));
  }

  -- so the lost trays come back exactly from what the share calls left
  pub exact_by_calls : (budget : ℕ) → groups l ≤ budget → (spare new : List ℕ) → length spare ≡ length lost * layers l → (answer : Repaired) →
      RepairAnswer f l lost helpers shares host 0 budget spare new answer →
      ((report answer).refusal ≡ 0) × ((report answer).crossed ≡ length lost * traffic l) × (new ≡ lost_part l lost c)
  exact_by_calls = repair_exact W l adm lost helpers shares host c sent_by_calls
