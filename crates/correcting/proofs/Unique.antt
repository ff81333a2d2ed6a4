-- The contract decides the answer and every symbol of the spare, for all inputs; and with at most one wrong share of a codeword's it gives the codeword's tray and
-- the right name.
-- Assumes nothing.
use mathlib.Core.Path.{◌≡◌, refl, sym, ◌∙◌, ap, ap₂}
use mathlib.Core.List.{List}
use Prim.Native.Nat.{ℕ, ◌/◌}
use native.Mathlib.Decide.{ℕ_discrete}
use native.Mathlib.Omega.{arith}
use lib.ListN.{length, get_or}
use lib.Seq.{ext_get_or}
use Rattle.algebra.specs.Shape.{Field}
use Rattle.algebra.specs.Plain.{Working}
use Rattle.layout.specs.declared.Layout.{Layout}
use Rattle.layout.specs.Layout.{layers, traffic, AdmissibleWith}
use Rattle.rule.specs.Rule.{tray_part, rack_part, share_symbol}
use Rattle.correcting.specs.declared.Corrected.{Corrected}
use Rattle.correcting.specs.declared.Corrected.TheVariants.{Done, Refused}
use Rattle.correcting.specs.Correcting.{correcting_refusal, report, Names, OneWrong, CorrectingDone, CorrectingRefused, CorrectingAnswer}
use Rattle.correcting.proofs.Refusals.{accepted_so, so_accepted}
use Rattle.correcting.proofs.Symbols.{seen_all}
use Rattle.correcting.proofs.Settled.{settled_one, settled_not_none}
use Rattle.correcting.proofs.Exact.{true_shares, true_hold, true_alike, names_true, tray_true}

module _ {A : Type 0} {f : Field A} (W : Working f) (l : Layout) (x : ℕ) (helpers shares host old new new' : List ℕ) where
  both_done : (a c a' c' : ℕ) → CorrectingDone f l x helpers shares host old new (report (Done a c)) → CorrectingDone f l x helpers shares host old new' (report (Done a' c')) →
      (Done a c ≡ Done a' c') × (new ≡ new')
  both_done a c a' c' p q =
      let acc = accepted_so f l x helpers shares host (length old) p.accepted in
      let s = settled_one W l acc.adm x helpers acc.help shares host a a' new new' p.settled q.settled in (
        ap₂ (λ r n. Done r n) s.0 (p.crossed_is ∙ sym q.crossed_is),
        ext_get_or 0 new new' (p.long ∙ sym q.long) (λ j k. s.1 j (omega (arith, k, p.long, acc.spare_long))),
      )

  not_both : {B : Type 0} (a c e : ℕ) (new'' new''' : List ℕ) → CorrectingDone f l x helpers shares host old new'' (report (Done a c)) →
      CorrectingRefused f l x helpers shares host old new''' (report (Refused e)) → B
  not_both a c e new'' new''' p q =
      let acc = accepted_so f l x helpers shares host (length old) p.accepted in
      absurd (settled_not_none W l acc.adm x helpers acc.help shares host a new'' p.settled (q.last p.accepted).1)

  both_refused : (e e' : ℕ) → CorrectingRefused f l x helpers shares host old new (report (Refused e)) → CorrectingRefused f l x helpers shares host old new' (report (Refused e')) →
      (Refused e ≡ Refused e') × (new ≡ new')
  both_refused e e' p q = (ap Refused (same (ℕ_discrete (correcting_refusal f l x helpers shares host (length old)) 0)), p.kept ∙ sym q.kept)
    where
      same : Dec (correcting_refusal f l x helpers shares host (length old) ≡ 0) → e ≡ e'
      same (yes z) = (p.last z).0 ∙ sym (q.last z).0
      same (no n) = p.refused n ∙ sym (q.refused n)

  -- two answers to one call are the same, and so are the spares they leave: also where two shares are wrong
  pub correcting_unique : (a b : Corrected) → CorrectingAnswer f l x helpers shares host old new a → CorrectingAnswer f l x helpers shares host old new' b → (a ≡ b) × (new ≡ new')
  correcting_unique (Done a c) (Done a' c') p q = both_done a c a' c' p q
  correcting_unique (Done a c) (Refused e) p q = not_both a c e new new' p q
  correcting_unique (Refused e) (Done a c) p q = not_both a c e new' new q p
  correcting_unique (Refused e) (Refused e') p q = both_refused e e' p q

module _ {A : Type 0} {f : Field A} (W : Working f) (l : Layout) (adm : AdmissibleWith f.order 1 l) (x : ℕ) (helpers shares host c : List ℕ) (k : ℕ)
    (g : OneWrong f l x helpers shares host c k) where
  -- for each admissible layout with E = 1, codeword c, lost tray and choice of d helpers: if at most the k-th helper's share is wrong, the repair is done, d·L/s
  -- symbols cross, the rack named is the one whose share is not the codeword's (B where all are), and the spare is the codeword's lost tray
  pub correcting_exact : (old new : List ℕ) → length old ≡ layers l → (a : Corrected) → CorrectingAnswer f l x helpers shares host old new a →
      ((report a).refusal ≡ 0) × ((report a).crossed ≡ traffic l)
      × Names f l x helpers shares (λ p i. share_symbol f l 0 (x / l.size) (rack_part l c (get_or helpers i 0)) p) (report a).rack × (new ≡ tray_part l c x)
  unfolding true_shares
  correcting_exact old new long (Done rack n) p = (
    refl,
    p.crossed_is,
    names_true W l adm x helpers shares host c k g rack new p.settled,
    tray_true W l adm x helpers shares host c k g rack new p.settled (p.long ∙ long),
  )
  correcting_exact old new long (Refused e) p =
      absurd ((p.last (so_accepted f l x helpers shares host (length old) (record {
        adm = adm;
        shares_long = g.setting.shares_long;
        host_long = g.setting.host_long;
        spare_long = long;
        symbols = seen_all f l adm.admissible.cabinet x helpers shares host c g.setting;
        help = g.setting.help;
      }))).1.changed k g.helper_in (true_shares W l adm x helpers shares host c k g) (true_alike W l adm x helpers shares host c k g) (true_hold W l adm x helpers shares host c k g))
