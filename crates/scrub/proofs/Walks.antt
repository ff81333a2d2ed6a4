-- A walk begun by a reset: after each call the record tells of the layers below its next, and the report says so.
-- Assumes nothing.
use mathlib.Core.Path.{◌≡◌, refl, sym, ap, ap₂, ◌∙◌, subst}
use mathlib.Core.Bool.{Bool, true, false, cond, false≢true}
use mathlib.Core.List.{List}
use Prim.Native.Nat.{ℕ, ◌+◌, ◌*◌, ◌<◌, ◌≤◌}
use native.Mathlib.Decide.{ℕ_discrete, dec_lt}
use native.Mathlib.Omega.{arith}
use borrow.Author.Tests.{eq-eqb, lt-ltb}
use lib.Dec.{eqb, ltb}
use lib.ListN.{length}
use Rattle.algebra.specs.Coding.{Coded}
use Rattle.algebra.specs.Shape.{Field, FieldLaws}
use Rattle.layout.specs.declared.Layout.{Layout}
use Rattle.layout.specs.Layout.{layers, trays, admissible}
use Rattle.codeword.specs.Codeword.{Codeword}
use Rattle.scrub.specs.declared.Walk.{Walk}
use Rattle.scrub.specs.declared.Scrubbed.{Scrubbed}
use Rattle.scrub.specs.declared.Report.{Report}
use Rattle.scrub.specs.declared.Report.TheVariants.{Begun, Unfinished, Sound, Bad, Refused}
use Rattle.scrub.specs.Scrub.{bad_layer, bad_count, least_bad, after, plausible, step_layers, scrub_refusal, scrubbed, begun}
use Rattle.scrub.specs.Inner.{report_of, stepped, fresh}
use Rattle.scrub.specs.Calls.{Calls, reset, step, refused_step, refused_reset, Tells, Says, Walked}
use Rattle.scrub.proofs.Layers.{count_on, least_on, count_high, least_none, least_some, none_bad, all_good}
use Rattle.scrub.proofs.Seen.{Seen, seen_none, seen_more, seen_all}
use Rattle.scrub.proofs.Answers.{layer_good, good_checks, none_so_far, some_so_far, not_refused, accepted}
use Rattle.scrub.proofs.Answers.{step_refused, step_taken, not_begun, is_begun_lem, is_unfinished, is_sound, is_bad}

-- what a report is not
is_refused : Report → Bool
is_refused Begun = false
is_refused Unfinished = false
is_refused Sound = false
is_refused Bad = false
is_refused (Refused e) = true

abbrev ground_of : Report → ℕ
ground_of Begun = 0
ground_of Unfinished = 0
ground_of Sound = 0
ground_of Bad = 0
ground_of (Refused e) = e

is_begun : Report → Bool
is_begun Begun = true
is_begun Unfinished = false
is_begun Sound = false
is_begun Bad = false
is_begun (Refused e) = false

not_refusing : (L : ℕ) (w : Walk) → is_refused (report_of L w) ≡ false
unfolding report_of is_refused
not_refusing L w = go (ltb w.next L) (eqb w.bad 0)
  where
    go : (s t : Bool) → is_refused (cond s Unfinished (cond t Sound Bad)) ≡ false
    go true t = refl
    go false true = refl
    go false false = refl

-- what a reset leaves, by its report
reset_admitted : (N : ℕ) (l : Layout) (w : Walk) → (begun N l w).report ≡ Begun → admissible N l ≡ true
unfolding is_begun
reset_admitted N l w h = go (admissible N l) refl
  where
    go : (t : Bool) → admissible N l ≡ t → admissible N l ≡ true
    go true e = e
    go false e = absurd (false≢true (ap is_begun (ap (λ (s : Scrubbed). s.report) (not_begun N l w e) ∙ h)))

reset_refused : (N : ℕ) (l : Layout) (w : Walk) (e : ℕ) → (begun N l w).report ≡ Refused e → ((begun N l w).walk ≡ w) × (0 < e)
unfolding is_refused
reset_refused N l w e h = go (admissible N l) refl
  where
    go : (t : Bool) → admissible N l ≡ t → ((begun N l w).walk ≡ w) × (0 < e)
    go true a = absurd (false≢true (ap is_refused (ap (λ (s : Scrubbed). s.report) (is_begun_lem N l w (layers l) a refl) ∙ h)))
    go false a =
        let q = ap ground_of (ap (λ (s : Scrubbed). s.report) (not_begun N l w a) ∙ h) in
        (sym (ap (λ (s : Scrubbed). s.walk) (not_begun N l w a)), omega arith)

module _ {A : Type 0} (f : Field A) where
  step_kept : (l : Layout) (c : List ℕ) (w : Walk) (budget e : ℕ) → (scrubbed f l c w budget).report ≡ Refused e → ((scrubbed f l c w budget).walk ≡ w) × (0 < e)
  unfolding is_refused
  step_kept l c w budget e h = go (ℕ_discrete (scrub_refusal f l c w budget) 0)
    where
      go : Dec (scrub_refusal f l c w budget ≡ 0) → ((scrubbed f l c w budget).walk ≡ w) × (0 < e)
      go (yes z) =
          absurd (false≢true (sym (not_refusing (layers l) (stepped f l c w budget))
          ∙ ap is_refused (ap (λ (s : Scrubbed). s.report) (step_taken f l c w budget z) ∙ h)))
      go (no d) =
          let s = step_refused f l c w budget (scrub_refusal f l c w budget) refl d in
          let q = ap ground_of (ap (λ (s : Scrubbed). s.report) s ∙ h) in
          (sym (ap (λ (s : Scrubbed). s.walk) s), omega arith)

module _ {A : Type 0} (f : Field A) (l : Layout) (c : List ℕ) where
  tells_fresh : Tells f l c (fresh l)
  unfolding fresh bad_count least_bad
  tells_fresh = record { within = omega arith; count = refl; least = refl }

  tells_after : (w : Walk) → Tells f l c w → (k : ℕ) → w.next + k ≤ layers l → Tells f l c (after (bad_layer f l c) w k)
  unfolding after
  tells_after w t k h =
      let p = bad_layer f l c in
      record {
        within = h;
        count = ap (λ (n : ℕ). n + bad_count p w.next k) t.count ∙ count_on p w.next k;
        least =
            ap₂ (λ (n e : ℕ). cond (eqb n 0) (least_bad p w.next e k) e) t.count t.least
            ∙ least_on p (layers l) w.next k;
      }

  -- such a record is one that a call takes
  tells_plausible : (w : Walk) → Tells f l c w → plausible (layers l) w ≡ true
  tells_plausible w t = go (ℕ_discrete w.bad 0)
    where
      high : w.bad ≤ w.next
      high = omega (arith, t.count, count_high (bad_layer f l c) 0 w.next)

      go : Dec (w.bad ≡ 0) → plausible (layers l) w ≡ true
      go (yes z) =
          sym (none_so_far (layers l) w t.within high z)
          ∙ eq-eqb _ _ (t.least ∙ least_none (bad_layer f l c) 0 (layers l) w.next (sym t.count ∙ z))
      go (no d) =
          let b = least_some (bad_layer f l c) 0 (layers l) 0 w.next (omega (arith, t.count)) in
          sym (some_so_far (layers l) w t.within high d) ∙ lt-ltb w.first w.next (omega (arith, t.least, b.1))

  -- what a report says where the record tells, over a buffer of the right length
  tells_report : (w : Walk) → Tells f l c w → Seen f l c w.next → Coded f.coding → length c ≡ trays l * layers l → Says f l c w (report_of (layers l) w)
  tells_report w t seen ok long = go (dec_lt w.next (layers l)) (ℕ_discrete w.bad 0)
    where
      go : Dec (w.next < layers l) → Dec (w.bad ≡ 0) → Says f l c w (report_of (layers l) w)
      go (yes h) _ = subst (Says f l c w) (is_unfinished (layers l) w h) h
      go (no h) (yes z) =
          let end : w.next ≡ layers l = omega (arith, t.within) in
          subst (Says f l c w) (is_sound (layers l) w (omega arith) z) (
            end,
            z,
            record {
              long = long;
              symbols = seen_all f l c (λ x j hx hj. seen x j hx (omega arith)) long;
              holds = λ j k v u. good_checks f ok l c j (none_bad (bad_layer f l c) 0 w.next (sym t.count ∙ z) j (omega arith) (omega arith)) v u;
            },
          )
      go (no h) (no d) =
          let end : w.next ≡ layers l = omega (arith, t.within) in
          subst (Says f l c w) (is_bad (layers l) w (omega arith) d) (
            end,
            omega arith,
            λ (q : Codeword f l c).
                d (t.count ∙ all_good (bad_layer f l c) 0 w.next (λ j k u. sym (layer_good f ok l c j (q.holds j (omega arith))))),
          )

  -- what is known along a walk: the reset was not refused, and the layers below the next were looked at
  record Along (w : Walk) : Type 0 where
    adm : admissible f.order l ≡ true
    tells : Tells f l c w
    seen : Seen f l c w.next

  abbrev Good : Scrubbed → Type 0
  Good s = Along s.walk × Says f l c s.walk s.report

  module _ (ok : Coded f.coding) where
    -- a call of the walk, refused or not
    stepping : (w : Walk) → Along w → (budget : ℕ) → Good (scrubbed f l c w budget)
    unfolding stepped after
    stepping w a budget = go (ℕ_discrete (scrub_refusal f l c w budget) 0)
      where
        go : Dec (scrub_refusal f l c w budget ≡ 0) → Good (scrubbed f l c w budget)
        go (yes z) =
            let p = accepted f l c w budget z in
            let t = tells_after w a.tells (step_layers (layers l) w budget) (omega (arith, a.tells.within)) in
            let s = seen_more f l c w budget a.seen p.symbols in
            subst Good (step_taken f l c w budget z) (record { adm = a.adm; tells = t; seen = s }, tells_report _ t s ok p.long)
        go (no d) = subst Good (step_refused f l c w budget (scrub_refusal f l c w budget) refl d) (a, omega arith)

    good : {w : Walk} {r : Report} → Calls f l c w r → Along w × Says f l c w r
    unfolding fresh
    good (reset w s q h) =
        let a = reset_admitted f.order l w (ap (λ (x : Scrubbed). x.report) (sym q) ∙ h) in
        subst Good (is_begun_lem f.order l w (layers l) a refl ∙ sym q) (record { adm = a; tells = tells_fresh; seen = seen_none f l c }, refl)
    good (step {w = w} before budget s q) = subst Good (sym q) (stepping w (good before).0 budget)
    good (refused_step {w = w} before l' c' budget e s q h) =
        let k = step_kept f l' c' w budget e (ap (λ (x : Scrubbed). x.report) (sym q) ∙ h) in
        (subst Along (sym (ap (λ (x : Scrubbed). x.walk) q ∙ k.0)) (good before).0, subst (Says f l c s.walk) (sym h) k.1)
    good (refused_reset {w = w} before l' e s q h) =
        let k = reset_refused f.order l' w e (ap (λ (x : Scrubbed). x.report) (sym q) ∙ h) in
        (subst Along (sym (ap (λ (x : Scrubbed). x.walk) q ∙ k.0)) (good before).0, subst (Says f l c s.walk) (sym h) k.1)

  -- THE CLAIM for every list of calls and every buffer: where a number is no symbol, the call that would look at it is refused
  pub walked : FieldLaws f → {w : Walk} {r : Report} → Calls f l c w r → Walked f l c w r
  walked laws {w} calls =
      let g = good laws.coded calls in
      record {
        tells = g.0.tells;
        says = g.1;
        goes_on = λ long budget symbols. sym (not_refused f l c w budget g.0.adm long (tells_plausible w g.0.tells) symbols);
      }
