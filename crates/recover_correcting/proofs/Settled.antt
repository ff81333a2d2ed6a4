-- What the contract of the call settles, over any field: at most one tray can be named, the answer and every byte depend on the survivors
-- alone, and a codeword of which one tray
-- more than those erased was changed comes back with that tray named.
-- Assumes nothing.
use mathlib.Core.Path.{◌≡◌, refl, sym, ap, ap₂, ◌∙◌, subst}
use mathlib.Core.List.{List}
use mathlib.Core.Logic.{◌↔◌}
use Prim.Native.Nat.{ℕ, ◌+◌, ◌*◌, ◌<◌, ◌≤◌}
use native.Mathlib.Decide.{ℕ_discrete}
use native.Mathlib.Omega.{arith}
use lib.ListN.{length, get_or}
use Rattle.lists.proofs.Numbers.{cell_read}
use Rattle.algebra.specs.Shape.{Field}
use Rattle.algebra.specs.Plain.{Working}
use Rattle.layout.specs.declared.Layout.{Layout}
use Rattle.layout.specs.Layout.{trays, checks, layers}
use Rattle.codeword.specs.Codeword.{Codeword, Usable}
use Rattle.codeword.proofs.Usable.{usable}
use Rattle.syndrome.specs.Inner.{Listed}
use Rattle.recover.specs.Recover.{recover_refusal, Survivors, Restores}
use Rattle.recover.specs.Inner.{Kept}
use Rattle.recover.proofs.Restored.{survivors_fit, restores_exists}
use Rattle.recover.proofs.Grounds.{Recoverable, recoverable}
use Rattle.recover_correcting.specs.declared.Recovered.{Recovered}
use Rattle.recover_correcting.specs.declared.Recovered.TheVariants.{Done, Refused}
use Rattle.recover_correcting.specs.RecoverCorrecting.{with_tray, report, NoCodeword, Surviving}
use Rattle.recover_correcting.specs.RecoverCorrecting.{Corrects, NotCorrectable, CorrectionDone, CorrectionAnswer}
use Rattle.recover_correcting.specs.Claims.{Returned}
use Rattle.recover_correcting.proofs.WithTray.{with_length, with_kept, kept_old, kept_other, with_listed}

module _ {A : Type 0} (f : Field A) (l : Layout) where
  -- two codewords that are alike outside at most r trays are one
  pub words_same : Usable f l → (es v w : List ℕ) → Listed l es → Codeword f l v → Codeword f l w → Survivors l es v w → v ≡ w
  words_same ok es v w listed a b s = r.1.only v a (record { long = refl; same = λ x j hx hj kept. refl }) ∙ sym (r.1.only w b s)
    where
      r : (d : List ℕ) × Restores f l es v d
      r = restores_exists f l ok es v listed a.long (λ x j hx hj kept. a.symbols.at _ (cell_read v _ _ x j a.long hx hj))
          (survivors_fit f l ok es v listed w b s)

  -- without x and without y the survivors are those of codewords: with two checks left over these are one, and it has all survivors
  module _ (ok : Usable f l) (es c : List ℕ) (listed : Listed l es) (few : length es + 2 ≤ checks l) (x y : ℕ) (sx : Surviving l es x)
      (sy : Surviving l es y) (v w : List ℕ)
      (a : Codeword f l v) (b : Codeword f l w) (p : Survivors l (with_tray es x) c v) (q : Survivors l (with_tray es y) c w) where
    apart : ¬ (x ≡ y) → v ≡ w
    apart n = words_same ok (with_tray (with_tray es x) y) v w listed_both a b (record { long = q.long ∙ sym p.long; same = same })
      where
        listed_x : Listed l (with_tray es x)
        listed_x = with_listed l es x listed sx (omega arith)

        listed_both : Listed l (with_tray (with_tray es x) y)
        listed_both = with_listed l (with_tray es x) y listed_x (record {
          inside = sy.inside;
          kept = with_kept es x y sy.kept
              (λ z. n (sym z));
        }) (two (with_tray es x) (with_length es x))
          where
            two : (xs : List ℕ) → length xs ≡ length es + 1 → length xs + 1 ≤ checks l
            two xs e = omega arith

        same : (z j : ℕ) → z < trays l → j < layers l → Kept (with_tray (with_tray es x) y) z → get_or w (z * layers l + j) 0 ≡ get_or v
            (z * layers l + j) 0
        same z j hz hj kept =
            let k = kept_old (with_tray es x) y z kept in
            q.same z j hz hj (with_kept es y z (kept_old es x z k) (kept_other (with_tray es x) y z kept)) ∙ sym (p.same z j hz hj k)

    pub all_survivors : ¬ (x ≡ y) → Survivors l es c v
    all_survivors n = record { long = p.long; same = λ z j hz hj kept. go z j hz hj kept (ℕ_discrete z x) }
      where
        go : (z j : ℕ) → z < trays l → j < layers l → Kept es z → Dec (z ≡ x) → get_or v (z * layers l + j) 0 ≡ get_or c (z * layers l + j) 0
        go z j hz hj kept (no k) = p.same z j hz hj (with_kept es x z kept k)
        go z j hz hj kept (yes k) = ap (λ u. get_or u (z * layers l + j) 0) (apart n) ∙ q.same z j hz hj
            (with_kept es y z kept (λ e. n (sym k ∙ e)))

    -- so where no codeword has all survivors there is one such tray at most
    pub one_tray : NoCodeword f l es c → x ≡ y
    one_tray none = go (ℕ_discrete x y)
      where
        go : Dec (x ≡ y) → x ≡ y
        go (yes e) = e
        go (no n) = absurd (none v a (all_survivors n))

  -- what the answers settle, for a list and a buffer past the first grounds or not
  module _ (W : Working f) (es c : List ℕ) where
    module _ (no_ground : recover_refusal f l es c ≡ 0) where
      ok : Recoverable f l es c
      ok = recoverable W l es c no_ground

      u : Usable f l
      u = usable W l ok.adm

      same_tray : (d d' : List ℕ) (x y : ℕ) → Corrects f l es c d x → Corrects f l es c d' y → x ≡ y
      same_tray d d' x y p q =
          one_tray u es c ok.listed p.few x y p.tray q.tray d d' p.restores.codeword q.restores.codeword
          p.restores.survivors q.restores.survivors p.none

      -- a codeword w of which the trays erased and tray y may hold anything
      module _ (few : length es + 2 ≤ checks l) (y : ℕ) (tray : Surviving l es y) (w : List ℕ) (good : Codeword f l w)
          (s : Survivors l (with_tray es y) c w) where
        -- another codeword has all survivors: it is w
        sound_word : (d : List ℕ) → Restores f l es c d → d ≡ w
        sound_word d r =
            words_same u (with_tray es y) d w (with_listed l es y ok.listed tray (omega arith)) r.codeword good
            (record {
              long = s.long ∙ sym r.survivors.long;
              same = λ z j hz hj kept. s.same z j hz hj kept ∙ sym
                  (r.survivors.same z j hz hj (kept_old es y z kept));
            })

        named_tray : (d : List ℕ) (x : ℕ) → Corrects f l es c d x → x ≡ y
        named_tray d x p = one_tray u es c ok.listed few x y p.tray tray d w p.restores.codeword good p.restores.survivors s
            p.none

        named_word : (d : List ℕ) (x : ℕ) → Corrects f l es c d x → d ≡ w
        named_word d x p = sym (p.restores.only w good (subst (λ z. Survivors l (with_tray es z) c w) (sym (named_tray d x p)) s))

      -- what is done is not refused with 8
      done_not : (d : List ℕ) (x left : ℕ) → CorrectionDone f l es c d (report (Done x left)) → NotCorrectable f l es c → ⊥
      done_not d x left p q = go (ℕ_discrete x (trays l))
        where
          go : Dec (x ≡ trays l) → ⊥
          go (yes e) = let r = p.sound e in q.none d r.codeword r.survivors
          go (no n) = let r = p.named n in q.without r.few x r.tray d r.restores.codeword r.restores.survivors

      -- past the first grounds the answer is 8 exactly when neither all survivors nor all but one tray's are those of a codeword, or too
      -- few checks are left over for the latter
      pub eight_exactly : (d : List ℕ) (r : Recovered) → CorrectionAnswer f l es c d r → ((report r).refusal ≡ 8) ↔ NotCorrectable f l es c
      eight_exactly d (Done x left) p = (λ e. absurd (omega arith), λ q. absurd (done_not d x left p q))
      eight_exactly d (Refused e) p = (λ z. (p.last no_ground).1, λ q. (p.last no_ground).0)

    both_done : (d d' : List ℕ) (x x' left left' : ℕ) → CorrectionDone f l es c d (report (Done x left)) → CorrectionDone f l es c d'
        (report (Done x' left')) → (x ≡ x') × (d ≡ d')
    both_done d d' x x' left left' p p' = go (ℕ_discrete x (trays l)) (ℕ_discrete x' (trays l))
      where
        go : Dec (x ≡ trays l) → Dec (x' ≡ trays l) → (x ≡ x') × (d ≡ d')
        go (yes a) (yes b) = let r = p.sound a in (a ∙ sym b, (p'.sound b).only d r.codeword r.survivors)
        go (yes a) (no b) = let r = p.sound a in absurd ((p'.named b).none d r.codeword r.survivors)
        go (no a) (yes b) = let r = p'.sound b in absurd ((p.named a).none d' r.codeword r.survivors)
        go (no a) (no b) =
            let r = p.named a in
            let r' = p'.named b in
            let e = same_tray p.accepted d d' x x' r r' in
            (e, r'.restores.only d r.restores.codeword (subst (λ z. Survivors l (with_tray es z) c d) e r.restores.survivors))

    -- the contract settles the answer and every byte
    pub answer_unique : (d d' : List ℕ) (r r' : Recovered) → CorrectionAnswer f l es c d r → CorrectionAnswer f l es c d' r' →
        (r ≡ r') × (d ≡ d')
    answer_unique d d' (Done x left) (Done x' left') p p' =
        let b = both_done d d' x x' left left' p p' in (ap₂ Done b.0 (p.checks_are ∙ sym p'.checks_are), b.1)
    answer_unique d d' (Done x left) (Refused e) p p' = absurd (done_not p.accepted d x left p (p'.last p.accepted).1)
    answer_unique d d' (Refused e) (Done x left) p p' = absurd (done_not p'.accepted d' x left p' (p.last p'.accepted).1)
    answer_unique d d' (Refused e) (Refused e') p p' = (ap Refused (go (ℕ_discrete (recover_refusal f l es c) 0)), p.kept ∙ sym p'.kept)
      where
        go : Dec (recover_refusal f l es c ≡ 0) → e ≡ e'
        go (yes z) = (p.last z).0 ∙ sym (p'.last z).0
        go (no z) = p.refused z ∙ sym (p'.refused z)

    -- a codeword w of which the trays erased may hold anything, and one tray y more, comes back, with y named exactly when it was changed
    pub one_wrong_returns : recover_refusal f l es c ≡ 0 → length es + 2 ≤ checks l → (y : ℕ) → Surviving l es y → (w : List ℕ) →
        Codeword f l w → Survivors l (with_tray es y) c w →
        (d : List ℕ) (r : Recovered) → CorrectionAnswer f l es c d r → Returned l c w d y r
    one_wrong_returns no_ground few y tray w good s d (Refused e) p = absurd ((p.last no_ground).1.without few y tray w good s)
    one_wrong_returns no_ground few y tray w good s d (Done x left) p = go (ℕ_discrete x (trays l))
      where
        whole : ((j : ℕ) → j < layers l → get_or w (y * layers l + j) 0 ≡ get_or c (y * layers l + j) 0) → Survivors l es c w
        whole h = record { long = s.long; same = λ z j hz hj kept. at z j hz hj kept (ℕ_discrete z y) }
          where
            at : (z j : ℕ) → z < trays l → j < layers l → Kept es z → Dec (z ≡ y) → get_or w (z * layers l + j) 0 ≡ get_or c
                (z * layers l + j) 0
            at z j hz hj kept (yes e) = subst (λ v. get_or w (v * layers l + j) 0 ≡ get_or c (v * layers l + j) 0) (sym e) (h j hj)
            at z j hz hj kept (no n) = s.same z j hz hj (with_kept es y z kept n)

        go : Dec (x ≡ trays l) → Returned l c w d y (Done x left)
        go (yes e) =
            let g = p.sound e in
            let t = sound_word no_ground few y tray w good s d g in
            record {
              done = refl;
              word = t;
              unnamed = λ h. e;
              named = λ n. absurd (n (λ j hj. ap (λ v. get_or v (y * layers l + j) 0) (sym t) ∙ g.survivors.same y j tray.inside hj
                  tray.kept));
            }
        go (no n) =
            let g = p.named n in
            record {
              done = refl;
              word = named_word no_ground few y tray w good s d x g;
              unnamed = λ h. absurd (g.none w good (whole h));
              named = λ m. named_tray no_ground few y tray w good s d x g;
            }

    -- with three checks or more left over, two wrong trays are never taken for another one: what is done is right
    pub two_wrong_safe : recover_refusal f l es c ≡ 0 → length es + 3 ≤ checks l → (y z : ℕ) → Surviving l es y →
        Surviving l (with_tray es y) z → (w : List ℕ) → Codeword f l w →
        Survivors l (with_tray (with_tray es y) z) c w → (d : List ℕ) (r : Recovered) → CorrectionAnswer f l es c d r →
        (report r).refusal ≡ 0 → d ≡ w
    two_wrong_safe no_ground few y z sy sz w good s d (Refused e) p h = absurd (let g = p.reason in omega arith)
    two_wrong_safe no_ground few y z sy sz w good s d (Done x left) p h = go (ℕ_discrete x (trays l))
      where
        listed_one : Listed l (with_tray es y)
        listed_one = with_listed l es y (ok no_ground).listed sy (omega arith)

        listed_two : Listed l (with_tray (with_tray es y) z)
        listed_two = with_listed l (with_tray es y) z listed_one sz (let a = with_length es y in omega arith)

        -- alike outside a list that has all of these
        alike : (xs ys : List ℕ) → Survivors l ys c d → ((v : ℕ) → Kept xs v → Kept (with_tray (with_tray es y) z) v) →
            ((v : ℕ) → Kept xs v → Kept ys v) → Survivors l xs d w
        alike xs ys t a b = record {
          long = s.long ∙ sym t.long;
          same = λ v j hv hj kept. s.same v j hv hj (a v kept) ∙ sym (t.same v j hv hj (b v kept));
        }

        old : (v : ℕ) → Kept (with_tray (with_tray es y) z) v → Kept es v
        old v kept = kept_old es y v (kept_old (with_tray es y) z v kept)

        named_case : Corrects f l es c d x → Dec (x ≡ y) → Dec (x ≡ z) → d ≡ w
        named_case g (yes a) b =
            words_same (u no_ground) (with_tray (with_tray es y) z) d w listed_two g.restores.codeword good
            (alike (with_tray (with_tray es y) z) (with_tray es x) g.restores.survivors (λ v k. k)
            (λ v k. with_kept es x v (old v k) (λ e. kept_other es y v (kept_old (with_tray es y) z v k) (e ∙ a))))
        named_case g (no a) (yes b) =
            words_same (u no_ground) (with_tray (with_tray es y) z) d w listed_two g.restores.codeword good
            (alike (with_tray (with_tray es y) z) (with_tray es x) g.restores.survivors (λ v k. k)
            (λ v k. with_kept es x v (old v k) (λ e. kept_other (with_tray es y) z v k (e ∙ b))))
        named_case g (no a) (no b) =
            words_same (u no_ground) (with_tray (with_tray (with_tray es y) z) x) d w
            (with_listed l (with_tray (with_tray es y) z) x listed_two
            (record { inside = g.tray.inside; kept = with_kept (with_tray es y) z x (with_kept es y x g.tray.kept a) b })
            (let p = with_length es y in let q = with_length (with_tray es y) z in omega arith))
            g.restores.codeword good
            (alike (with_tray (with_tray (with_tray es y) z) x) (with_tray es x) g.restores.survivors
            (kept_old (with_tray (with_tray es y) z) x)
            (λ v k. with_kept es x v (old v (kept_old (with_tray (with_tray es y) z) x v k)) (kept_other (with_tray (with_tray es y) z) x v k)))

        go : Dec (x ≡ trays l) → d ≡ w
        go (yes e) =
            let g = p.sound e in
            words_same (u no_ground) (with_tray (with_tray es y) z) d w listed_two g.codeword good (alike (with_tray (with_tray es y) z) es
            g.survivors (λ v k. k) old)
        go (no n) = let g = p.named n in named_case g (ℕ_discrete x y) (ℕ_discrete x z)
