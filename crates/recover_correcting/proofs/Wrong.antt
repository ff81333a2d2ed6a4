-- Where at most one surviving tray differs from a codeword, where none does, and where two do, over any field.
-- Assumes nothing.
use mathlib.Core.Path.{◌≡◌, refl, sym, ap, ◌∙◌, subst}
use mathlib.Core.Bool.{Bool, true, false, cond, false≢true}
use mathlib.Core.List.{List}
use mathlib.Core.Logic.{◌⊎◌, inl, inr, ⊎_elim}
use Prim.Native.Nat.{ℕ, zero, suc, ◌+◌, ◌*◌, ◌<◌, ◌≤◌}
use native.Mathlib.Decide.{ℕ_discrete}
use native.Mathlib.Omega.{arith}
use borrow.Author.Tests.{eqb-true, eq-eqb}
use lib.Dec.{eqb}
use lib.ListN.{length, get_or}
use Rattle.lists.specs.Lists.{all, absent}
use Rattle.lists.proofs.Bools.{all_holds, all_true}
use Rattle.lists.proofs.Numbered.{absent_true, absent_all}
use Rattle.algebra.specs.Shape.{Field}
use Rattle.algebra.specs.Plain.{Working}
use Rattle.layout.specs.declared.Layout.{Layout}
use Rattle.layout.specs.Layout.{trays, checks, layers}
use Rattle.codeword.specs.Codeword.{Codeword}
use Rattle.recover.specs.Recover.{recover_refusal, Survivors}
use Rattle.recover.specs.Inner.{Kept}
use Rattle.recover.proofs.Grounds.{recoverable}
use Rattle.recover_correcting.specs.declared.Recovered.{Recovered}
use Rattle.recover_correcting.specs.declared.Recovered.TheVariants.{Done, Refused}
use Rattle.recover_correcting.specs.RecoverCorrecting.{with_tray, report, Surviving, CorrectionAnswer}
use Rattle.recover_correcting.specs.Claims.{SameTray, WrongNamed}
use Rattle.recover_correcting.proofs.WithTray.{with_kept, kept_old, kept_other}
use Rattle.recover_correcting.proofs.Settled.{one_wrong_returns, two_wrong_safe}

-- a test holds at every index below n, or fails at one
find_false : (p : ℕ → Bool) (n : ℕ) → ((i : ℕ) → i < n → p i ≡ true) ⊎ ((i : ℕ) × ((i < n) × (p i ≡ false)))
find_false p zero = inl (λ i h. absurd (omega arith))
find_false p (suc n) = go (p n) refl (find_false p n)
  where
    go : (b : Bool) → p n ≡ b → ((i : ℕ) → i < n → p i ≡ true) ⊎ ((i : ℕ) × ((i < n) × (p i ≡ false))) →
        ((i : ℕ) → i < suc n → p i ≡ true) ⊎ ((i : ℕ) × ((i < suc n) × (p i ≡ false)))
    go b e (inr q) = inr (q.0, (let h = q.1.0 in omega arith, q.1.1))
    go false e (inl g) = inr (n, (omega arith, e))
    go true e (inl g) = inl (λ i h. at i h (ℕ_discrete i n))
      where
        at : (i : ℕ) → i < suc n → Dec (i ≡ n) → p i ≡ true
        at i h (yes q) = ap p q ∙ e
        at i h (no q) = g i (omega arith)

module _ (l : Layout) (es c w : List ℕ) where
  -- whether tray x is listed, or has the symbols of w
  abbrev same : ℕ → Bool
  same x = all (λ j. eqb (get_or w (x * layers l + j) 0) (get_or c (x * layers l + j) 0)) (layers l)

  abbrev test : ℕ → Bool
  test x = cond (absent es x) (same x) true

  passes : (x : ℕ) (b : Bool) → absent es x ≡ b → test x ≡ true → Surviving l es x → SameTray l c w x
  passes x false e t s = absurd (false≢true (sym e ∙ sym (absent_true es x (λ k h z. s.kept k h (sym z)))))
  passes x true e t s = λ j h. eqb-true _ _ (all_holds _ (layers l) (sym (ap (λ b. cond b (same x) true) e) ∙ t) j h)

  fails : (x : ℕ) (b : Bool) → absent es x ≡ b → x < trays l → test x ≡ false → Surviving l es x × ¬ SameTray l c w x
  fails x false e h t = absurd (false≢true (sym t ∙ ap (λ b. cond b (same x) true) e))
  fails x true e h t = (
    record { inside = h; kept = λ k q z. absent_all es x e k q (sym z) },
    λ g. false≢true (sym (sym (ap (λ b. cond b (same x) true) e) ∙ t) ∙ all_true _ (layers l) (λ j q. eq-eqb _ _ (g j q))),
  )

  -- no surviving tray differs, or one does
  wrong_cases : ((x : ℕ) → Surviving l es x → SameTray l c w x) ⊎ ((y : ℕ) × (Surviving l es y × ¬ SameTray l c w y))
  wrong_cases =
      ⊎_elim (λ g. inl (λ x s. passes x (absent es x) refl (g x s.inside) s))
      (λ q. inr (q.0, fails q.0 (absent es q.0) refl q.1.0 q.1.1))
      (find_false test (trays l))

  -- a tray that does not differ has each of its symbols
  not_wrong : (x : ℕ) → ¬ ¬ SameTray l c w x → SameTray l c w x
  not_wrong x n j h = go (ℕ_discrete (get_or w (x * layers l + j) 0) (get_or c (x * layers l + j) 0))
    where
      go : Dec (get_or w (x * layers l + j) 0 ≡ get_or c (x * layers l + j) 0) → get_or w (x * layers l + j) 0 ≡ get_or c (x * layers l + j) 0
      go (yes e) = e
      go (no q) = absurd (n (λ g. q (g j h)))

module _ {A : Type 0} (f : Field A) (l : Layout) (W : Working f) (es c w : List ℕ) (no_ground : recover_refusal f l es c ≡ 0)
    (good : Codeword f l w) where
  -- alike outside a list where the surviving trays outside it do not differ
  alike : (xs : List ℕ) → ((x : ℕ) → x < trays l → Kept xs x → SameTray l c w x) → Survivors l xs c w
  alike xs g = record { long = good.long ∙ sym (recoverable W l es c no_ground).long; same = λ x j hx hj kept. g x hx kept j hj }

  -- a codeword that has all survivors comes back, and no tray is named
  pub none_wrong_returns : ((x : ℕ) → Surviving l es x → SameTray l c w x) → (d : List ℕ) (r : Recovered) → CorrectionAnswer f l es c d r →
      ((report r).refusal ≡ 0) × (d ≡ w) × ((report r).tray ≡ trays l)
  none_wrong_returns g d r p = answer r p
    where
      s : Survivors l es c w
      s = alike es (λ x h kept. g x (record { inside = h; kept = kept }))

      answer : (r : Recovered) → CorrectionAnswer f l es c d r → ((report r).refusal ≡ 0) × (d ≡ w) × ((report r).tray ≡ trays l)
      answer (Refused e) p = absurd ((p.last no_ground).1.none w good s)
      answer (Done x left) p = go (ℕ_discrete x (trays l))
        where
          go : Dec (x ≡ trays l) → ((report (Done x left)).refusal ≡ 0) × (d ≡ w) × (x ≡ trays l)
          go (yes e) = (refl, sym ((p.sound e).only w good s), e)
          go (no n) = absurd ((p.named n).none w good s)

  -- a codeword from which at most one surviving tray differs comes back with that tray named
  pub at_most_one_wrong : length es + 2 ≤ checks l → ((x y : ℕ) → Surviving l es x → Surviving l es y → ¬ SameTray l c w x →
      ¬ SameTray l c w y → x ≡ y) →
      (d : List ℕ) (r : Recovered) → CorrectionAnswer f l es c d r → WrongNamed l es c w d r
  at_most_one_wrong few one d r p = ⊎_elim none_case (λ q. one_case q.0 q.1.0 q.1.1) (wrong_cases l es c w)
    where
      none_case : ((x : ℕ) → Surviving l es x → SameTray l c w x) → WrongNamed l es c w d r
      none_case g = let t = none_wrong_returns g d r p in record {
        done = t.0;
        word = t.1;
        wrong = λ x s n. absurd (n (g x s));
        none = λ h. t.2;
        no_other = λ n. absurd (n t.2);
      }

      one_case : (y : ℕ) → Surviving l es y → ¬ SameTray l c w y → WrongNamed l es c w d r
      one_case y sy ny =
          let t = one_wrong_returns f l W es c no_ground few y sy w good s d r p in
          let e = t.named ny in
          record {
            done = t.done;
            word = t.word;
            wrong = λ x sx nx. e ∙ one y x sy sx ny nx;
            none = λ g. absurd (ny (g y sy));
            no_other = λ n. subst (λ x. Surviving l es x × ¬ SameTray l c w x) (sym e) (sy, ny);
          }
        where
          s : Survivors l (with_tray es y) c w
          s = alike (with_tray es y) (λ x h kept. not_wrong l es c w x
              (λ nx. kept_other es y x kept (one x y (record { inside = h; kept = kept_old es y x kept }) sy nx ny)))

  -- two surviving trays that differ are never taken for another one: nothing is done
  pub two_wrong_refused : length es + 3 ≤ checks l → (y z : ℕ) → Surviving l es y → Surviving l es z → ¬ (y ≡ z) → ¬ SameTray l c w y →
      ¬ SameTray l c w z →
      ((x : ℕ) → Surviving l es x → ¬ (x ≡ y) → ¬ (x ≡ z) → SameTray l c w x) → (d : List ℕ) (r : Recovered) → CorrectionAnswer f l es c d
      r → ((report r).refusal ≡ 8) × (d ≡ c)
  two_wrong_refused few y z sy sz apart ny nz others d (Refused e) p = ((p.last no_ground).0, p.kept)
  two_wrong_refused few y z sy sz apart ny nz others d (Done x left) p = absurd (go (ℕ_discrete x (trays l)) (ℕ_discrete x y))
    where
      s : Survivors l (with_tray (with_tray es y) z) c w
      s = alike (with_tray (with_tray es y) z) (λ x h kept. let k = kept_old (with_tray es y) z x kept in
          others x (record { inside = h; kept = kept_old es y x k }) (kept_other es y x k) (kept_other (with_tray es y) z x kept))

      word : d ≡ w
      word = two_wrong_safe f l W es c no_ground few y z sy (record {
        inside = sz.inside;
        kept = with_kept es y z sz.kept
            (λ e. apart (sym e));
      }) w good s d (Done x left) p refl

      -- a tray whose symbols stay does not differ
      stays : (xs : List ℕ) → Survivors l xs c d → (v : ℕ) → v < trays l → Kept xs v → SameTray l c w v
      stays xs t v h kept j hj = ap (λ u. get_or u (v * layers l + j) 0) (sym word) ∙ t.same v j h hj kept

      go : Dec (x ≡ trays l) → Dec (x ≡ y) → ⊥
      go (yes e) b = ny (stays es (p.sound e).survivors y sy.inside sy.kept)
      go (no n) (no b) = ny (stays (with_tray es x) (p.named n).restores.survivors y sy.inside
          (with_kept es x y sy.kept (λ e. b (sym e))))
      go (no n) (yes b) = nz (stays (with_tray es x) (p.named n).restores.survivors z sz.inside
          (with_kept es x z sz.kept (λ e. apart (sym (e ∙ b)))))
