-- What the call is told by the functions it calls, and its answers, over any field.
-- Assumes nothing.
use mathlib.Core.Path.{◌≡◌, refl, sym, ◌∙◌, subst}
use mathlib.Core.Bool.{Bool, true, false}
use mathlib.Core.List.{List}
use Prim.Native.Nat.{ℕ, ◌-◌, ◌<◌, ◌≤◌}
use native.Mathlib.Omega.{arith}
use mir.Val.{Fits}
use mir.Syntax.{w32}
use lib.ListN.{length}
use Rattle.algebra.specs.Shape.{Field}
use Rattle.algebra.specs.Plain.{Working}
use Rattle.layout.specs.declared.Layout.{Layout}
use Rattle.layout.specs.declared.Layer.{Layer}
use Rattle.layout.specs.Layout.{checks, layers, Admissible, Cabinet}
use Rattle.recover.specs.Recover.{recover_refusal}
use Rattle.recover.proofs.Grounds.{Recoverable, recoverable}
use Rattle.recover.proofs.Answers.{told}
use Rattle.restore.specs.Inner.{LayerFits, Says, Erasing}
use Rattle.restore.proofs.Says.{says_true, says_false}
use Rattle.test_kept.specs.declared.Kept.TheVariants.{Sound, Bad}
use Rattle.test_kept.specs.TestKept.{KeptAnswer}
use Rattle.test_kept.specs.Inner.{FirstLayer}
use Rattle.test_kept.proofs.Settled.{answer_sound, answer_bad}

module _ {A : Type 0} {f : Field A} (W : Working f) (l : Layout) (es c : List ℕ) (reason : ℕ) (e : reason ≡ recover_refusal f l es c) where
  module _ (z : reason ≡ 0) where
    no_ground : recover_refusal f l es c ≡ 0
    no_ground = sym e ∙ z

    ok : Recoverable f l es c
    ok = recoverable W l es c no_ground

    pub cabinet : Cabinet l
    cabinet = ok.adm.cabinet

    pub few_fits : Fits w32 (length es)
    few_fits = let a = cabinet in let q = ok.listed.few in omega arith

    pub few : (r : ℕ) → r ≡ checks l → length es ≤ r
    few r g = let q = ok.listed.few in omega arith

    pub erasing : (total : ℕ) → total ≡ layers l → Erasing l total es c
    erasing = told W l es c no_ground

    pub admitted : Admissible f.order l
    admitted = ok.adm

    module _ (b : Bool) (says : Says b ((j : ℕ) → j < layers l → LayerFits f l es c j)) where
      pub not_all : b ≡ false → ¬ ((j : ℕ) → j < layers l → LayerFits f l es c j)
      not_all h = says_false b h says

      pub sound : (r : ℕ) → r ≡ checks l → b ≡ true → KeptAnswer f l es c (Sound (r - length es))
      sound r q h = answer_sound W l es c no_ground (r - length es) (subst (λ y. r - length es ≡ y - length es) q refl) (says_true b h says)

    pub bad : (r first : ℕ) (j : Layer) → r ≡ checks l → j.0 ≡ first → FirstLayer f l es c first → KeptAnswer f l es c
        (Bad j (r - length es))
    bad r first j q h b = answer_bad W l es c no_ground j (r - length es) (subst (λ y. r - length es ≡ y - length es) q refl)
        (subst (λ y. FirstLayer f l es c y) (sym h) b)
