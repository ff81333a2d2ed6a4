-- A bad layer is one in which some check is broken.
-- Assumes nothing.
use mathlib.Core.Path.{◌≡◌, refl, sym, ap, ◌∙◌}
use mathlib.Core.Bool.{Bool, true, false, not, ◌&&◌, and-true, false≢true}
use mathlib.Core.List.{List}
use Prim.Native.Nat.{ℕ, zero, suc, ◌<◌}
use native.Mathlib.Omega.{arith}
use borrow.Author.Tests.{eq-eqb}
use lib.Dec.{eqb}
use Rattle.lists.specs.Lists.{all}
use Rattle.algebra.specs.Coding.{Coded}
use Rattle.algebra.specs.Shape.{Field}
use Rattle.layout.specs.declared.Layout.{Layout}
use Rattle.layout.specs.Layout.{checks}
use Rattle.codeword.specs.Codeword.{check_at}
use Rattle.scrub.specs.Scrub.{bad_layer}
use Rattle.scrub.specs.Calls.{Broken}
use Rattle.scrub.proofs.Answers.{layer_bad}

-- a test that does not hold of every index fails at one
record Fails (g : ℕ → Bool) (n : ℕ) : Type 0 where
  at : ℕ
  below : at < n
  fails : g at ≡ false

fails : (g : ℕ → Bool) (n : ℕ) → not (all g n) ≡ true → Fails g n
unfolding all
fails g zero h = absurd (false≢true h)
fails g (suc n) h = go (g n) refl h (fails g n)
  where
    go : (t : Bool) → g n ≡ t → not (all g n && t) ≡ true → (not (all g n) ≡ true → Fails g n) → Fails g (suc n)
    go true e h ih = let r = ih (ap not (sym (and-true (all g n))) ∙ h) in record { at = r.at; below = omega (arith, r.below); fails = r.fails }
    go false e h ih = record { at = n; below = omega arith; fails = e }

module _ {A : Type 0} (f : Field A) (l : Layout) (c : List ℕ) (j : ℕ) where
  pub bad_broken : bad_layer f l c j ≡ true → Broken f l c j
  unfolding bad_layer
  bad_broken h =
      let r = fails (λ t. eqb (f.coding.val (check_at f l c j t)) (f.coding.val f.ops.zero)) (checks l) h in
      record { at = r.at; check_in = r.below; broken = λ e. false≢true (sym r.fails ∙ eq-eqb _ _ (ap f.coding.val e)) }

  pub broken_bad : Coded f.coding → Broken f l c j → bad_layer f l c j ≡ true
  broken_bad ok b = sym (layer_bad f ok l c j b.at b.check_in b.broken)
