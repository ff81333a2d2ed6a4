-- The contract of a test decides its answer.
-- Assumes nothing.
use mathlib.Core.Path.{◌≡◌, refl, sym, ap, ap₂, ◌∙◌}
use mathlib.Core.List.{List}
use Prim.Native.Nat.{ℕ, ◌<◌}
use native.Mathlib.Omega.{arith}
use Rattle.algebra.specs.Shape.{Field}
use Rattle.layout.specs.declared.Layout.{Layout}
use Rattle.layout.specs.declared.Layer.{Layer}
use Rattle.codeword.specs.declared.Tested.{Tested}
use Rattle.codeword.specs.declared.Tested.TheVariants.{Sound, Bad, Refused}
use Rattle.codeword.specs.Codeword.{Codeword}
use Rattle.codeword.specs.Test.{FirstBad, TestAnswer}

layer_path : (a b : Layer) → a.0 ≡ b.0 → a ≡ b
layer_path a b e = λ i. record { 0 = e i }

module _ {A : Type 0} (f : Field A) (l : Layout) (c : List ℕ) where
  -- a broken check is not one of those that hold
  sound_bad : {B : Type 0} (j t : ℕ) → Codeword f l c → FirstBad f l c j t → B
  sound_bad j t s b = absurd (b.broken (s.holds j b.layer_in t b.check_in))

  same_layer : (j t j' t' : ℕ) → FirstBad f l c j t → FirstBad f l c j' t' → j < j' → ⊥
  same_layer j t j' t' b b' h = b.broken (b'.earlier_layers j h t b.check_in)

  same_check : (j t t' : ℕ) → FirstBad f l c j t → FirstBad f l c j t' → t < t' → ⊥
  same_check j t t' b b' h = b.broken (b'.earlier_checks t h)

  same_bad : (j : Layer) (t : ℕ) (j' : Layer) (t' : ℕ) → FirstBad f l c j.0 t → FirstBad f l c j'.0 t' → Bad j t ≡ Bad j' t'
  same_bad j t j' t' b b' =
      let x = same_layer j.0 t j'.0 t' b b' in
      let y = same_layer j'.0 t' j.0 t b' b in
      let e : j.0 ≡ j'.0 = omega arith in
      let q : FirstBad f l c j.0 t' = rw e b' in
      let u = same_check j.0 t t' b q in
      let v = same_check j.0 t' t q b in
      let f : t ≡ t' = omega arith in
      ap₂ Bad (layer_path j j' e) f

  pub tested_unique : (r r' : Tested) → TestAnswer f l c r → TestAnswer f l c r' → r ≡ r'
  tested_unique Sound Sound p q = refl
  tested_unique Sound (Bad j t) p q = sound_bad j.0 t p.1 q.1
  tested_unique Sound (Refused e) p q = absurd (omega arith)
  tested_unique (Bad j t) Sound p q = sound_bad j.0 t q.1 p.1
  tested_unique (Bad j t) (Bad j' t') p q = same_bad j t j' t' p.1 q.1
  tested_unique (Bad j t) (Refused e) p q = absurd (omega arith)
  tested_unique (Refused e) Sound p q = absurd (omega arith)
  tested_unique (Refused e) (Bad j t) p q = absurd (omega arith)
  tested_unique (Refused e) (Refused e') p q = ap Refused (p.0 ∙ sym q.0)
