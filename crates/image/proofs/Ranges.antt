-- A tray, a state and a volume in range, from the tests as the code makes them.
-- Assumes nothing.
use mathlib.Core.Path.{◌≡◌, sym, ◌∙◌}
use mathlib.Core.Bool.{Bool, true, false, not, false≢true}
use Prim.Native.Nat.{ℕ, ◌≤◌, ◌<◌}
use native.Mathlib.Omega.{arith}
use lib.Dec.{ltb}
use borrow.Author.Tests.{lt-ltb, ltb-true}
use Rattle.lists.proofs.Bools.{both, not_true_false, told_false, told_true}
use Rattle.layout.specs.declared.Layout.{Layout}
use Rattle.layout.specs.Layout.{trays}
use Rattle.image.specs.Image.{in_range}
use Rattle.image.specs.Inner.{state_allowed, volume_allowed}

pub record InRange (l : Layout) (tray state volume : ℕ) : Type 0 where
  pub tray_in : tray < trays l
  pub state_ok : state_allowed state ≡ true
  pub volume_ok : volume_allowed volume ≡ true

module _ (l : Layout) (tray state volume : ℕ) where
  pub range_facts : in_range l tray state volume ≡ true → InRange l tray state volume
  unfolding in_range
  range_facts h =
      let h2 = both _ (volume_allowed volume) h in
      let h1 = both (ltb tray (trays l)) (state_allowed state) h2.0 in
      record { tray_in = ltb-true _ _ h1.0; state_ok = h1.1; volume_ok = h2.1 }

  pub facts_range : InRange l tray state volume → in_range l tray state volume ≡ true
  unfolding in_range
  facts_range r = simp (lt-ltb _ _ r.tray_in, r.state_ok, r.volume_ok)

  pub range_tray : (n x : ℕ) → n ≡ trays l → x ≡ tray → n ≤ x → false ≡ in_range l tray state volume
  range_tray n x e f h = not_true_false _ (λ t. omega (arith, (range_facts t).tray_in))

  pub range_state : (a : Bool) → a ≡ state_allowed state → not a ≡ true → false ≡ in_range l tray state volume
  range_state a e h = not_true_false _ (λ t. false≢true (sym (told_false e h) ∙ (range_facts t).state_ok))

  pub range_volume : (n x : ℕ) (a v : Bool) → n ≡ trays l → x ≡ tray → x < n → a ≡ state_allowed state → not a ≡ false → v ≡ volume_allowed volume
      → v ≡ in_range l tray state volume
  unfolding in_range
  range_volume n x a v e f h g k q = simp (lt-ltb tray (trays l) (omega arith), told_true g k) q
