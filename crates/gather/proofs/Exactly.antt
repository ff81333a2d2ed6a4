-- A tray is present exactly when its image is one that a live write of the tray, layout and volume makes, for any edition.
-- Assumes nothing.
use mathlib.Core.Path.{◌≡◌, refl, sym, ◌∙◌, subst}
use mathlib.Core.Bool.{true}
use mathlib.Core.List.{List, []}
use mathlib.Core.Logic.{◌↔◌}
use Prim.Native.Nat.{ℕ, ◌*◌, ◌^◌, ◌<◌}
use native.Mathlib.Decide.{dec_lt}
use native.Mathlib.Omega.{arith}
use lib.ListN.{get_or, take, drop, length-take, get_or-eq_default}
use lib.Seq.{get_or-take, get_or-drop}
use Rattle.layout.specs.declared.Layout.{Layout}
use Rattle.layout.specs.Layout.{layers}
use Rattle.image.specs.declared.Edition.{Edition}
use Rattle.image.specs.Image.{image_length, own_tray, read_symbols}
use Rattle.image.specs.Inner.{Proper}
use Rattle.image.specs.Claims.{Made}
use Rattle.image.proofs.ReadGrounds.{given_tray}
use Rattle.image.proofs.AcceptedExactly.{accepted_exactly}
use Rattle.gather.specs.Gathering.{image_of, present}
use Rattle.gather.proofs.Taking.{live_facts, live_so}

module _ (e : Edition) (p : Proper e) (l : Layout) (volume : ℕ) (small : volume < 2 ^ 32) (images : List ℕ)
    (byte : (i : ℕ) → get_or images i 0 < 256) (x : ℕ) where
  -- the bytes of a part are bytes
  part_byte : (i : ℕ) → get_or (image_of e l images x) i 0 < 256
  unfolding image_of
  part_byte i = go (dec_lt i (image_length e l))
    where
      go : Dec (i < image_length e l) → get_or (take (image_length e l) (drop (x * image_length e l) images)) i 0 < 256
      go (yes h) =
          subst (λ v. v < 256) (sym (get_or-take (image_length e l) (drop (x * image_length e l) images) i 0 h
          ∙ get_or-drop (x * image_length e l) images i 0)) (byte _)
      go (no h) =
          subst (λ v. v < 256)
          (sym (get_or-eq_default (take (image_length e l) (drop (x * image_length e l) images)) 0 {n = i}
          (let a = length-take (image_length e l) (drop (x * image_length e l) images) in omega arith))) (omega arith)

  made : present e l volume images x ≡ true → (symbols : List ℕ) × Made e l volume (layers l) (image_of e l images x) x symbols
  unfolding present
  made h =
      let a = live_facts e l volume x (image_of e l images x) h in
      let s = read_symbols e l volume (layers l) [] (image_of e l images x) in
      let t = given_tray e l volume (layers l) (image_of e l images x) 0 (sym a.0) refl (own_tray (image_of e l images x))
      (own_tray (image_of e l images x)) refl refl in
      (s, (accepted_exactly e p l volume (layers l) [] (image_of e l images x) x s small part_byte).0 (a.0, sym t ∙ a.1, refl))

  from_made : (symbols : List ℕ) × Made e l volume (layers l) (image_of e l images x) x symbols → present e l volume images x ≡ true
  unfolding present
  from_made m =
      let g = (accepted_exactly e p l volume (layers l) [] (image_of e l images x) x m.0 small part_byte).1 m.1 in
      live_so e l volume x (image_of e l images x) g.0
      (given_tray e l volume (layers l) (image_of e l images x) 0 (sym g.0) refl (own_tray (image_of e l images x))
      (own_tray (image_of e l images x)) refl refl ∙ g.1)

  pub present_exactly : (present e l volume images x ≡ true) ↔
      ((symbols : List ℕ) × Made e l volume (layers l) (image_of e l images x) x symbols)
  present_exactly = (made, from_made)
