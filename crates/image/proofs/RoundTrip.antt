-- What was written live is read back: no refusal, that tray and those symbols, whatever the lent bytes and the lent places held.
-- Assumes nothing.
use mathlib.Core.Path.{◌≡◌, refl, sym, ap, ◌∙◌}
use mathlib.Core.Bool.{true}
use mathlib.Core.List.{List, ◌++◌}
use Prim.Native.Nat.{ℕ, ◌^◌, ◌<◌}
use lib.ListN.{length}
use borrow.Author.Tests.{eq-eqb}
use Rattle.layout.specs.declared.Layout.{Layout}
use Rattle.layout.specs.Layout.{layers}
use Rattle.layout.proofs.Facts.{facts_admissible}
use Rattle.image.specs.declared.Edition.{Edition}
use Rattle.image.specs.Image.{live, header, symbol_bytes, write_refusal, write_buffer, own_layout, read_refusal, read_tray, read_symbols}
use Rattle.image.specs.Claims.{Gives, RoundTrip}
use Rattle.image.specs.Inner.{Proper}
use Rattle.image.proofs.WriteGrounds.{Writable, writable, written}
use Rattle.image.proofs.Forms.{facts_formed}
use Rattle.image.proofs.SameLayout.{same_self}
use Rattle.image.proofs.ReadGrounds.{expected_volume, formed_0, read_formed, given_symbols, given_tray}
use Rattle.image.proofs.Written.{its_layout, its_state, its_tray, its_volume, its_symbols, well_formed_lem}

module _ (ed : Edition) (g : Proper ed) (l : Layout) (tray volume : ℕ) (symbols old refused : List ℕ) (v : volume < 2 ^ 32)
    (done : write_refusal ed l tray live volume symbols (length old) ≡ 0) where
  w : Writable ed l tray live volume symbols (length old)
  w = writable ed l tray live volume symbols (length old) g done

  abbrev image : List ℕ
  image = header ed l tray live volume ++ symbol_bytes ed.width symbols

  same : l ≡ own_layout image
  same = sym (its_layout ed g l tray live volume symbols (length old) w v)

  accepted : 0 ≡ read_refusal ed l volume (layers l) image
  accepted =
      read_formed ed l volume (layers l) image true (facts_admissible ed.order l w.adm) refl
      (layers l) refl refl true (sym (facts_formed ed image g (well_formed_lem ed g l tray live volume symbols (length old) w v))) refl
      0 (formed_0 l volume image live (sym (its_state ed g l tray live volume symbols (length old) w v)) refl
      true (sym (eq-eqb volume volume refl) ∙ expected_volume l volume image (own_layout image) true refl (sym (same_self l (own_layout image) same)) refl
      volume (sym (its_volume ed g l tray live volume symbols (length old) w v))) refl)

  gives : Gives ed l volume (layers l) refused (write_buffer ed l tray live volume symbols old) tray symbols
  gives =
      let is = sym (written ed l tray live volume symbols old done) in
      let x = sym (its_tray ed g l tray live volume symbols (length old) w v) in
      let xs = its_symbols ed g l tray live volume symbols (length old) w v in (
        ap (read_refusal ed l volume (layers l)) is ∙ sym accepted,
        ap (read_tray ed l volume (layers l)) is ∙ sym (given_tray ed l volume (layers l) image 0 accepted refl tray tray x refl),
        ap (read_symbols ed l volume (layers l) refused) is ∙ sym (given_symbols ed l volume (layers l) image 0 accepted refl refused) ∙ xs,
      )

pub round_trip : (ed : Edition) → Proper ed → RoundTrip ed
round_trip = gives
