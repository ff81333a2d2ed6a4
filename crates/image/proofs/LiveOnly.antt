-- No demonstration image is ever handed out as live. A read gives a tray and symbols only where the state byte of the image says live, for every edition,
-- every list of bytes, every layout and every volume.
-- Assumes nothing.
use mathlib.Core.Path.{◌≡◌, refl, sym, ap, ◌∙◌}
use mathlib.Core.Bool.{Bool, true, false}
use mathlib.Core.List.{List, ◌++◌}
use Prim.Native.Nat.{ℕ, ◌^◌, ◌<◌}
use native.Mathlib.Omega.{arith}
use lib.Dec.{eqb}
use lib.ListN.{length, get_or}
use borrow.Author.Tests.{eqb-true}
use Rattle.lists.specs.Lists.{unless}
use Rattle.layout.specs.declared.Layout.{Layout}
use Rattle.layout.specs.Layout.{layers, admissible}
use Rattle.image.specs.declared.Edition.{Edition}
use Rattle.image.specs.Image.{demonstration, header, symbol_bytes, write_refusal, write_buffer, well_formed, read_refusal, read_tray, read_symbols}
use Rattle.image.specs.Claims.{LiveOnly, DemonstrationRefused}
use Rattle.image.specs.Inner.{Proper}
use Rattle.image.proofs.WriteGrounds.{Writable, writable, written}
use Rattle.image.proofs.Forms.{facts_formed}
use Rattle.image.proofs.ReadGrounds.{readable, formed_10, read_formed, refused_symbols, refused_tray}
use Rattle.image.proofs.Written.{its_state, well_formed_lem}

-- an image whose state byte is not 1 is refused, and nothing of it is handed out: no tray, and what there is with a refusal
pub live_only : (ed : Edition) → Proper ed → LiveOnly ed
live_only ed g l volume places refused s d =
    let e = read_refusal ed l volume places s in
    let none : read_refusal ed l volume places s ≡ 0 → ⊥ = λ e. d (readable ed l volume places s g e).live_is in
    (none, sym (refused_tray ed l volume places s e refl none), sym (refused_symbols ed l volume places s e refl refused none))

-- a well-formed image marked as demonstration is called one, whatever admissible layout and volume are expected
pub demonstration_named : (ed : Edition) (l : Layout) (volume : ℕ) (s : List ℕ) → admissible ed.order l ≡ true → well_formed ed s ≡ true → get_or s 3 0 ≡ 2
    → read_refusal ed l volume (layers l) s ≡ 10
demonstration_named ed l volume s a f e =
    sym (read_formed ed l volume (layers l) s true (sym a) refl (layers l) refl refl true (sym f) refl
    10 (formed_10 l volume s (get_or s 3 0) refl (λ h. omega (arith, e, h))))

-- what was written as demonstration is never accepted, whatever layout and volume are expected
module _ (ed : Edition) (g : Proper ed) (own : Layout) (tray other : ℕ) (symbols old : List ℕ) (v : other < 2 ^ 32)
    (done : write_refusal ed own tray demonstration other symbols (length old) ≡ 0) where
  abbrev image : List ℕ
  image = header ed own tray demonstration other ++ symbol_bytes ed.width symbols

  w : Writable ed own tray demonstration other symbols (length old)
  w = writable ed own tray demonstration other symbols (length old) g done

  marked : get_or image 3 0 ≡ 2
  marked = its_state ed g own tray demonstration other symbols (length old) w v

  formed : well_formed ed image ≡ true
  formed = facts_formed ed image g (well_formed_lem ed g own tray demonstration other symbols (length old) w v)

  refusal : (l : Layout) (volume places : ℕ) (a b : Bool) → admissible ed.order l ≡ a → eqb places (layers l) ≡ b
      → read_refusal ed l volume places image ≡ unless a 1 (unless b 2 10)
  unfolding read_refusal
  refusal l volume places true true h k =
      ap (λ n. read_refusal ed l volume n image) (eqb-true _ _ k) ∙ demonstration_named ed l volume image h formed marked
  refusal l volume places true false h k = simp (h, k)
  refusal l volume places false b h k = simp h

  gets_10 : (l : Layout) (volume places : ℕ) (refused : List ℕ) →
      (read_refusal ed l volume places (write_buffer ed own tray demonstration other symbols old) ≡ unless (admissible ed.order l) 1 (unless (eqb places (layers l)) 2 10))
      × (read_tray ed l volume places (write_buffer ed own tray demonstration other symbols old) ≡ 0)
      × (read_symbols ed l volume places refused (write_buffer ed own tray demonstration other symbols old) ≡ refused)
  gets_10 l volume places refused =
      let is = sym (written ed own tray demonstration other symbols old done) in
      let none = live_only ed g l volume places refused image (λ e. omega (arith, marked, e)) in (
        ap (read_refusal ed l volume places) is ∙ refusal l volume places (admissible ed.order l) (eqb places (layers l)) refl refl,
        ap (read_tray ed l volume places) is ∙ none.1,
        ap (read_symbols ed l volume places refused) is ∙ none.2,
      )

pub demonstration_refused : (ed : Edition) → Proper ed → DemonstrationRefused ed
demonstration_refused = gets_10
