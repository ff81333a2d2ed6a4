-- A reader of one edition refuses the images of every other with 9.
-- Assumes nothing.
use mathlib.Core.Path.{◌≡◌, refl, sym, ap, ◌∙◌}
use mathlib.Core.Bool.{true, false}
use mathlib.Core.List.{List, ◌++◌}
use Prim.Native.Nat.{ℕ}
use native.Mathlib.Omega.{arith}
use lib.ListN.{length, get_or}
use Rattle.lists.proofs.Bools.{not_true_false}
use Rattle.layout.specs.declared.Layout.{Layout}
use Rattle.layout.specs.Layout.{layers, admissible}
use Rattle.image.specs.declared.Edition.{Edition}
use Rattle.image.specs.Image.{header, symbol_bytes, well_formed, read_refusal}
use Rattle.image.specs.Claims.{OtherRefused}
use Rattle.image.specs.Inner.{Proper}
use Rattle.image.proofs.WriteGrounds.{writable, written}
use Rattle.image.proofs.ReadGrounds.{read_9}
use Rattle.image.proofs.Written.{its_edition}
use Rattle.image.proofs.HeaderRules.{formed_rules}

-- an image with another edition's number is malformed
pub other_edition : (ed : Edition) → Proper ed → (l : Layout) (volume : ℕ) (s : List ℕ) → ¬ (get_or s 2 0 ≡ ed.number) → admissible ed.order l ≡ true
    → read_refusal ed l volume (layers l) s ≡ 9
other_edition ed g l volume s d a =
    let bad : false ≡ well_formed ed s = not_true_false _ (λ f. d (omega (arith, (formed_rules ed g s f).edition_is))) in
    sym (read_9 ed l volume (layers l) s true (sym a) refl (layers l) refl refl false bad refl)

-- and so is what was written in another edition, in whatever state
pub other_refused : (ed other : Edition) → Proper ed → Proper other → ¬ (other.number ≡ ed.number) → OtherRefused ed other
other_refused ed other g p d own tray state mark symbols old v done l volume a =
    let w = writable other own tray state mark symbols (length old) p done in
    let e = its_edition other p own tray state mark symbols (length old) w v in
    ap (read_refusal ed l volume (layers l)) (sym (written other own tray state mark symbols old done))
    ∙ other_edition ed g l volume (header other own tray state mark ++ symbol_bytes other.width symbols) (λ q. d (sym e ∙ q)) a
