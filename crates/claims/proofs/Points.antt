-- The powers of the root, the checks that speak of rack sums, and images of volume 0. Over any field and edition.
-- Assumes nothing.
use mathlib.Core.Path.{◌≡◌, refl, sym, ap, ◌∙◌}
use mathlib.Core.Bool.{true, false, not, false≢true}
use mathlib.Core.List.{List}
use Prim.Native.Nat.{ℕ, ◌+◌, ◌*◌, ◌<◌}
use native.Mathlib.Decide.{ℕ_discrete}
use native.Mathlib.Omega.{arith}
use borrow.Author.Tests.{eq-eqb}
use lib.ListN.{length}
use Rattle.lists.specs.Lists.{all_below}
use Rattle.lists.proofs.Bools.{not_true_false}
use Rattle.algebra.specs.Sum.{sum, pow}
use Rattle.algebra.specs.Lagrange.{check}
use Rattle.algebra.specs.Shape.{Field}
use Rattle.algebra.specs.Plain.{root_power, Working}
use Rattle.algebra.specs.Points.{point, rack_point, rack_sum, rack_check}
use Rattle.algebra.specs.Layers.{digit}
use Rattle.algebra.specs.Cabinet.{layer_point}
use Rattle.algebra.proofs.Sum.{sum_congr}
use Rattle.algebra.proofs.Points.{rack_check_lem}
use Rattle.layout.specs.declared.Layout.{Layout}
use Rattle.layout.specs.Layout.{trays, digits, layers, admissible}
use Rattle.codeword.specs.Codeword.{shape_of, symbol_at, point_at, check_at, Usable}
use Rattle.rule.proofs.Racks.{no_weight}
use Rattle.image.specs.declared.Edition.{Edition}
use Rattle.image.specs.Inner.{Proper, write_grounds}
use Rattle.image.specs.Image.{image_length, own_volume, well_formed, write_refusal, read_refusal}
use Rattle.image.proofs.Forms.{formed_facts}
use Rattle.image.proofs.Ranges.{range_facts}
use Rattle.image.proofs.ReadGrounds.{read_9}
use Rattle.image.proofs.WriteGrounds.{write_3}

-- the root's powers run through every nonzero symbol
pub every_symbol : {A : Type 0} {f : Field A} (W : Working f) (x : A) → ¬ (x ≡ f.ops.zero) → (i : ℕ) × (i < f.order) × (pow f.ops f.root i ≡ x)
unfolding root_power
every_symbol {f = f} W x h =
    let n = f.coding.val x in
    let back = W.field.coded.elem_val in
    let positive : 0 < n = elim (ℕ_discrete n 0) [
      | yes e ↦ absurd (h (sym (back x) ∙ ap f.coding.elem e ∙ W.zero_is))
      | no q ↦ omega (arith, q)
    ] in
    let below = W.field.coded.val_below x in
    (W.log n, W.log_below n positive below, sym (back _) ∙ ap f.coding.elem (W.power_log n positive below) ∙ back x)

-- the checks t = u·w speak only of the sums of the racks' trays
module _ {A : Type 0} (f : Field A) (l : Layout) (ok : Usable f l) where
  pub rack_sums : (c : List ℕ) (j w : ℕ) → check_at f l c j (l.size * w) ≡
      check f.ops (λ i. pow f.ops (point (shape_of f l) i (digit (digits l) j i) 0) l.size) l.racks (λ i. sum f.ops l.size (λ g. symbol_at f l c (i * l.size + g) j)) w
  unfolding check_at point_at layer_point check rack_check rack_sum rack_point
  rack_sums c j w =
      ap (check f.ops (layer_point (shape_of f l) j) (trays l) (λ x. symbol_at f l c x j)) (omega arith)
      ∙ rack_check_lem (shape_of f l) ok.fits (digit (digits l) j) (λ x. symbol_at f l c x j) w 0
      ∙ sum_congr f.ops l.racks _ _ (λ i h. ap (f.ops.mul _)
      (no_weight f.ops ok.field.laws _ _ ∙ sum_congr f.ops l.size _ _ (λ g k. no_weight f.ops ok.field.laws _ _)))

-- an image of volume 0 is not written
pub nought_written : (ed : Edition) (l : Layout) → admissible ed.order l ≡ true → (tray state : ℕ) (symbols : List ℕ) → length symbols ≡ layers l →
    write_refusal ed l tray state 0 symbols (image_length ed l) ≡ 3
unfolding write_refusal write_grounds
nought_written ed l a tray state symbols long =
    sym (write_3 ed l tray state 0 (length symbols) (all_below symbols ed.size) (image_length ed l) true (sym a) refl (layers l) refl (image_length ed l) refl long refl false
    (not_true_false _ (λ t. false≢true (range_facts l tray state 0 t).volume_ok)) refl)

-- and not read
pub nought_read : (ed : Edition) → Proper ed → (l : Layout) → admissible ed.order l ≡ true → (volume : ℕ) (image : List ℕ) → own_volume image ≡ 0 →
    read_refusal ed l volume (layers l) image ≡ 9
nought_read ed g l a volume image e =
    sym (read_9 ed l volume (layers l) image true (sym a) refl (layers l) refl refl false
    (not_true_false (well_formed ed image) (λ w. false≢true (sym (ap (λ t. not t) (eq-eqb _ _ e)) ∙ (formed_facts ed image g w).head.range.volume_ok))) refl)
