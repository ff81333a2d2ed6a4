-- What is gathered of a rack: the symbols of the codeword's trays that are not lost, of images as they were written; and the images of lost
-- trays are not looked at. Over any edition.
-- Assumes nothing.
use mathlib.Core.Path.{◌≡◌, refl, sym, ap, ap₂, ◌∙◌, subst}
use mathlib.Core.Bool.{Bool, true, false, cond, not}
use mathlib.Core.List.{List}
use Prim.Native.Nat.{ℕ, ◌+◌, ◌*◌, ◌/◌, ◌%◌, ◌^◌, ◌<◌}
use native.Mathlib.Nat.{div-lt_iff_lt-mul}
use native.Mathlib.Decide.{ℕ_discrete}
use native.Mathlib.Omega.{arith}
use borrow.Author.Tests.{eq-eqb, ne_eqb, eqb-true}
use lib.Arith.{digits_div, digits_mod}
use lib.Dec.{eqb}
use lib.ListN.{length, get_or}
use Rattle.lists.specs.Lists.{table, absent, all_below}
use Rattle.lists.proofs.Bools.{all_holds, all_same}
use Rattle.lists.proofs.Numbered.{below_true}
use Rattle.lists.proofs.Numbers.{cell_in}
use Rattle.lists.proofs.Tables.{table_length, table_at, table_same}
use Rattle.layout.specs.declared.Layout.{Layout}
use Rattle.layout.specs.Layout.{trays, layers}
use Rattle.layout.proofs.Facts.{bounds}
use Rattle.image.specs.declared.Edition.{Edition}
use Rattle.image.specs.Image.{symbol_at}
use Rattle.image.specs.Inner.{Proper}
use Rattle.gather.specs.Gathering.{image_of, is_live, image_ground, of_rack, none_with, rack_refusal, rack_symbol, rack_buffer}
use Rattle.gather.specs.Stored.{Written}
use Rattle.gather.proofs.Racks.{gatherable, looked_live}
use Rattle.gather.proofs.Returns.{written_symbol}

module _ (e : Edition) (l : Layout) (volume rack : ℕ) (lost images out : List ℕ)
    (z : rack_refusal e l volume rack lost images (length out) ≡ 0) where
  buffer_at : (g j : ℕ) → g < l.size → j < layers l →
      get_or (rack_buffer e l volume rack lost images out) (g * layers l + j) 0 ≡ rack_symbol e l rack lost images out g j
  unfolding rack_buffer
  buffer_at g j hg hj =
      ap (λ b. get_or (cond b (table (λ i. rack_symbol e l rack lost images out (i / layers l) (i % layers l)) (l.size * layers l)) out)
      (g * layers l + j) 0) (eq-eqb _ _ z)
      ∙ table_at (λ i. rack_symbol e l rack lost images out (i / layers l) (i % layers l)) (l.size * layers l) (g * layers l + j)
      (cell_in l.size (layers l) g j hg hj)
      ∙ ap₂ (rack_symbol e l rack lost images out) (digits_div g hj) (digits_mod g hj)

  pub buffer_long : length (rack_buffer e l volume rack lost images out) ≡ l.size * layers l
  unfolding rack_buffer
  buffer_long =
      ap (λ b. length (cond b (table (λ i. rack_symbol e l rack lost images out (i / layers l) (i % layers l)) (l.size * layers l)) out))
      (eq-eqb _ _ z)
      ∙ table_length (λ i. rack_symbol e l rack lost images out (i / layers l) (i % layers l)) (l.size * layers l)

  -- the symbols of a tray that is not lost are its image's
  pub rack_taken : (g j : ℕ) → g < l.size → j < layers l → absent lost (rack * l.size + g) ≡ true →
      get_or (rack_buffer e l volume rack lost images out) (g * layers l + j) 0 ≡ symbol_at e (image_of e l images g) j
  unfolding rack_symbol
  rack_taken g j hg hj a = buffer_at g j hg hj ∙ ap (λ b. cond b (symbol_at e (image_of e l images g) j) (get_or out (g * layers l + j) 0)) a

  -- every tray that is not lost is live and in its place
  pub rack_live : (g : ℕ) → g < l.size → absent lost (rack * l.size + g) ≡ true →
      is_live e l volume (rack * l.size + g) (image_of e l images g) ≡ true
  rack_live = looked_live e l volume rack lost images out 0 (sym z) refl

  -- the symbols are those of the codeword where the image is as it was written
  pub rack_symbols : Proper e → volume < 2 ^ 32 → (w : List ℕ) (g j : ℕ) → g < l.size → j < layers l →
      absent lost (rack * l.size + g) ≡ true → Written e l volume w images g (rack * l.size + g) →
      get_or (rack_buffer e l volume rack lost images out) (g * layers l + j) 0 ≡ get_or w ((rack * l.size + g) * layers l + j) 0
  rack_symbols p small w g j hg hj a written =
      rack_taken g j hg hj a
      ∙ written_symbol e p l volume small w images g (rack * l.size + g) written j hj

  -- and a lost tray's place is as it was
  pub rack_lost : (g j : ℕ) → g < l.size → j < layers l → absent lost (rack * l.size + g) ≡ false →
      get_or (rack_buffer e l volume rack lost images out) (g * layers l + j) 0 ≡ get_or out (g * layers l + j) 0
  unfolding rack_symbol
  rack_lost g j hg hj a = buffer_at g j hg hj ∙ ap (λ b. cond b (symbol_at e (image_of e l images g) j) (get_or out (g * layers l + j) 0)) a

-- the trays listed are trays of the layout
pub lost_inside : (e : Edition) (l : Layout) (volume rack : ℕ) (lost images : List ℕ) (room : ℕ) →
    rack_refusal e l volume rack lost images room ≡ 0 → all_below lost (trays l) ≡ true
unfolding of_rack
lost_inside e l volume rack lost images room z =
    let g = gatherable e l volume rack lost images room z in
    sym (below_true lost (trays l) (λ k h.
    (div-lt_iff_lt-mul g.read.adm.size_low).0
    (subst (λ v. v < l.racks) (sym (eqb-true _ _ (all_holds (λ k. eqb (get_or lost k 0 / l.size) rack) (length lost) g.own k h)))
    g.read.rack_in)))

-- images alike but at the lost trays' places: the same answer and the same bytes
module _ (e : Edition) (l : Layout) (volume rack : ℕ) (lost images images' : List ℕ) (long : length images ≡ length images')
    (alike : (g : ℕ) → g < l.size → absent lost (rack * l.size + g) ≡ true → image_of e l images g ≡ image_of e l images' g) where
  none_same : (reason : ℕ) → none_with e l volume rack lost images reason ≡ none_with e l volume rack lost images' reason
  unfolding none_with
  none_same reason = all_same _ _ l.size (λ g h. go g h (absent lost (rack * l.size + g)) refl)
    where
      test : List ℕ → ℕ → Bool
      test s g = not (eqb (image_ground e l volume (rack * l.size + g) s) reason)

      go : (g : ℕ) → g < l.size → (b : Bool) → absent lost (rack * l.size + g) ≡ b →
          cond (absent lost (rack * l.size + g)) (test (image_of e l images g) g) true ≡ cond (absent lost (rack * l.size + g))
          (test (image_of e l images' g) g) true
      go g h true a = ap (λ s. cond (absent lost (rack * l.size + g)) (test s g) true) (alike g h a)
      go g h false a = ap (λ b. cond b (test (image_of e l images g) g) true) a
          ∙ sym (ap (λ b. cond b (test (image_of e l images' g) g) true) a)

  pub rack_refusal_same : (room : ℕ) → rack_refusal e l volume rack lost images room ≡ rack_refusal e l volume rack lost images' room
  unfolding rack_refusal
  rack_refusal_same room = rw (long, none_same 9, none_same 10, none_same 11) refl

  symbol_same : (out : List ℕ) (g j : ℕ) → g < l.size → rack_symbol e l rack lost images out g j ≡ rack_symbol e l rack lost images' out g j
  unfolding rack_symbol
  symbol_same out g j h = go (absent lost (rack * l.size + g)) refl
    where
      go : (b : Bool) → absent lost (rack * l.size + g) ≡ b →
          cond (absent lost (rack * l.size + g)) (symbol_at e (image_of e l images g) j) (get_or out (g * layers l + j) 0) ≡
          cond (absent lost (rack * l.size + g)) (symbol_at e (image_of e l images' g) j) (get_or out (g * layers l + j) 0)
      go true a = ap (λ s. cond (absent lost (rack * l.size + g)) (symbol_at e s j) (get_or out (g * layers l + j) 0)) (alike g h a)
      go false a =
          ap (λ b. cond b (symbol_at e (image_of e l images g) j) (get_or out (g * layers l + j) 0)) a
          ∙ sym (ap (λ b. cond b (symbol_at e (image_of e l images' g) j) (get_or out (g * layers l + j) 0)) a)

  pub rack_never_looks : (out : List ℕ) → rack_buffer e l volume rack lost images out ≡ rack_buffer e l volume rack lost images' out
  unfolding rack_buffer
  rack_never_looks out = go (ℕ_discrete (rack_refusal e l volume rack lost images (length out)) 0)
    where
      whole : List ℕ → List ℕ
      whole s = table (λ i. rack_symbol e l rack lost s out (i / layers l) (i % layers l)) (l.size * layers l)

      go : Dec (rack_refusal e l volume rack lost images (length out) ≡ 0) →
          cond (eqb (rack_refusal e l volume rack lost images (length out)) 0) (whole images) out ≡ cond
          (eqb (rack_refusal e l volume rack lost images' (length out)) 0) (whole images') out
      go (yes z) =
          let adm = (gatherable e l volume rack lost images (length out) z).read.adm in
          let pos : 0 < layers l = (let b = (bounds l adm).layers_low in omega arith) in
          ap (λ b. cond b (whole images) out) (eq-eqb (rack_refusal e l volume rack lost images (length out)) 0 z)
          ∙ table_same _ _ (l.size * layers l) (λ i h. symbol_same out (i / layers l) (i % layers l) ((div-lt_iff_lt-mul pos).1 h))
          ∙ sym (ap (λ b. cond b (whole images') out)
          (eq-eqb (rack_refusal e l volume rack lost images' (length out)) 0 (sym (rack_refusal_same (length out)) ∙ z)))
      go (no n) =
          ap (λ b. cond b (whole images) out) (ne_eqb (rack_refusal e l volume rack lost images (length out)) 0 n)
          ∙ sym (ap (λ b. cond b (whole images') out)
          (ne_eqb (rack_refusal e l volume rack lost images' (length out)) 0 (λ z. n (rack_refusal_same (length out) ∙ z))))
