-- What the lost symbols must sum up to: the host's sums and the terms of its sound trays, place after place.
-- Assumes nothing.
use mathlib.Core.Path.{◌≡◌, refl, sym, ap, ap₂, ◌∙◌, subst}
use mathlib.Core.Bool.{true, false, false≢true}
use mathlib.Core.List.{List}
use Prim.Native.Nat.{ℕ, ◌+◌, ◌*◌, ◌%◌, ◌<◌, ◌≤◌}
use native.Mathlib.Nat.{add-zero as plus_zero, mod-lt, div-add-mod', zero-add, not-suc-le-zero}
use native.Mathlib.Decide.{ℕ_discrete}
use native.Mathlib.Omega.{arith}
use lib.ListN.{length, get_or}
use Rattle.lists.specs.Lists.{absent}
use Rattle.lists.proofs.Numbered.{absent_true, absent_all}
use Rattle.lists.proofs.Numbers.{cell_same}
use Rattle.algebra.specs.Sum.{sum, pow}
use Rattle.algebra.specs.Lagrange.{check}
use Rattle.algebra.specs.Erasure.{rest}
use Rattle.algebra.specs.Points.{place}
use Rattle.algebra.proofs.Ring.{ring, add_zero, add_assoc, mul_zero}
use Rattle.algebra.proofs.Sum.{sum_zero, sum_add_one}
use Rattle.algebra.proofs.Erasure.{fill_same, fill_outside}
use Rattle.algebra.proofs.Pow.{pow_one}
use Rattle.algebra.specs.Field.{Laws}
use Rattle.algebra.specs.Shape.{Field}
use Rattle.algebra.specs.Plain.{Working}
use Rattle.kernel.specs.Inner.{cell, Run, filled, copied}
use Rattle.kernel.proofs.Rows.{cell_other}
use Rattle.layout.specs.declared.Layout.{Layout}
use Rattle.layout.specs.Layout.{digits, layers}
use Rattle.layout.proofs.Facts.{bounds}
use Rattle.codeword.specs.Codeword.{shape_of, symbol_at}
use Rattle.syndrome.specs.Inner.{Terms}
use Rattle.rule.specs.Lost.{lost_place}
use Rattle.group.specs.Inner.{spot, gathered, InTray, Losing, LostPlaces, PlacesTo, sound_symbol, PlaceTerms, Begun, Growing, Rests}
use Rattle.group.proofs.Spots.{spot_from}

module _ {A : Type 0} {f : Field A} (W : Working f) where
  open f use {ops}
  open f.coding use {elem}
  open W.field use {laws}

  pub place_once : (l : Layout) (g : ℕ) (r : A) → r ≡ pow ops (place (shape_of f l) g) 1 → r ≡ place (shape_of f l) g
  place_once l g r e = e ∙ pow_one ops laws _

  -- ---- the lost places
  pub places_none : (l : Layout) (lost places : List ℕ) → PlacesTo f l lost 0 places
  places_none l lost places = record { at = λ i q. absurd (not-suc-le-zero q) }

  pub places_more : (l : Layout) (lost : List ℕ) (n p : ℕ) (was is : List ℕ) → PlacesTo f l lost n was → Run (filled p) was is n 1 →
      elem p ≡ pow ops (place (shape_of f l) (get_or lost n 0 % l.size)) 1 → PlacesTo f l lost (n + 1) is
  unfolding filled lost_place
  places_more l lost n p was is u r e = record { at = λ i q. go i q (ℕ_discrete i n) }
    where
      here : elem (get_or is n 0) ≡ place (shape_of f l) (lost_place l lost n)
      here = ap elem (ap (λ k. get_or is k 0) (sym (plus_zero n)) ∙ r.done 0 (omega arith)) ∙ place_once l _ (elem p) e

      go : (i : ℕ) → i < n + 1 → Dec (i ≡ n) → elem (get_or is i 0) ≡ place (shape_of f l) (lost_place l lost i)
      go i q (yes c) = subst (λ k. elem (get_or is k 0) ≡ place (shape_of f l) (lost_place l lost k)) (sym c) here
      go i q (no c) = ap elem (r.low i (omega arith)) ∙ u.at i (omega arith)

  pub places_end : (l : Layout) (lost : List ℕ) (n : ℕ) (places : List ℕ) → PlacesTo f l lost n places → length lost ≤ n → LostPlaces f l lost places
  places_end l lost n places u q = record { at = λ i k. u.at i (omega arith) }

  -- ---- a place's terms
  pub terms_of : (l : Layout) (w e start run count stride total : ℕ) (host : List ℕ) (g p : ℕ) (before cur above row was is : List ℕ) → total ≡ layers l →
      elem p ≡ pow ops (place (shape_of f l) g) 1 → InTray l w start run count stride → Run (gathered host (g * total + start) run stride) before cur 0 (count * run) →
      Run (filled p) above row 0 w → Terms f w e row cur was is → PlaceTerms f l w e (λ j. symbol_at f l host g (spot start run stride j)) g was is
  unfolding symbol_at gathered filled
  terms_of l w e start run count stride total host g p before cur above row was is et ep t c r k = record {
    at = λ m j hm hj.
        k.at m j hm hj
        ∙ ap₂ (λ y v. ops.add (cell f w was m j) (ops.mul (pow ops y m) v))
        (ap (λ i. elem (get_or row i 0)) (sym (zero-add j)) ∙ ap elem (r.done j hj) ∙ place_once l g (elem p) ep)
        (ap (λ i. elem (get_or cur i 0)) (sym (zero-add j)) ∙ ap elem (c.done j (rw t.whole hj))
        ∙ ap (λ i. elem (get_or host i 0)) (spot_from start run stride (g * total) j ∙ ap (λ n. g * n + spot start run stride j) et));
  }

  -- the symbols of the host rack in a layer, zero at the lost places
  module _ (l : Layout) (h : ℕ) (lost host : List ℕ) (q : Losing l h lost host) where
    abbrev tray_at : (i : ℕ) → i < length lost → h * l.size + lost_place l lost i ≡ get_or lost i 0
    tray_at i k = unfold lost_place in ap (λ r. r * l.size + get_or lost i 0 % l.size) (sym (q.one_rack_lem i k)) ∙ div-add-mod' (get_or lost i 0) l.size

    module _ (g y : ℕ) where
      sound_lost : g < l.size → absent lost (h * l.size + g) ≡ false → sound_symbol f l lost host y g ≡ ops.zero
      unfolding sound_symbol
      sound_lost hg e =
          sym (fill_same (lost_place l lost) (λ k. ops.zero) (λ z. symbol_at f l host z y) (length lost) (λ z. ops.zero) g (λ k hk eg. refl)
          (λ out. absurd (false≢true (sym e ∙ sym (absent_true lost (h * l.size + g) (λ k hk t. out k hk (place_of k hk t)))))))
        where
          place_of : (k : ℕ) → k < length lost → get_or lost k 0 ≡ h * l.size + g → g ≡ lost_place l lost k
          place_of k hk t = (cell_same l.size h h g (lost_place l lost k) hg (unfold lost_place in mod-lt (get_or lost k 0) (bounds l q.adm).size_low) (sym t ∙ sym (tray_at k hk))).1

      sound_there : absent lost (h * l.size + g) ≡ true → sound_symbol f l lost host y g ≡ symbol_at f l host g y
      unfolding sound_symbol
      sound_there e =
          fill_outside (lost_place l lost) (λ k. ops.zero) (λ z. symbol_at f l host z y) (length lost) g
          (λ k hk eg. absent_all lost (h * l.size + g) e k hk (sym (tray_at k hk) ∙ ap (λ z. h * l.size + z) (sym eg)))

    module _ (w e : ℕ) (layer : ℕ → ℕ) (g : ℕ) (was : List ℕ) where
      -- a lost place adds nothing
      pub terms_lost : g < l.size → absent lost (h * l.size + g) ≡ false → PlaceTerms f l w e (λ j. sound_symbol f l lost host (layer j) g) g was was
      terms_lost hg gone = record {
        at = λ m j hm hj.
            sym (ap (λ v. ops.add (cell f w was m j) (ops.mul (pow ops (place (shape_of f l) g) m) v)) (sound_lost g (layer j) hg gone)
            ∙ ap (ops.add (cell f w was m j)) (mul_zero ops laws _) ∙ add_zero ops laws (cell f w was m j));
      }

      pub terms_sound : (is : List ℕ) → absent lost (h * l.size + g) ≡ true → PlaceTerms f l w e (λ j. symbol_at f l host g (layer j)) g was is →
          PlaceTerms f l w e (λ j. sound_symbol f l lost host (layer j) g) g was is
      terms_sound is out t = record {
        at = λ m j hm hj. t.at m j hm hj ∙ ap (λ v. ops.add (cell f w was m j) (ops.mul (pow ops (place (shape_of f l) g) m) v)) (sym (sound_there g (layer j) out));
      }

  -- ---- the sums to begin with
  module _ (w s a : ℕ) (sums : List ℕ) where
    pub begin_none : (rests : List ℕ) → Begun f w 0 s a sums rests
    begin_none rests = record { at = λ m j h. absurd (not-suc-le-zero h) }

    pub begin_more : (m : ℕ) (is new : List ℕ) → Begun f w m s a sums is → Run (copied sums ((m * s + a) * w)) is new (m * w) w → Begun f w (m + 1) s a sums new
    begin_more m is new g r = record { at = λ k j h b. go k j h b (ℕ_discrete k m) }
      where
        here : (j : ℕ) → j < w → cell f w new m j ≡ cell f w sums (m * s + a) j
        here j b = unfold cell copied in ap elem (r.done j b)

        go : (k j : ℕ) → k < m + 1 → j < w → Dec (k ≡ m) → cell f w new k j ≡ cell f w sums (k * s + a) j
        go k j h b (yes e) = subst (λ n. cell f w new n j ≡ cell f w sums (n * s + a) j) (sym e) (here j b)
        go k j h b (no d) = cell_other f _ is new m w r k j b d ∙ g.at k j (omega arith) b

    pub begin_end : (m e : ℕ) (rests : List ℕ) → Begun f w m s a sums rests → m ≤ e → e ≤ m → Begun f w e s a sums rests
    begin_end m e rests g h k = let q : m ≡ e = omega arith in subst (λ n. Begun f w n s a sums rests) q g

  -- ---- place after place
  twice : (x y : A) → ops.add x y ≡ ops.neg (ops.add (ops.neg x) (ops.neg y))
  twice x y = let L : Laws ops = laws in simp (ring, L)

  module _ (l : Layout) (lost host : List ℕ) (w a start run stride : ℕ) (sums : List ℕ) where
    pub grow_none : (s : ℕ) (rests : List ℕ) → s ≡ digits l → Begun f w (length lost) s a sums rests → Growing f l lost host w a start run stride sums rests 0
    grow_none s rests es g = record {
      at = λ m j hm hj.
          g.at m j hm hj ∙ ap (λ n. cell f w sums (m * n + a) j) es ∙ sym (add_zero ops laws (cell f w sums (m * digits l + a) j))
          ∙ ap (ops.add (cell f w sums (m * digits l + a) j)) (sym (sum_zero ops _));
    }

    pub grow_more : (g : ℕ) (is new : List ℕ) → Growing f l lost host w a start run stride sums is g →
        PlaceTerms f l w (length lost) (λ j. sound_symbol f l lost host (spot start run stride j) g) g is new → Growing f l lost host w a start run stride sums new (g + 1)
    grow_more g is new r t = record {
      at = λ m j hm hj.
          t.at m j hm hj
          ∙ ap (λ y. ops.add y (ops.mul (pow ops (place (shape_of f l) g) m) (sound_symbol f l lost host (spot start run stride j) g))) (r.at m j hm hj)
          ∙ add_assoc ops laws (cell f w sums (m * digits l + a) j) (sum ops g (λ y. ops.mul (pow ops (place (shape_of f l) y) m) (sound_symbol f l lost host (spot start run stride j) y)))
          (ops.mul (pow ops (place (shape_of f l) g) m) (sound_symbol f l lost host (spot start run stride j) g))
          ∙ ap (ops.add (cell f w sums (m * digits l + a) j))
          (sym (sum_add_one ops g (λ y. ops.mul (pow ops (place (shape_of f l) y) m) (sound_symbol f l lost host (spot start run stride j) y))));
    }

    pub grow_end : (g : ℕ) (rests : List ℕ) → Growing f l lost host w a start run stride sums rests g → g ≤ l.size → l.size ≤ g → Rests f l lost host w a start run stride sums rests
    unfolding rest check sound_symbol
    grow_end g rests r h k = record {
      at = λ m j hm hj.
          r.at m j hm hj
          ∙ ap (ops.add (cell f w sums (m * digits l + a) j))
          (ap (λ n. sum ops n (λ y. ops.mul (pow ops (place (shape_of f l) y) m) (sound_symbol f l lost host (spot start run stride j) y))) same)
          ∙ twice (cell f w sums (m * digits l + a) j) _;
    }
      where
        same : g ≡ l.size
        same = omega arith
