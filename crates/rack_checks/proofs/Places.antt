-- The rack sums of a block, place after place or at once.
-- Assumes nothing.
use mathlib.Core.Path.{◌≡◌, sym, ap, ap₂, ◌∙◌, subst}
use mathlib.Core.Bool.{Bool, true, false, not}
use mathlib.Core.List.{List}
use Prim.Native.Nat.{ℕ, ◌+◌, ◌-◌, ◌*◌, ◌/◌, ◌<◌}
use native.Mathlib.Nat.{zero-add, add_assoc, add-mul}
use native.Mathlib.Omega.{arith}
use borrow.Author.Tests.{not-true, not-false}
use lib.ListN.{get_or}
use Rattle.lists.specs.Lists.{absent}
use Rattle.algebra.specs.Sum.{sum, pow}
use Rattle.algebra.specs.Points.{place, rack_sum}
use Rattle.algebra.specs.Shape.{Field}
use Rattle.algebra.specs.Plain.{times, Working}
use Rattle.algebra.proofs.Ring.{add_zero, mul_zero, one_mul, mul_comm}
use Rattle.algebra.proofs.Sum.{sum_zero, sum_add_one, sum_congr}
use Rattle.algebra.proofs.Plain.{elem_zero, elem_one, elem_plus, elem_times}
use Rattle.kernel.specs.Inner.{Run, filled, added, added_multiple}
use Rattle.weigh.specs.Inner.{weight, weighted_term, Weighed}
use Rattle.layout.specs.declared.Layout.{Layout}
use Rattle.layout.specs.Layout.{layers}
use Rattle.codeword.specs.Codeword.{shape_of, symbol_at}
use Rattle.syndrome.specs.Inner.{Listed, survivor_at}
use Rattle.syndrome.proofs.Sums.{survivor_listed, survivor_kept}
use Rattle.rack_checks.specs.Inner.{Kept, Readable, place_term, PlaceAdded, PlaceSums, LastSums, kept_sum}

module _ {A : Type 0} {f : Field A} (W : Working f) (l : Layout) (w first : ℕ) (c es : List ℕ) (i m : ℕ) where
  open f use {ops, root}
  open f.coding use {elem}
  open W.field use {laws}

  -- where a symbol of a tray stands
  there : (total : ℕ) → Readable l total c → (g j : ℕ) → absent es (i * l.size + g) ≡ true →
      elem (get_or c ((i * l.size + g) * total + first + j) 0) ≡ survivor_at f l es c (first + j) (i * l.size + g)
  unfolding symbol_at
  there total r g j e =
      ap (λ n. elem (get_or c n 0)) (ap (λ n. (i * l.size + g) * n + first + j) r.total_is ∙ add_assoc ((i * l.size + g) * layers l) first j)
      ∙ sym (survivor_kept W l es c (first + j) (i * l.size + g) e)

  -- ---- a tray of a rack
  module _ (g : ℕ) (was is : List ℕ) where
    pub place_listed : (res : Bool) → Listed l es → res ≡ absent es (i * l.size + g) → not res ≡ true → PlaceAdded f l w first c es i m g was was
    unfolding place_term
    place_listed res listed e t = record {
      at = λ j k.
          sym (ap (λ v. ops.add (elem (get_or was j 0)) (ops.mul (pow ops (place (shape_of f l) g) m) v)) (survivor_listed W l es c (first + j) (i * l.size + g) listed (sym e ∙ not-true res t))
          ∙ ap (ops.add (elem (get_or was j 0))) (mul_zero ops laws _) ∙ add_zero ops laws (elem (get_or was j 0)));
    }

    pub place_one : (total v : ℕ) (res : Bool) → Readable l total c → res ≡ absent es (i * l.size + g) → not res ≡ false → elem v ≡ pow ops (place (shape_of f l) g) m → v ≡ 1 →
        Run (added f was 0 c ((i * l.size + g) * total + first)) was is 0 w → PlaceAdded f l w first c es i m g was is
    unfolding place_term added
    place_one total v res rd eb nb ev one r = record {
      at = λ j k.
          ap (λ n. elem (get_or is n 0)) (sym (zero-add j)) ∙ ap elem (r.done j k) ∙ elem_plus W (get_or was (0 + j) 0) (get_or c ((i * l.size + g) * total + first + j) 0)
          ∙ ap₂ ops.add (ap (λ n. elem (get_or was n 0)) (zero-add j))
          (there total rd g j (sym eb ∙ not-false res nb) ∙ sym (one_mul ops laws _)
          ∙ ap (λ y. ops.mul y (survivor_at f l es c (first + j) (i * l.size + g))) (sym (elem_one W) ∙ ap elem (sym one) ∙ ev));
    }

    pub place_times : (total v : ℕ) (res : Bool) → Readable l total c → res ≡ absent es (i * l.size + g) → not res ≡ false → elem v ≡ pow ops (place (shape_of f l) g) m →
        Run (added_multiple f was 0 c ((i * l.size + g) * total + first) v) was is 0 w → PlaceAdded f l w first c es i m g was is
    unfolding place_term added_multiple
    place_times total v res rd eb nb ev r = record {
      at = λ j k.
          ap (λ n. elem (get_or is n 0)) (sym (zero-add j)) ∙ ap elem (r.done j k) ∙ elem_plus W (get_or was (0 + j) 0) (times f (get_or c ((i * l.size + g) * total + first + j) 0) v)
          ∙ ap₂ ops.add (ap (λ n. elem (get_or was n 0)) (zero-add j))
          (elem_times W (get_or c ((i * l.size + g) * total + first + j) 0) v ∙ mul_comm ops laws _ _
          ∙ ap₂ ops.mul ev (there total rd g j (sym eb ∙ not-false res nb)));
    }

  -- ---- place after place
  pub places_none : (was is : List ℕ) → Run (filled 0) was is 0 w → PlaceSums f l w first c es i m 0 is
  unfolding filled
  places_none was is r = record { at = λ j k. ap (λ n. elem (get_or is n 0)) (sym (zero-add j)) ∙ ap elem (r.done j k) ∙ elem_zero W ∙ sym (sum_zero ops _) }

  pub places_more : (g : ℕ) (was is : List ℕ) → PlaceSums f l w first c es i m g was → PlaceAdded f l w first c es i m g was is → PlaceSums f l w first c es i m (g + 1) is
  places_more g was is s a = record {
    at = λ j k. a.at j k ∙ ap (λ y. ops.add y (place_term f l es c (first + j) i m g)) (s.at j k) ∙ sym (sum_add_one ops g (place_term f l es c (first + j) i m));
  }

  -- ---- all places at once, where none is listed
  module _ (u total : ℕ) (res : Bool) (rd : Readable l total c) (k : res ≡ true → Kept es (i * l.size) l.size) (t : not res ≡ false) (e : l.size ≡ u) where
    whole_sum : (j : ℕ) → sum ops u (weighted_term f u m c (i * l.size * total + first) total j) ≡ sum ops l.size (place_term f l es c (first + j) i m)
    unfolding place_term weighted_term weight place
    whole_sum j =
        ap (λ n. sum ops n (weighted_term f u m c (i * l.size * total + first) total j)) (sym e)
        ∙ sum_congr ops l.size _ _ (λ g b. ap₂ ops.mul (ap (λ n. pow ops (pow ops (pow ops root (f.order / n)) g) m) (sym e))
        (ap (λ n. elem (get_or c n 0)) (spot g j) ∙ there total rd g j ((k (not-false res t)).at g b)))
      where
        spot : (g j : ℕ) → i * l.size * total + first + g * total + j ≡ (i * l.size + g) * total + first + j
        spot g j = let d : (i * l.size + g) * total ≡ i * l.size * total + g * total = add-mul (i * l.size) g total in omega arith

    pub places_whole : (cur : List ℕ) → Weighed f u m c (i * l.size * total + first) total w cur → PlaceSums f l w first c es i m l.size cur
    places_whole cur s = record { at = λ j h. s.at j h ∙ whole_sum j }

    whole_places : (cur : List ℕ) → PlaceSums f l w first c es i m l.size cur → Weighed f u m c (i * l.size * total + first) total w cur
    whole_places cur s = record { at = λ j h. s.at j h ∙ sym (whole_sum j) }

  -- together the rack sums
  pub places_all : (cur : List ℕ) → PlaceSums f l w first c es i m l.size cur → (j : ℕ) → j < w → elem (get_or cur j 0) ≡ kept_sum f l es c (first + j) m i
  unfolding kept_sum rack_sum place_term
  places_all cur s j k = s.at j k

-- ---- the sums of the weight before
module _ {A : Type 0} {f : Field A} (W : Working f) (l : Layout) (w first : ℕ) (c es : List ℕ) (i : ℕ) where
  pub last_next : (m : ℕ) (cur : List ℕ) → PlaceSums f l w first c es i m l.size cur → LastSums f l w first c es i (m + 1) cur
  last_next m cur s = record { at = λ h. let e : m ≡ m + 1 - 1 = omega arith in subst (λ n. PlaceSums f l w first c es i n l.size cur) e s }

  pub last_weighed : (m total : ℕ) (res : Bool) (cur : List ℕ) → Readable l total c → (res ≡ true → Kept es (i * l.size) l.size) → not res ≡ false → l.size ≡ 3 →
      LastSums f l w first c es i m cur → m ≡ 2 → Weighed f 3 1 c (i * l.size * total + first) total w cur
  last_weighed m total res cur rd k t e s two =
      let q : m - 1 ≡ 1 = omega arith in
      whole_places W l w first c es i 1 3 total res rd k t e cur (subst (λ n. PlaceSums f l w first c es i n l.size cur) q (s.at (omega arith)))
