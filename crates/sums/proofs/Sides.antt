-- The right sides of a weight: what a helper's share adds, and helper after helper.
-- Assumes nothing.
use mathlib.Core.Path.{◌≡◌, sym, ap, ap₂, ◌∙◌, subst}
use mathlib.Core.List.{List}
use Prim.Native.Nat.{ℕ, ◌+◌, ◌*◌, ◌<◌, ◌≤◌}
use native.Mathlib.Nat.{zero-add, add_assoc}
use native.Mathlib.Omega.{arith}
use lib.ListN.{length, get_or}
use Rattle.algebra.specs.Sum.{pow}
use Rattle.algebra.specs.Layers.{layer_of}
use Rattle.algebra.proofs.Ring.{zero_add as nothing-add, one_mul, mul_comm, mul_assoc}
use Rattle.algebra.proofs.Sum.{sum_zero, sum_add_one}
use Rattle.algebra.proofs.Pow.{pow_zero}
use Rattle.algebra.proofs.Weighted.{pow_split}
use Rattle.algebra.specs.Shape.{Field}
use Rattle.algebra.specs.Plain.{plus, times, Working}
use Rattle.algebra.proofs.Plain.{elem_zero, elem_plus, elem_times}
use Rattle.kernel.specs.Inner.{cell, Run, filled, copied, added_product}
use Rattle.kernel.proofs.Rows.{row_before, cell_is}
use Rattle.layout.specs.declared.Layout.{Layout}
use Rattle.layout.specs.Layout.{digits, groups, parity_racks, tray_limit, layer_limit, Cabinet}
use Rattle.layout.proofs.Facts.{bounds}
use Rattle.codeword.specs.Codeword.{point_at}
use Rattle.blocks.proofs.Digits.{run_pos}
use Rattle.syndrome.specs.Inner.{Room, Terms}
use Rattle.rule.specs.Lost.{sent_symbol}
use Rattle.sums.specs.Inner.{side_term, Groups, RackPowers, Sharing, ShareTerms, SidesTo, ShareAdded}
use Rattle.sums.proofs.Steps.{row_in, share_in}

module _ {A : Type 0} {f : Field A} (W : Working f) where
  open f use {ops}
  open f.coding use {elem}
  open W.field use {laws}

  module _ (l : Layout) (h w first : ℕ) (helpers shares : List ℕ) (e m k : ℕ) where
    pub terms_are : (n at : ℕ) (cur cur' cur'' row : List ℕ) → n ≡ groups l → at ≡ (k * e + m) * n + first → RackPowers f l h w first (get_or helpers k 0) m row →
        Run (filled 0) cur cur' 0 w → Run (added_product f cur' 0 shares at row 0) cur' cur'' 0 w → ShareTerms f l h w first helpers shares e m k cur''
    unfolding filled added_product sent_symbol
    terms_are n at cur cur' cur'' row en ea pm z p = record { at = go }
      where
        place : (j : ℕ) → at + j ≡ (k * e + m) * groups l + (first + j)
        place j = ap (λ y. y + j) (ea ∙ ap (λ n. (k * e + m) * n + first) en) ∙ add_assoc ((k * e + m) * groups l) first j

        go : (j : ℕ) → j < w →
            elem (get_or cur'' j 0) ≡ ops.mul (pow ops (point_at f l (layer_of (digits l) h (first + j) 0) (get_or helpers k 0 * l.size)) m)
            (elem (get_or shares ((k * e + m) * groups l + (first + j)) 0))
        go j q =
            ap (λ i. elem (get_or cur'' i 0)) (sym (zero-add j)) ∙ ap elem (p.done j q ∙ ap (λ (y : ℕ). plus f y (times f (get_or shares (at + j) 0) (get_or row (0 + j) 0))) (z.done j q))
            ∙ elem_plus W 0 (times f (get_or shares (at + j) 0) (get_or row (0 + j) 0)) ∙ ap₂ ops.add (elem_zero W) (elem_times W (get_or shares (at + j) 0) (get_or row (0 + j) 0))
            ∙ nothing-add ops laws _ ∙ mul_comm ops laws _ _
            ∙ ap₂ ops.mul (ap (λ i. elem (get_or row i 0)) (zero-add j) ∙ pm.at j q) (ap (λ y. elem (get_or shares y 0)) (place j))

    pub terms_plain : (n at : ℕ) (cur is : List ℕ) → n ≡ groups l → at ≡ (k * e + m) * n + first → m ≡ 0 → Run (copied shares at) cur is 0 w →
        ShareTerms f l h w first helpers shares e m k is
    unfolding copied sent_symbol
    terms_plain n at cur is en ea em z = record {
      at = λ j q.
          let P = point_at f l (layer_of (digits l) h (first + j) 0) (get_or helpers k 0 * l.size) in
          ap (λ i. elem (get_or is i 0)) (sym (zero-add j)) ∙ ap elem (z.done j q)
          ∙ ap (λ i. elem (get_or shares i 0)) (ap (λ y. y + j) (ea ∙ ap (λ n. (k * e + m) * n + first) en) ∙ add_assoc ((k * e + m) * groups l) first j)
          ∙ sym (ap (λ y. ops.mul y (elem (get_or shares ((k * e + m) * groups l + (first + j)) 0))) (ap (pow ops P) em ∙ pow_zero ops P) ∙ one_mul ops laws _);
    }

    pub share_added : (r : ℕ) (cur row was is : List ℕ) → r ≡ parity_racks l → ShareTerms f l h w first helpers shares e m k cur → RackPowers f l h w first (get_or helpers k 0) l.size row →
        Terms f w r row cur was is → ShareAdded f l h w first helpers shares e m k was is
    unfolding side_term
    share_added r cur row was is er s p g = record { at = λ t j q c. g.at t j (rw er q) c ∙ ap (ops.add (cell f w was t j)) (term t j c) }
      where
        term : (t j : ℕ) → j < w → ops.mul (pow ops (elem (get_or row j 0)) t) (elem (get_or cur j 0)) ≡ side_term f l h (first + j) helpers shares e m t k
        term t j q =
            let P = point_at f l (layer_of (digits l) h (first + j) 0) (get_or helpers k 0 * l.size) in
            ap₂ (λ y x. ops.mul (pow ops y t) x) (p.at j q) (s.at j q)
            ∙ sym (mul_assoc ops laws (pow ops (pow ops P l.size) t) (pow ops P m) (sent_symbol f l e shares m (first + j) k))
            ∙ ap (λ y. ops.mul y (sent_symbol f l e shares m (first + j) k)) (sym (pow_split ops laws P l.size t m))

  module _ (l : Layout) (h w first : ℕ) (helpers shares : List ℕ) (e m : ℕ) where
    pub sides_none : (r : ℕ) (was is : List ℕ) → r ≡ parity_racks l → Run (filled 0) was is 0 (r * w) → SidesTo f l h w first helpers shares e m 0 is
    unfolding filled
    sides_none r was is er z = record {
      at = λ t j ht hj.
          sym (cell_is f w is t j) ∙ ap (λ i. elem (get_or is i 0)) (sym (zero-add (t * w + j)))
          ∙ ap elem (z.done (t * w + j) (let e = row_before t r w (rw er ht) in omega arith)) ∙ elem_zero W ∙ sym (sum_zero ops _);
    }

    pub sides_more : (k : ℕ) (was is : List ℕ) → SidesTo f l h w first helpers shares e m k was → ShareAdded f l h w first helpers shares e m k was is →
        SidesTo f l h w first helpers shares e m (k + 1) is
    sides_more k was is s g = record {
      at = λ t j ht hj.
          g.at t j ht hj ∙ ap (λ y. ops.add y (side_term f l h (first + j) helpers shares e m t k)) (s.at t j ht hj)
          ∙ sym (sum_add_one ops k (side_term f l h (first + j) helpers shares e m t));
    }

    pub sides_end : (k n : ℕ) (sides : List ℕ) → SidesTo f l h w first helpers shares e m k sides → k ≤ n → n ≤ k → n ≡ l.helpers →
        SidesTo f l h w first helpers shares e m l.helpers sides
    sides_end k n sides s a b c = let q : k ≡ l.helpers = omega arith in subst (λ y. SidesTo f l h w first helpers shares e m y sides) q s

-- ---- places
pub width_pos : (l : Layout) (w first : ℕ) → Groups l w first → 0 < w
width_pos l w first g = rw g.block.width (run_pos l g.block.adm g.block.power)

pub groups_high : (l : Layout) (n : ℕ) → Cabinet l → n ≡ groups l → n ≤ layer_limit
groups_high l n a e = omega (arith, (bounds l a).groups_high)

pub first_in : (l : Layout) (w first n : ℕ) → Groups l w first → n ≡ groups l → first < n
first_in l w first n g e = let p = width_pos l w first g in let i = g.inside in omega arith

pub size_high : (l : Layout) → Cabinet l → l.size ≤ tray_limit
size_high l a = let b = bounds l a in omega arith

module _ (l : Layout) (h w first : ℕ) (helpers shares : List ℕ) (e m k : ℕ) (cur row : List ℕ) (g : Sharing l h w first helpers shares e m cur row) (helper_in : k < l.helpers) where
  pub layout_of : Cabinet l
  layout_of = g.received.chosen.adm

  pub share_row : k * e + m < tray_limit
  share_row = row_in l layout_of e m k g.received.few g.weight_in helper_in

  pub share_there : (n at : ℕ) → n ≡ groups l → at ≡ (k * e + m) * n + first → at + w ≤ length shares
  share_there n at en ea = rw (ea, en, g.received.shares_long) (share_in l layout_of e m k g.received.few g.weight_in helper_in first w g.block.inside)

  pub room_of : (r : ℕ) (sides cur' row' : List ℕ) → parity_racks l * w ≤ length sides → r ≡ parity_racks l → length cur' ≡ length cur → length row' ≡ length row → Room w r sides cur' row'
  room_of r sides cur' row' q er ec el = record { sums_long = rw er q; cur_long = rw ec g.cur_long; row_long = rw el g.row_long }
