-- Rows of many codewords: the sums by multipliers, less a rack's sound trays, layer after layer.
-- Assumes nothing.
use mathlib.Core.Path.{◌≡◌, refl, sym, ap, ap₂, ◌∙◌, subst}
use mathlib.Core.List.{List}
use Prim.Native.Nat.{ℕ, ◌+◌, ◌*◌, ◌/◌, ◌%◌, ◌<◌, ◌≤◌}
use native.Mathlib.Nat.{add-mul, add_comm, mul_assoc, mul-le-mul_right, le_of_lt}
use native.Mathlib.Decide.{ℕ_discrete}
use native.Mathlib.Omega.{arith}
use lib.Dec.{eqb}
use lib.ListN.{length, get_or, set}
use borrow.Author.Tests.{eq-eqb, ne_eqb}
use Rattle.lists.proofs.Numbers.{cell_in}
use Rattle.algebra.specs.Field.{Laws}
use Rattle.algebra.specs.Sum.{sum}
use Rattle.algebra.specs.Erasure.{choose}
use Rattle.algebra.specs.Shape.{Field}
use Rattle.algebra.specs.Plain.{plus, minus, Working}
use Rattle.algebra.specs.Layers.{digit, layer_of}
use Rattle.algebra.proofs.Ring.{ring, mul_comm as times-comm}
use Rattle.algebra.proofs.Layers.{layer_digit}
use Rattle.algebra.proofs.Sum.{sum_zero, sum_add_one, sum_congr}
use Rattle.algebra.proofs.Plain.{laws, elem_zero, zero_below, elem_times}
use Rattle.kernel.specs.Inner.{Run, filled, added_multiple}
use Rattle.kernel.proofs.Runs.{run_more}
use Rattle.kernel.proofs.Rows.{row_before, row_other}
use Rattle.layout.specs.declared.Layout.{Layout}
use Rattle.layout.specs.Layout.{digits, layers, groups}
use Rattle.layout.proofs.Facts.{bounds, rack_in}
use Rattle.layout.proofs.Numbers.{whole_low}
use Rattle.card.specs.Card.{multiplier, card_sum}
use Rattle.batch_repair.specs.Inner.{Adding, Layering, lessened, Lessening, sound_row, less_rack, card_row, repaired_at, LayerRepaired, GroupRepaired}

-- a run worked out again
run_again : (F G H : ℕ → ℕ) (was is new : List ℕ) (to len : ℕ) → Run F was is to len → Run G is new to len → ((j : ℕ) → j < len → G j ≡ H j) → Run H was new to len
run_again F G H was is new to len r s same = record {
  long = s.long ∙ r.long;
  done = λ j h. s.done j h ∙ same j h;
  low = λ i h. s.low i h ∙ r.low i h;
  high = λ i h. s.high i h ∙ r.high i h;
}

module _ {A : Type 0} (f : Field A) where
  -- a step of the subtraction
  pub less_more : (was is src : List ℕ) (to from j len p : ℕ) → Run (lessened f was to src from) was is to j → j < len → to + len ≤ length was →
      p ≡ minus f (get_or is (to + j) 0) (get_or src (from + j) 0) → Run (lessened f was to src from) was (set is (to + j) p) to (j + 1)
  unfolding lessened
  less_more was is src to from j len p r h l e =
      run_more (lessened f was to src from) was is to j p r (omega arith) (e ∙ ap (λ (x : ℕ). minus f x (get_or src (from + j) 0)) (r.high (to + j) (omega arith)))

module _ {A : Type 0} {f : Field A} (W : Working f) where
  open f use {ops}
  open f.coding use {elem, val, size}
  open f.ops use {add, mul, neg, zero}

  less_zero : (L : Laws ops) (a : A) → a ≡ add a (neg zero)
  less_zero L a = simp (ring, L)

  less_same : (L : Laws ops) (a s : A) → add a (neg s) ≡ add a (neg (add s zero))
  less_same L a s = simp (ring, L)

  less_next : (L : Laws ops) (a s t : A) → add (add a (neg s)) (neg t) ≡ add a (neg (add s t))
  less_next L a s t = simp (ring, L)

  -- ---- the rack's sound trays
  module _ (was : List ℕ) (to len : ℕ) (host : List ℕ) (from far lost : ℕ) where
    pub rack_none : (u : ℕ) → Lessening f was to len host from far u → Run (less_rack f was to host from far lost 0) was was to len
    unfolding less_rack sound_row
    rack_none u t = record {
      long = refl;
      done = λ j h.
          sym (W.field.coded.val_elem (get_or was (to + j) 0) (t.held j h))
          ∙ ap val (less_zero (laws W) (elem (get_or was (to + j) 0)) ∙ ap (λ y. add (elem (get_or was (to + j) 0)) (neg y)) (sym (sum_zero ops _)));
      low = λ i h. refl;
      high = λ i h. refl;
    }

    pub rack_more : (g at : ℕ) (is new : List ℕ) → at ≡ from + g * far → Run (less_rack f was to host from far lost g) was is to len →
        (g ≡ lost → new ≡ is) × (¬ (g ≡ lost) → Run (lessened f is to host at) is new to len) → Run (less_rack f was to host from far lost (g + 1)) was new to len
    unfolding less_rack sound_row lessened minus choose
    rack_more g at is new e-at r s = go (ℕ_discrete g lost)
      where
        term : (j : ℕ) → A
        term j = choose (eqb g lost) zero (elem (get_or host (from + g * far + j) 0))

        grown : (j : ℕ) (t : A) → term j ≡ t →
            add (sound_row f host from far lost g j) t ≡ sound_row f host from far lost (g + 1) j
        grown j t e = ap (add (sound_row f host from far lost g j)) (sym e) ∙ sym (sum_add_one ops g _)

        go : Dec (g ≡ lost) → Run (less_rack f was to host from far lost (g + 1)) was new to len
        go (yes e) = subst (λ ys. Run (less_rack f was to host from far lost (g + 1)) was ys to len) (sym (s.0 e)) (record {
          long = r.long;
          done = λ j h. r.done j h ∙ ap val (less_same (laws W) (elem (get_or was (to + j) 0)) (sound_row f host from far lost g j)
              ∙ ap (λ y. add (elem (get_or was (to + j) 0)) (neg y)) (grown j zero (ap (λ b. choose b zero (elem (get_or host (from + g * far + j) 0))) (eq-eqb g lost e))));
          low = r.low;
          high = r.high;
        })
        go (no d) = run_again _ _ _ was is new to len r (s.1 d) (λ j h. ap val (
            ap₂ (λ a b. add a (neg (elem (get_or host b 0)))) (ap elem (r.done j h) ∙ W.field.coded.elem_val _) (ap (λ n. n + j) e-at)
            ∙ less_next (laws W) (elem (get_or was (to + j) 0)) (sound_row f host from far lost g j) (elem (get_or host (from + g * far + j) 0))
            ∙ ap (λ y. add (elem (get_or was (to + j) 0)) (neg y)) (grown j _ (ap (λ b. choose b zero (elem (get_or host (from + g * far + j) 0))) (ne_eqb g lost d)))))

    pub rack_end : (g u : ℕ) (is : List ℕ) → Run (less_rack f was to host from far lost g) was is to len → g ≤ u → u ≤ g → Run (less_rack f was to host from far lost u) was is to len
    rack_end g u is r h k = subst (λ n. Run (less_rack f was to host from far lost n) was is to len) (omega arith) r

  -- ---- the sums by multipliers
  module _ (was : List ℕ) (to len : ℕ) (card : List ℕ) (at : ℕ) (shares : List ℕ) (from far : ℕ) where
    pub card_none : (d : ℕ) → Adding was to len card at d shares from far → Run (card_row f card at shares from far 0) was was to len
    unfolding card_row
    card_none d t = record {
      long = refl;
      done = λ j h. t.zeros j h ∙ sym (ap val (sum_zero ops _ ∙ sym (elem_zero W)) ∙ W.field.coded.val_elem 0 (zero_below W));
      low = λ i h. refl;
      high = λ i h. refl;
    }

    pub card_more : (k v start : ℕ) (is new : List ℕ) → v ≡ get_or card (at + k) 0 → start ≡ from + k * far → Run (card_row f card at shares from far k) was is to len →
        Run (added_multiple f is to shares start v) is new to len → Run (card_row f card at shares from far (k + 1)) was new to len
    unfolding card_row added_multiple plus
    card_more k v start is new ev es r s = run_again _ _ _ was is new to len r s (λ j h. ap val (
        ap₂ add (ap elem (r.done j h) ∙ W.field.coded.elem_val _)
        (elem_times W _ _ ∙ times-comm ops (laws W) _ _ ∙ ap₂ (λ a b. mul (elem a) (elem (get_or shares b 0))) ev (ap (λ n. n + j) es))
        ∙ sym (sum_add_one ops k _)))

    pub card_end : (k d : ℕ) (is : List ℕ) → Run (card_row f card at shares from far k) was is to len → k ≤ d → d ≤ k → Run (card_row f card at shares from far d) was is to len
    card_end k d is r h q = subst (λ n. Run (card_row f card at shares from far n) was is to len) (omega arith) r

-- ---- where rows lie
module _ (l : Layout) (many x : ℕ) (card shares host : List ℕ) (p : ℕ) (spare : List ℕ) (t : Layering l many x card shares host p spare) where
  abbrev h : ℕ
  h = x / l.size

  pub host_in : x / l.size < l.racks
  host_in = rack_in l t.wide.adm x t.wide.lost_in

  -- the row of the k-th helper
  share_row : (k : ℕ) → k < l.helpers → (k * groups l + p) * many + many ≤ length shares
  share_row k hk = rw t.wide.shares_long (row_before (k * groups l + p) (l.helpers * groups l) many (cell_in l.helpers (groups l) k p hk t.group_in))

  share_place : (k : ℕ) → p * many + k * (groups l * many) ≡ (k * groups l + p) * many
  share_place k = sym (add-mul (k * groups l) p many ∙ ap (λ y. y + p * many) (mul_assoc k (groups l) many) ∙ add_comm (k * (groups l * many)) (p * many))

  host_row : (g j : ℕ) → g < l.size → j < layers l → (g * layers l + j) * many + many ≤ length host
  host_row g j hg hj = rw t.wide.host_long (row_before (g * layers l + j) (l.size * layers l) many (cell_in l.size (layers l) g j hg hj))

  host_place : (g j : ℕ) → j * many + g * (layers l * many) ≡ (g * layers l + j) * many
  host_place g j = sym (add-mul (g * layers l) j many ∙ ap (λ y. y + j * many) (mul_assoc g (layers l) many) ∙ add_comm (g * (layers l * many)) (j * many))

  spare_row : (j : ℕ) → j < layers l → j * many + many ≤ length spare
  spare_row j hj = rw t.spare_long (row_before j (layers l) many hj)

  -- products that are numbers
  pub groups_in : (n : ℕ) → n ≡ groups l → n * many ≤ length shares
  groups_in n e =
      let b : groups l ≤ l.helpers * groups l = omega (arith, row_before 0 l.helpers (groups l) (helpers_some)) in
      rw (e, t.wide.shares_long) (mul-le-mul_right many b)
    where
      helpers_some : 0 < l.helpers
      helpers_some = omega (arith, t.wide.adm.helpers_low, whole_low l t.wide.adm)

  pub total_in : (n : ℕ) → n ≡ layers l → n * many ≤ length spare
  total_in n e = omega (arith, t.spare_long, ap (λ (y : ℕ). y * many) e)

  pub start_in : p * many ≤ length shares
  start_in = omega (arith, groups_in (groups l) refl, mul-le-mul_right many (le_of_lt t.group_in))

  module _ (j : ℕ) (hj : j < layers l) where
    pub layer_in : j * many ≤ length spare
    layer_in = omega (arith, spare_row j hj)

    pub layer_room : (is : List ℕ) → length is ≡ length spare → j * many + many ≤ length is
    layer_room is e = omega (arith, e, spare_row j hj)

    pub adding : (b far start at : ℕ) (is : List ℕ) → b < digits l → far ≡ groups l * many → start ≡ p * many → at ≡ b * l.helpers → Run (filled 0) spare is (j * many) many →
        Adding is (j * many) many card at l.helpers shares start far
    unfolding filled
    adding b far start at is hb ef es ea r = record {
      room = layer_room is r.long;
      zeros = r.done;
      card_long = omega (arith, t.card_long, ea, row_before b (digits l) l.helpers hb);
      rows = λ k hk. omega (arith, share_row k hk, share_place k, es, ap (λ (y : ℕ). k * y) ef);
    }

    module _ {A : Type 0} {f : Field A} (W : Working f) (b far start at : ℕ) (zeros sums : List ℕ) (ej : j ≡ layer_of (digits l) (x / l.size) p b) (ef : far ≡ groups l * many)
        (es : start ≡ p * many) (ea : at ≡ b * l.helpers)
        (z : Run (filled 0) spare zeros (j * many) many) (r : Run (card_row f card at shares start far l.helpers) zeros sums (j * many) many) where
      open f use {ops}
      open f.coding use {elem, val, size}

      pub lessening : (total : ℕ) → total ≡ layers l * many → Lessening f sums (j * many) many host (j * many) total l.size
      unfolding card_row
      lessening total et = record {
        room = layer_room sums (r.long ∙ z.long);
        held = λ q hq. subst (λ n. n < size) (sym (r.done q hq)) (W.field.coded.val_below _);
        rows = λ g hg. omega (arith, host_row g j hg hj, host_place g j, ap (λ (y : ℕ). g * y) et);
      }

      sum_is : (q : ℕ) → q < many → elem (get_or sums (j * many + q) 0) ≡ card_sum f l card (λ k. elem (get_or shares ((k * groups l + p) * many + q) 0)) b
      unfolding card_row card_sum multiplier
      sum_is q hq =
          ap elem (r.done q hq) ∙ W.field.coded.elem_val _
          ∙ sum_congr ops l.helpers _ _ (λ k hk. ap₂ (λ a c. ops.mul (elem (get_or card (a + k) 0)) (elem (get_or shares (c + q) 0))) ea
          (ap₂ (λ y w. y + k * w) es ef ∙ share_place k))

      sound_is : (total : ℕ) → total ≡ layers l * many → (q : ℕ) → sound_row f host (j * many) total (x % l.size) l.size q ≡
          sum ops l.size (λ g. choose (eqb g (x % l.size)) ops.zero (elem (get_or host ((g * layers l + layer_of (digits l) (x / l.size) p b) * many + q) 0)))
      unfolding sound_row
      sound_is total et q = sum_congr ops l.size _ _ (λ g hg. ap (λ n. choose (eqb g (x % l.size)) ops.zero (elem (get_or host (n + q) 0)))
          (ap (λ y. j * many + g * y) et ∙ host_place g j ∙ ap (λ y. (g * layers l + y) * many) ej))

      pub layer_repaired : (total : ℕ) (new : List ℕ) → total ≡ layers l * many → Run (less_rack f sums (j * many) host (j * many) total (x % l.size) l.size) sums new (j * many) many →
          LayerRepaired f l many x card shares host p b spare new
      unfolding less_rack repaired_at
      layer_repaired total new et s = record {
        long = s.long ∙ r.long ∙ z.long;
        done = λ q hq.
            ap (λ y. get_or new (y * many + q) 0) (sym ej) ∙ s.done q hq
            ∙ ap₂ (λ a c. val (ops.add a (ops.neg c))) (sum_is q hq) (sound_is total et q);
        other = λ i q hq d.
            let n : ¬ (i ≡ j) = λ e. d (e ∙ ej) in
            row_other _ sums new j many s i q hq n ∙ row_other _ zeros sums j many r i q hq n ∙ row_other _ spare zeros j many z i q hq n;
      }

-- ---- layer after layer
module _ {A : Type 0} (f : Field A) (l : Layout) (many x : ℕ) (card shares host : List ℕ) (p : ℕ) where
  pub group_none : (was : List ℕ) → GroupRepaired f l many x card shares host p 0 was was
  group_none was = record { long = refl; done = λ b q hb. absurd (omega arith); other = λ j q hq d. refl }

  pub group_more : (b : ℕ) (was is new : List ℕ) → ((c : ℕ) → c < b → ¬ (layer_of (digits l) (x / l.size) p c ≡ layer_of (digits l) (x / l.size) p b)) →
      GroupRepaired f l many x card shares host p b was is → LayerRepaired f l many x card shares host p b is new → GroupRepaired f l many x card shares host p (b + 1) was new
  group_more b was is new apart g r = record {
    long = r.long ∙ g.long;
    done = λ c q hc hq. go c q hq hc (ℕ_discrete c b);
    other = λ j q hq d. r.other j q hq (d b (omega arith)) ∙ g.other j q hq (λ c hc. d c (omega arith));
  }
    where
      go : (c q : ℕ) → q < many → c < b + 1 → Dec (c ≡ b) → get_or new (layer_of (digits l) (x / l.size) p c * many + q) 0 ≡ repaired_at f l many x card shares host p c q
      go c q hq hc (yes e) =
          subst (λ n. get_or new (layer_of (digits l) (x / l.size) p n * many + q) 0 ≡ repaired_at f l many x card shares host p n q) (sym e) (r.done q hq)
      go c q hq hc (no d) =
          let k : c < b = omega arith in
          r.other (layer_of (digits l) (x / l.size) p c) q hq (apart c k) ∙ g.done c q k hq

  pub group_end : (b s : ℕ) (was is : List ℕ) → s ≡ digits l → GroupRepaired f l many x card shares host p b was is → b ≤ s → s ≤ b →
      GroupRepaired f l many x card shares host p (digits l) was is
  group_end b s was is e g h k = let z : b ≡ digits l = omega arith in subst (λ n. GroupRepaired f l many x card shares host p n was is) z g

-- the layers of a group differ
pub layers_apart : (l : Layout) (many x : ℕ) (card shares host : List ℕ) (p : ℕ) (spare : List ℕ) → Layering l many x card shares host p spare → (b : ℕ) → b < digits l →
    (c : ℕ) → c < b → ¬ (layer_of (digits l) (x / l.size) p c ≡ layer_of (digits l) (x / l.size) p b)
layers_apart l many x card shares host p spare t b hb c hc e =
    let some = (bounds l t.wide.adm).digits_low in
    let z : c ≡ b = sym (layer_digit (digits l) some (x / l.size) p c (omega arith)) ∙ ap (λ j. digit (digits l) j (x / l.size)) e ∙ layer_digit (digits l) some (x / l.size) p b hb in
    omega arith

pub layering_next : (l : Layout) (many x : ℕ) (card shares host : List ℕ) (p : ℕ) (spare is : List ℕ) → Layering l many x card shares host p spare → length is ≡ length spare →
    Layering l many x card shares host p is
layering_next l many x card shares host p spare is t e = record { wide = t.wide; card_long = t.card_long; spare_long = e ∙ t.spare_long; group_in = t.group_in }
