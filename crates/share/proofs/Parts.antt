-- The parts of a rack's trays: each as its loop works it out, and all together the rack's shares.
-- Assumes nothing.
use mathlib.Core.Path.{◌≡◌, refl, sym, ap, ap₂, ◌∙◌, subst}
use mathlib.Core.Bool.{Bool, true, false}
use mathlib.Core.List.{List}
use Prim.Native.Nat.{ℕ, ◌+◌, ◌-◌, ◌*◌, ◌/◌, ◌%◌, ◌<◌, ◌≤◌}
use native.Mathlib.Nat.{one-mul, zero-add, add-zero, add-mul, add_assoc as plus_assoc, mul-le-mul_right}
use native.Mathlib.Decide.{dec_lt}
use native.Mathlib.Omega.{arith}
use lib.Arith.{digits_div, digits_mod}
use lib.Dec.{eqb}
use lib.ListN.{length, get_or, replicate, get_or-replicate, take, drop}
use lib.Seq.{take_all}
use Rattle.lists.specs.Lists.{table}
use Rattle.lists.proofs.Tables.{table_at, table_length, table_same, is_table}
use Rattle.algebra.specs.Field.{Ops, Laws}
use Rattle.algebra.specs.Sum.{sum, pow}
use Rattle.algebra.specs.Erasure.{choose}
use Rattle.algebra.specs.Shape.{Field, FieldLaws}
use Rattle.algebra.specs.Points.{place}
use Rattle.algebra.specs.Layers.{group_of}
use Rattle.algebra.specs.Cabinet.{group_sum}
use Rattle.algebra.proofs.Ring.{mul_zero, mul_comm as times-comm, one_mul as one-times, zero_add as zero-plus, add_zero as plus-zero, add_assoc as plus-add}
use Rattle.algebra.proofs.Pow.{pow_zero}
use Rattle.algebra.proofs.Sum.{sum_congr, sum_swap, sum_split, sum_zeros, sum_add_one, sum_zero, sum_mul_left}
use Rattle.algebra.specs.Coding.{InRange}
use Rattle.algebra.specs.Plain.{Working}
use Rattle.algebra.proofs.Plain.{laws, elem_zero, zero_below, elem_plus, elem_times, plus_below}
use Rattle.kernel.specs.Inner.{Run, filled, added_multiple}
use Rattle.kernel.proofs.Rows.{row_before, row_end}
use Rattle.layout.specs.declared.Layout.{Layout}
use Rattle.layout.specs.Layout.{digits, layers, groups}
use Rattle.codeword.specs.Codeword.{shape_of, symbol_at}
use Rattle.rule.specs.Rule.{tray_part, weighted_sum, share_symbol}
use Rattle.rule.proofs.Racks.{tray_at}
use Rattle.share.specs.Share.{part_symbol}
use Rattle.share.specs.Many.{shares_of, part_at, fed_many}
use Rattle.share.specs.Inner.{cut, sum_at, Summing, Summed, Weighing, Added, parts_at, Feeding, Rested, fed_trays, Gathering}

choose_sum : {A : Type 0} (o : Ops A) → Laws o → (n : ℕ) (b : Bool) (t : ℕ → A) → sum o n (λ g. choose b (t g) o.zero) ≡ choose b (sum o n t) o.zero
unfolding choose
choose_sum o L n true t = refl
choose_sum o L n false t = sum_zeros o L n

choose_mul : {A : Type 0} (o : Ops A) → Laws o → (b : Bool) (w a : A) → o.mul w (choose b a o.zero) ≡ choose b (o.mul w a) o.zero
unfolding choose
choose_mul o L true w a = refl
choose_mul o L false w a = mul_zero o L w

module _ {A : Type 0} (f : Field A) (laws : FieldLaws f) (l : Layout) where
  open f use {ops as o}
  open f.ops use {add, mul, zero}

  -- a tray's part of weight m is its place's power times its sum
  pub part_is : (m h x : ℕ) (symbols : List ℕ) (p : ℕ) →
      mul (pow o (place (shape_of f l) (x % l.size)) m) (group_sum (shape_of f l) h p (λ j. f.coding.elem (get_or symbols j 0))) ≡ part_symbol f l m h x symbols p
  unfolding part_symbol group_sum
  part_is m h x symbols p =
      sym (sum_mul_left o laws.laws (layers l) _ _)
      ∙ sum_congr o (layers l) _ _ (λ j k. choose_mul o laws.laws (eqb (group_of (digits l) h j) p) _ _)

  -- the parts of a rack's trays make its share of weight m, and so its shares
  parts_make : (m h i : ℕ) (rack : List ℕ) (p : ℕ) → sum o l.size (λ g. part_symbol f l m h (i * l.size + g) (tray_part l rack g) p) ≡ share_symbol f l m h rack p
  unfolding part_symbol share_symbol group_sum weighted_sum symbol_at
  parts_make m h i rack p =
      sum_swap o laws.laws l.size (layers l) _
      ∙ sum_congr o (layers l) _ _ (λ j hj.
      choose_sum o laws.laws l.size (eqb (group_of (digits l) h j) p) _
      ∙ ap (λ y. choose (eqb (group_of (digits l) h j) p) y zero)
      (sum_congr o l.size _ _ (λ g hg. ap₂ (λ a b. mul (pow o (place (shape_of f l) a) m) (f.coding.elem b)) (digits_mod i hg) (tray_at l rack g j hj))))

  pub all_parts : (h i : ℕ) (rack : List ℕ) (n : ℕ) →
      sum o l.size (λ g. part_at f l h (i * l.size + g) (tray_part l rack g) n) ≡ share_symbol f l (n / groups l) h rack (n % groups l)
  unfolding part_at
  all_parts h i rack n = parts_make (n / groups l) h i rack (n % groups l)

  module _ (e h i : ℕ) (rack : List ℕ) where
    -- shares of which the parts of so many trays have been fed
    unfoldable pub partly : ℕ → List ℕ
    partly n = table (λ q. f.coding.val (sum o n (λ g. part_at f l h (i * l.size + g) (tray_part l rack g) q))) (e * groups l)

    pub partly_long : (n : ℕ) → length (partly n) ≡ e * groups l
    unfolding partly
    partly_long n = table_length _ (e * groups l)

    -- a tray of the rack
    cut_tray : (n k at : ℕ) → at ≡ n * layers l → cut l rack (at + k * layers l) ≡ tray_part l rack (n + k)
    unfolding cut tray_part
    cut_tray n k at e-at = ap (λ z. take (layers l) (drop z rack)) (ap (λ z. z + k * layers l) e-at ∙ sym (add-mul n k (layers l)))

    pub partly_more : (n m at : ℕ) → at ≡ n * layers l → fed_trays f l e h (i * l.size + n) rack at m (partly n) ≡ partly (n + m)
    unfolding partly fed_trays parts_at
    partly_more n m at e-at = table_same _ _ (e * groups l) (λ q k.
        ap f.coding.val (ap₂ add (ap f.coding.elem (table_at _ (e * groups l) q k) ∙ laws.coded.elem_val _)
        (sum_congr o m _ _ (λ g b. ap₂ (λ x y. part_at f l h x y q) (plus_assoc (i * l.size) n g) (cut_tray n g at e-at)))
        ∙ sym (sum_split o laws.laws n m (λ g. part_at f l h (i * l.size + g) (tray_part l rack g) q))))

    pub partly_range : (n : ℕ) → InRange f.coding (partly n)
    unfolding partly
    partly_range n = record {
      at = λ q k. rw (table_at (λ q. f.coding.val (sum o n (λ g. part_at f l h (i * l.size + g) (tray_part l rack g) q))) (e * groups l) q
          (rw (partly_long n) at k)) (laws.coded.val_below _);
    }

    pub partly_all : (n : ℕ) → n ≡ l.size → partly n ≡ shares_of f l e h rack
    unfolding partly shares_of
    partly_all n same = table_same _ _ (e * groups l) (λ q k.
        ap f.coding.val (ap (λ m. sum o m (λ g. part_at f l h (i * l.size + g) (tray_part l rack g) q)) same ∙ all_parts h i rack q))

-- the share of weight m lies in the shares
pub weight_in : (l : Layout) (e m to total : ℕ) (sums was is : List ℕ) → Weighing l e sums was → total ≡ groups l → to ≡ m * total + 0 → m < e → length is ≡ length was → to + total ≤ length is
weight_in l e m to total sums was is t e-total e-to h same = rw (same ∙ t.room, e-to, e-total, add-zero (m * groups l)) (row_before m e (groups l) h)

-- what is told of the two steps
module _ {A : Type 0} (f : Field A) (l : Layout) (e h : ℕ) (symbols : List ℕ) (at m : ℕ) (shares : List ℕ) (p : Feeding f l e h symbols at m shares) where
  pub summing_of : Summing f l h symbols at m shares
  summing_of =
      let b : groups l ≤ length shares = omega (arith, p.room, row_before 0 e (groups l) p.some) in
      record { adm = p.adm; long = p.long; room = b; host_in = p.host_in; some_trays = p.some_trays; at_once = p.at_once; given = p.given; held = λ n k. p.held.at n (omega arith) }

  pub feeding_next : (shares' : List ℕ) → Summed f l h symbols at m shares shares' → Feeding f l e h symbols at m shares'
  feeding_next shares' d = record {
    adm = p.adm;
    long = p.long;
    room = d.same ∙ p.room;
    host_in = p.host_in;
    some = p.some;
    few = p.few;
    some_trays = p.some_trays;
    at_once = p.at_once;
    given = p.given;
    held = record { at = λ n k. go n k (dec_lt n (groups l)) };
  }
    where
      go : (n : ℕ) → n < length shares' → Dec (n < groups l) → get_or shares' n 0 < f.coding.size
      go n k (yes b) = d.small n b
      go n k (no b) = rw (d.rest n (omega arith)) (p.held.at n (rw d.same at k))

  -- one of the trays, where the shares are still symbols
  pub feeding_one : (k from : ℕ) (is : List ℕ) → k < m → from ≡ at + k * layers l → length is ≡ length shares → InRange f.coding is → Feeding f l e h symbols from 1 is
  feeding_one k from is b e-from e-long range = record {
    adm = p.adm;
    long = omega (arith, p.long, row_before k m (layers l) b);
    room = e-long ∙ p.room;
    host_in = p.host_in;
    some = p.some;
    few = p.few;
    some_trays = omega arith;
    at_once = omega arith;
    given = p.given;
    held = range;
  }

module _ {A : Type 0} {f : Field A} (W : Working f) where
  open f use {ops}
  open f.coding use {elem, val, size}

  -- a cleared buffer
  pub partly_none : (l : Layout) (e h i : ℕ) (rack : List ℕ) (n : ℕ) (was is : List ℕ) → length was ≡ e * groups l → n ≡ length was → Run (filled 0) was is 0 n →
      is ≡ partly f W.field l e h i rack 0
  unfolding partly filled
  partly_none l e h i rack n was is long en r = is_table is _ (e * groups l) (r.long ∙ long) (λ p k.
      ap (λ q. get_or is q 0) (sym (zero-add p)) ∙ r.done p (omega arith)
      ∙ sym (ap val (sum_zero ops _ ∙ sym (elem_zero W)) ∙ W.field.coded.val_elem 0 (zero_below W)))

  -- a turn of the loop that feeds the trays of a rack: m trays' parts more are in the shares
  pub gather_turn : (l : Layout) (e h helper : ℕ) (rack : List ℕ) (g m from x : ℕ) (out out' : List ℕ) → from ≡ g * layers l + 0 → x ≡ helper * l.size + g →
      out ≡ partly f W.field l e h helper rack g → out' ≡ fed_trays f l e h x rack from m out → out' ≡ partly f W.field l e h helper rack (g + m)
  gather_turn l e h helper rack g m from x out out' e-from e-x e-out q =
      q ∙ ap₂ (λ y z. fed_trays f l e h y rack from m z) e-x e-out ∙ partly_more f W.field l e h helper rack g m from (e-from ∙ add-zero (g * layers l))

  -- what is lent in that turn
  pub gather_told : (l : Layout) (e h helper : ℕ) (rack room : List ℕ) → Gathering f l e h helper rack room → (g m from : ℕ) (out : List ℕ) → g + m ≤ l.size → 0 < m → m ≤ 4 →
      from ≡ g * layers l + 0 → out ≡ partly f W.field l e h helper rack g → Feeding f l e h rack from m out
  gather_told l e h helper rack room s g m from out b pos four e-from e-out =
      record {
        adm = s.adm;
        long = let t : (g + m) * layers l ≤ l.size * layers l = mul-le-mul_right (layers l) b in omega (arith, s.long, add-mul g m (layers l));
        room = ap length e-out ∙ partly_long f W.field l e h helper rack g;
        host_in = s.host_in;
        some = s.some;
        few = omega (arith, s.few);
        some_trays = pos;
        at_once = four;
        given = s.given;
        held = subst (InRange f.coding) (sym e-out) (partly_range f W.field l e h helper rack g);
      }

  -- number p of tray x's part of weight m, from the sum
  part_from : (l : Layout) (h x m p : ℕ) (symbols : List ℕ) → p < groups l →
      ops.mul (pow ops (place (shape_of f l) (x % l.size)) m) (sum_at f l h symbols p) ≡ part_at f l h x symbols (m * groups l + p)
  unfolding part_at
  part_from l h x m p symbols hp =
      part_is f W.field l m h x symbols p ∙ ap₂ (λ y z. part_symbol f l y h x symbols z) (sym (digits_div m hp)) (sym (digits_mod m hp))

  -- the sums are the part of weight 0
  part_zero : (l : Layout) (h x : ℕ) (symbols : List ℕ) (n : ℕ) → n < groups l → sum_at f l h symbols n ≡ part_at f l h x symbols n
  part_zero l h x symbols n k =
      sym (ap (λ w. ops.mul w (sum_at f l h symbols n)) (pow_zero ops _) ∙ one-times ops (laws W) (sum_at f l h symbols n))
      ∙ part_from l h x 0 n symbols k ∙ ap (part_at f l h x symbols) (omega arith)

  -- the loop over the other weights
  pub added_none : (l : Layout) (h x : ℕ) (symbols was : List ℕ) → Added f l h x symbols was was 1
  added_none l h x symbols was = record {
    same = refl;
    first = λ n k. refl;
    low = λ n k b. absurd (omega (arith, one-mul (groups l)));
    small = λ n k b. absurd (omega (arith, one-mul (groups l)));
    high = λ n k. refl;
  }

  pub added_more : (l : Layout) (h x m to total w : ℕ) (symbols held sums shares shares' : List ℕ) → 1 ≤ m → total ≡ groups l → to ≡ m * total + 0 →
      elem w ≡ pow ops (place (shape_of f l) (x % l.size)) m → ((p : ℕ) → p < groups l → elem (get_or sums p 0) ≡ sum_at f l h symbols p) →
      Run (added_multiple f shares to sums 0 w) shares shares' to total → Added f l h x symbols held shares m → Added f l h x symbols held shares' (m + 1)
  unfolding added_multiple
  added_more l h x m to total w symbols held sums shares shares' pos e-total e-to e-w e-sums r u =
      record {
        same = r.long ∙ u.same;
        first = λ n k. r.low n (omega (arith, place, row_before 0 m (groups l) pos)) ∙ u.first n k;
        low = λ n a k. go n a k (dec_lt n (m * groups l));
        small = λ n a k. below n a k (dec_lt n (m * groups l));
        high = λ n k. r.high n (omega (arith, row_end m (groups l), place, e-total)) ∙ u.high n (omega (arith, row_end m (groups l)));
      }
    where
      place : to ≡ m * groups l
      place = e-to ∙ ap (λ n. m * n + 0) e-total ∙ add-zero (m * groups l)

      new : (p : ℕ) → p < groups l → elem (get_or shares' (m * groups l + p) 0) ≡ ops.add (elem (get_or held (m * groups l + p) 0)) (part_at f l h x symbols (m * groups l + p))
      new p k =
          ap elem (ap (λ n. get_or shares' (n + p) 0) (sym place) ∙ r.done p (rw e-total k))
          ∙ elem_plus W _ _
          ∙ ap₂ ops.add (ap elem (ap (λ n. get_or shares (n + p) 0) place ∙ u.high (m * groups l + p) (omega arith)))
          (elem_times W (get_or sums (0 + p) 0) w ∙ times-comm ops (laws W) _ _ ∙ ap₂ ops.mul e-w (ap (λ n. elem (get_or sums n 0)) (zero-add p) ∙ e-sums p k) ∙ part_from l h x m p symbols k)

      below : (n : ℕ) → groups l ≤ n → n < (m + 1) * groups l → Dec (n < m * groups l) → get_or shares' n 0 < size
      below n a k (yes b) = rw (r.low n (omega (arith, place))) (u.small n a b)
      below n a k (no b) =
          let e : to + (n - m * groups l) ≡ n = omega (arith, place) in
          subst (λ i. get_or shares' i 0 < size) e (rw (r.done (n - m * groups l) (rw e-total (omega (arith, row_end m (groups l))))) (plus_below W _ _))

      go : (n : ℕ) → groups l ≤ n → n < (m + 1) * groups l → Dec (n < m * groups l) → elem (get_or shares' n 0) ≡ ops.add (elem (get_or held n 0)) (part_at f l h x symbols n)
      go n a k (yes b) = ap elem (r.low n (omega (arith, place))) ∙ u.low n a b
      go n a k (no b) =
          let e : m * groups l + (n - m * groups l) ≡ n = omega arith in
          subst (λ i. elem (get_or shares' i 0) ≡ ops.add (elem (get_or held i 0)) (part_at f l h x symbols i)) e
          (new (n - m * groups l) (omega (arith, row_end m (groups l))))

  pub added_end : (l : Layout) (h x m e : ℕ) (symbols held shares : List ℕ) → Added f l h x symbols held shares m → m ≤ e → e ≤ m → Added f l h x symbols held shares e
  added_end l h x m e symbols held shares u k b = subst (λ n. Added f l h x symbols held shares n) (omega arith) u

  -- a sum of one term
  one_term : (t : ℕ → A) → sum ops 1 t ≡ t 0
  one_term t = sum_add_one ops 0 t ∙ ap (λ y. ops.add y (t 0)) (sum_zero ops t) ∙ zero-plus ops (laws W) (t 0)

  -- sums added to zeros
  pub sums_only : (l : Layout) (h n : ℕ) (symbols : List ℕ) (at : ℕ) (sums : List ℕ) → groups l ≤ n → Summed f l h symbols at 1 (replicate n 0) sums → (p : ℕ) → p < groups l →
      elem (get_or sums p 0) ≡ sum_at f l h (cut l symbols at) p
  sums_only l h n symbols at sums room d p k =
      d.done p k ∙ ap₂ ops.add (ap elem (get_or-replicate n p 0 0 (omega arith)) ∙ elem_zero W)
      (one_term (λ g. sum_at f l h (cut l symbols (at + g * layers l)) p) ∙ ap (λ z. sum_at f l h (cut l symbols z) p) (omega arith))
      ∙ zero-plus ops (laws W) (sum_at f l h (cut l symbols at) p)

  pub zeros_held : (l : Layout) (n : ℕ) → groups l ≤ n → (p : ℕ) → p < groups l → get_or (replicate n 0) p 0 < size
  zeros_held l n room p k = let z : ℕ = 0 in rw (get_or-replicate n p z z (omega arith)) (zero_below W)

  -- the parts of the other weights, tray after tray
  module _ (l : Layout) (e h x : ℕ) (symbols : List ℕ) (at : ℕ) (was : List ℕ) where
    pub rested_none : InRange f.coding was → Rested f l e h x symbols at 0 was was
    unfolding parts_at
    rested_none range = record {
      same = refl;
      range = range;
      first = λ n k. refl;
      later = λ n k b. sym (ap (ops.add (elem (get_or was n 0))) (sum_zero ops _) ∙ plus-zero ops (laws W) (elem (get_or was n 0)));
    }

    pub rested_more : (k from y : ℕ) (is new : List ℕ) → length was ≡ e * groups l → from ≡ at + k * layers l → y ≡ x + k → Rested f l e h x symbols at k was is →
        Added f l h y (cut l symbols from) is new e → Rested f l e h x symbols at (k + 1) was new
    unfolding parts_at
    rested_more k from y is new room e-from e-y d r = record {
      same = r.same ∙ d.same;
      range = record { at = λ n b. go n b (dec_lt n (groups l)) };
      first = λ n b. r.first n b ∙ d.first n b;
      later = λ n a b.
          r.low n a b
          ∙ ap₂ ops.add (d.later n a b) (ap₂ (λ v z. part_at f l h v (cut l symbols z) n) e-y e-from)
          ∙ plus-add ops (laws W) _ _ _
          ∙ ap (ops.add (elem (get_or was n 0))) (sym (sum_add_one ops k (λ i. part_at f l h (x + i) (cut l symbols (at + i * layers l)) n)));
    }
      where
        go : (n : ℕ) → n < length new → Dec (n < groups l) → get_or new n 0 < size
        go n b (yes c) = rw (r.first n c) (d.range.at n (rw r.same at b))
        go n b (no c) = r.small n (omega arith) (rw (sym (r.same ∙ d.same ∙ room)) b)

    pub rested_end : (k m : ℕ) (is : List ℕ) → Rested f l e h x symbols at k was is → k ≤ m → m ≤ k → Rested f l e h x symbols at m was is
    rested_end k m is d b c = subst (λ n. Rested f l e h x symbols at n was is) (omega arith) d

    -- the trays fed: their sums added, then their parts of the other weights
    module _ (m : ℕ) (room : length was ≡ e * groups l) (mid : List ℕ) (d : Summed f l h symbols at m was mid) where
      first_part : (n : ℕ) → n < groups l → elem (get_or mid n 0) ≡ ops.add (elem (get_or was n 0)) (parts_at f l h x symbols at m n)
      unfolding parts_at
      first_part n k = d.done n k ∙ ap (ops.add (elem (get_or was n 0))) (sum_congr ops m _ _ (λ g b. part_zero l h (x + g) (cut l symbols (at + g * layers l)) n k))

      -- one share has no other weights
      pub fed_one : 0 < e → e < 2 → mid ≡ fed_trays f l e h x symbols at m was
      unfolding fed_trays
      fed_one p q = is_table mid _ (e * groups l) (d.same ∙ room) (λ n k.
          let one : e ≡ 1 = omega arith in
          let b : n < groups l = omega (arith, one-mul (groups l), rw one at k) in
          sym (W.field.coded.val_elem (get_or mid n 0) (d.small n b)) ∙ ap val (first_part n b))

      pub fed_more : (is : List ℕ) → Rested f l e h x symbols at m mid is → is ≡ fed_trays f l e h x symbols at m was
      unfolding fed_trays
      fed_more is r = is_table is _ (e * groups l) (r.same ∙ d.same ∙ room)
          (λ n k. sym (W.field.coded.val_elem (get_or is n 0) (r.range.at n (rw (r.same ∙ d.same ∙ room) k))) ∙ ap val (go n k (dec_lt n (groups l))))
        where
          go : (n : ℕ) → n < e * groups l → Dec (n < groups l) → elem (get_or is n 0) ≡ ops.add (elem (get_or was n 0)) (parts_at f l h x symbols at m n)
          go n k (yes b) = ap elem (r.first n b) ∙ first_part n b
          go n k (no b) = r.later n (omega arith) k ∙ ap (λ (v : ℕ). ops.add (elem v) (parts_at f l h x symbols at m n)) (d.rest n (omega arith))

  -- one tray fed
  cut_all : (l : Layout) (symbols : List ℕ) (z : ℕ) → z ≡ 0 → length symbols ≡ layers l → cut l symbols z ≡ symbols
  unfolding cut
  cut_all l symbols z e long = ap (λ y. take (layers l) (drop y symbols)) e ∙ take_all (layers l) symbols (omega arith)

  pub fed_alone : (l : Layout) (e h x : ℕ) (symbols held : List ℕ) → length symbols ≡ layers l → fed_trays f l e h x symbols 0 1 held ≡ fed_many f l e h x symbols held
  unfolding fed_trays parts_at fed_many
  fed_alone l e h x symbols held long = table_same _ _ (e * groups l) (λ n k. ap (λ y. val (ops.add (elem (get_or held n 0)) y))
      (one_term (λ k. part_at f l h (x + k) (cut l symbols (0 + k * layers l)) n) ∙ ap₂ (λ y z. part_at f l h y z n) (add-zero x) (cut_all l symbols (0 + 0 * layers l) (omega arith) long)))
