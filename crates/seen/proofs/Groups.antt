-- The test of a tray's groups: by runs, and as facts about each of its numbers.
-- Assumes nothing.
use mathlib.Core.Path.{◌≡◌, refl, sym, ap, ◌∙◌, subst}
use mathlib.Core.Bool.{Bool, true, false, not, false≢true}
use mathlib.Core.List.{List}
use Prim.Native.Nat.{ℕ, ◌+◌, ◌-◌, ◌*◌, ◌/◌, ◌%◌, ◌<◌, ◌≤◌}
use native.Mathlib.Nat.{mod-lt, mod-le}
use native.Mathlib.Decide.{dec_lt}
use native.Mathlib.Omega.{arith}
use lib.Dec.{ltb}
use lib.ListN.{get_or}
use borrow.Author.Tests.{lt-ltb, ltb-true}
use Rattle.lists.specs.Lists.{all}
use Rattle.lists.proofs.Bools.{told_false, told_true, not_true_false, all_true, all_holds}
use Rattle.algebra.specs.Shape.{Field}
use Rattle.range.specs.Range.{symbols_from}
use Rattle.range.proofs.Symbols.{symbols_true, symbols_all}
use Rattle.seen.specs.Inner.{block_layer, group_symbols}
use Rattle.seen.proofs.Runs.{block_layer_lem, layer_below, layer_above, layer_is, group, group_below, group_above, next_multiple, last_multiple, multiples_ordered}

-- two tests that hold together
pub same_test : (x y : Bool) → (x ≡ true → y ≡ true) → (y ≡ true → x ≡ true) → x ≡ y
same_test true y a b = sym (a refl)
same_test false true a b = b refl
same_test false false a b = refl

module _ {A : Type 0} (f : Field A) (host : List ℕ) (at s unit : ℕ) where
  abbrev Seen : ℕ → ℕ → Type 0
  Seen p a = get_or host (at + block_layer s unit p a) 0 < f.coding.size

  pub groups_all : (p w : ℕ) → group_symbols f host at s unit p w ≡ true → (q a : ℕ) → p ≤ q → q < p + w → a < s → Seen q a
  unfolding group_symbols
  groups_all p w t q a x y z =
      let e : p + (q - p) ≡ q = omega arith in
      subst (λ n. Seen n a) e (ltb-true _ _ (all_holds (λ a. ltb (get_or host (at + block_layer s unit (p + (q - p)) a) 0) f.coding.size) s
      (all_holds (λ k. all (λ a. ltb (get_or host (at + block_layer s unit (p + k) a) 0) f.coding.size) s) w t (q - p) (omega arith)) a z))

  pub groups_true : (p w : ℕ) → ((q a : ℕ) → p ≤ q → q < p + w → a < s → Seen q a) → group_symbols f host at s unit p w ≡ true
  unfolding group_symbols
  groups_true p w g = all_true _ w (λ k h. all_true _ s (λ a i. lt-ltb _ _ (g (p + k) a (omega arith) (omega arith) i)))

  pub groups_none : (p w : ℕ) → w ≡ 0 → true ≡ group_symbols f host at s unit p w
  groups_none p w e = sym (groups_true p w (λ q a x y z. absurd (omega arith)))

  -- ---- groups of one block, by digits
  module _ (p w : ℕ) (some : 0 < unit) (block : p % unit + w ≤ unit) where
    abbrev start : ℕ → ℕ
    start a = at + (p / unit * s + a) * unit + p % unit

    place : (a k : ℕ) → k < w → at + block_layer s unit (p + k) a ≡ start a + k
    place a k h = ap (λ x. at + x) (block_layer_lem s unit some p w k a block h) ∙ sums at ((p / unit * s + a) * unit) (p % unit) k
      where
        sums : (x y z k : ℕ) → x + (y + z + k) ≡ x + y + z + k
        sums x y z k = omega arith

    run_true : (a : ℕ) → a < s → group_symbols f host at s unit p w ≡ true → symbols_from f host (start a) w ≡ true
    run_true a h t = sym (symbols_true f host (start a) w (λ k hk. subst (λ n. get_or host n 0 < f.coding.size) (place a k hk) (groups_all p w t (p + k) a (omega arith) (omega arith) h)))

    pub part_false : (a : ℕ) (b : Bool) → a < s → b ≡ symbols_from f host (start a) w → not b ≡ true → false ≡ group_symbols f host at s unit p w
    part_false a b h e n = not_true_false _ (λ t. false≢true (sym (told_false e n) ∙ run_true a h t))

    pub part_true : (a : ℕ) → s ≤ a → ((i : ℕ) → i < a → symbols_from f host (start i) w ≡ true) → true ≡ group_symbols f host at s unit p w
    part_true a h g = sym (groups_true p w (λ q i x y z.
        let e : p + (q - p) ≡ q = omega arith in
        subst (λ n. Seen n i) e (subst (λ n. get_or host n 0 < f.coding.size) (sym (place i (q - p) (omega arith))) (symbols_all f host (start i) w (g i (omega arith)) (q - p) (omega arith)))))

  -- ---- whole blocks, from a multiple of the unit to another, as one run
  module _ (from to : ℕ) (some : 0 < unit) (many : 0 < s) (e : from % unit ≡ 0) (d : to % unit ≡ 0) where
    whole_true : ((q a : ℕ) → from ≤ q → q < to → a < s → Seen q a) → symbols_from f host (at + from * s) (to * s - from * s) ≡ true
    whole_true g = sym (symbols_true f host (at + from * s) (to * s - from * s) (λ k h.
        let j = from * s + k in
        let z : at + j ≡ at + from * s + k = omega arith in
        subst (λ n. get_or host n 0 < f.coding.size) (ap (λ x. at + x) (layer_is s unit some many j) ∙ z)
        (g (group s unit some many j) (j / unit % s) (group_above s unit some many j from e (omega arith)) (group_below s unit some many j to d (omega arith)) (mod-lt (j / unit) many))))

    whole_all : symbols_from f host (at + from * s) (to * s - from * s) ≡ true → (q a : ℕ) → from ≤ q → q < to → a < s → Seen q a
    whole_all t q a x y z =
        let low = layer_above s unit some from e q a x in
        let high = layer_below s unit some to d q a y z in
        let k : at + from * s + (block_layer s unit q a - from * s) ≡ at + block_layer s unit q a = omega arith in
        subst (λ n. get_or host n 0 < f.coding.size) k (symbols_all f host (at + from * s) (to * s - from * s) t (block_layer s unit q a - from * s) (omega arith))

  -- ---- any groups, where they go beyond a block
  module _ (first count : ℕ) (some : 0 < unit) (many : 0 < s) (beyond : unit < first % unit + count) where
    abbrev head : ℕ
    head = unit - first % unit

    abbrev next : ℕ
    next = first + head

    abbrev rest : ℕ
    rest = (first + count) % unit

    abbrev last : ℕ
    last = first + count - rest

    next_is : next % unit ≡ 0
    next_is = next_multiple first unit some

    last_is : last % unit ≡ 0
    last_is = last_multiple (first + count) unit

    ordered : next ≤ last
    ordered = multiples_ordered first count unit some beyond

    inner : group_symbols f host at s unit first count ≡ true → (p w : ℕ) → first ≤ p → p + w ≤ first + count → group_symbols f host at s unit p w ≡ true
    inner t p w x y = groups_true p w (λ q a i j k. groups_all first count t q a (omega arith) (omega arith) k)

    pub head_false : (b : Bool) → b ≡ group_symbols f host at s unit first head → not b ≡ true → false ≡ group_symbols f host at s unit first count
    head_false b e n = not_true_false _ (λ t. false≢true (sym (told_false e n) ∙ inner t first head (omega arith) (omega arith)))

    pub whole_false : (b : Bool) → b ≡ symbols_from f host (at + next * s) (last * s - next * s) → not b ≡ true → false ≡ group_symbols f host at s unit first count
    whole_false b e n = not_true_false _ (λ t. false≢true (sym (told_false e n) ∙
        whole_true next last some many next_is last_is (λ q a x y z. groups_all first count t q a (omega arith) (omega arith) z)))

    pub rest_told : (b c r : Bool) → b ≡ group_symbols f host at s unit first head → not b ≡ false → c ≡ symbols_from f host (at + next * s) (last * s - next * s) → not c ≡ false →
        r ≡ group_symbols f host at s unit last rest → r ≡ group_symbols f host at s unit first count
    rest_told b c r e n d m t = t ∙ same_test _ _ (λ g. groups_true first count (λ q a x y z. go g q a x y z (dec_lt q next) (dec_lt q last)))
        (λ g. inner g last rest (omega (arith, ordered)) (omega (arith, mod-le (first + count) unit)))
      where
        go : group_symbols f host at s unit last rest ≡ true → (q a : ℕ) → first ≤ q → q < first + count → a < s → Dec (q < next) → Dec (q < last) → Seen q a
        go g q a x y z (yes h) k = groups_all first head (told_true e n) q a x h z
        go g q a x y z (no h) (yes k) = whole_all next last some many next_is last_is (told_true d m) q a (omega arith) k z
        go g q a x y z (no h) (no k) = groups_all last rest g q a (omega arith) (omega arith) z
