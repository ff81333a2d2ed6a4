-- A tray's numbers of some groups, by groups and digits as the code takes them, and by layers as the definition does. Then tray after tray.
-- Assumes nothing.
use mathlib.Core.Path.{◌≡◌, refl, sym, ap, ◌∙◌, subst}
use mathlib.Core.Bool.{Bool, true, false, cond, not, ◌&&◌, false≢true}
use mathlib.Core.List.{List}
use Prim.Native.Nat.{ℕ, ◌+◌, ◌*◌, ◌^◌, ◌<◌, ◌≤◌}
use native.Mathlib.Nat.{mul-le-mul_right, div-mul-le_self}
use native.Mathlib.Omega.{arith}
use lib.Dec.{leb, ltb}
use lib.ListN.{get_or}
use borrow.Author.Tests.{leb-true, ltb-true, le-leb, lt-ltb}
use Rattle.lists.specs.Lists.{all, absent}
use Rattle.lists.proofs.Bools.{both, and_true, told_false, told_true, all_true, all_false, all_holds}
use Rattle.lists.proofs.Numbers.{cell_in}
use Rattle.algebra.specs.Shape.{Field}
use Rattle.algebra.specs.Layers.{digit, group_of, layer_of}
use Rattle.algebra.proofs.Layers.{power_pos, digit_below, layer_group, layer_back}
use Rattle.kernel.proofs.Rows.{row_before}
use Rattle.layout.specs.declared.Layout.{Layout}
use Rattle.layout.specs.Layout.{digits, layers, groups}
use Rattle.layout.proofs.Facts.{bounds}
use Rattle.layout.proofs.Numbers.{layer_below}
use Rattle.range.specs.Range.{symbols_from}
use Rattle.range.proofs.Symbols.{symbols_true, symbols_all}
use Rattle.seen.specs.Seen.{layer_symbol, sound_symbols}
use Rattle.seen.specs.Inner.{block_layer, group_symbols, tray_symbols, Places, Looking}
use Rattle.seen.proofs.Groups.{same_test, groups_all, groups_true}

-- blocks of s^h groups
block_is : (s h p a : ℕ) → block_layer s (s ^ h) p a ≡ layer_of s h p a
unfolding block_layer layer_of
block_is s h p a = refl

module _ {X : Type 0} (l : Layout) (h : ℕ) (host : List X) (first count : ℕ) (told : Looking l h host first count) where
  abbrev some : 0 < digits l
  some = (bounds l told.adm).digits_low

  -- the tray at place g lies in the buffer
  pub places : (g : ℕ) → g < l.size → Places host (g * layers l) (digits l) (digits l ^ h) (first + count)
  places g hg = record {
    unit_pos = power_pos (digits l) h some;
    digits_pos = some;
    inside = λ p a hp ha. rw (told.host_long, block_is (digits l) h p a)
        (cell_in l.size (layers l) g (layer_of (digits l) h p a) hg (layer_below l told.adm h p a told.host_in (omega (arith, told.within)) ha));
    long =
        let m : (first + count) * digits l ≤ groups l * digits l = mul-le-mul_right (digits l) told.within in
        omega (arith, told.host_long, row_before g l.size (layers l) hg, div-mul-le_self (layers l) (digits l));
  }

  -- the same with the layout's numbers as worked out
  pub places_told : (g total s unit : ℕ) → total ≡ layers l → s ≡ digits l → unit ≡ digits l ^ h → g < l.size → Places host (g * total) s unit (first + count)
  places_told g total s unit et es eu hg =
      subst (λ n. Places host (g * n) s unit (first + count)) (sym et) (subst (λ n. Places host (g * layers l) n unit (first + count)) (sym es)
      (subst (λ n. Places host (g * layers l) (digits l) n (first + count)) (sym eu) (places g hg)))

module _ {A X : Type 0} (f : Field A) (l : Layout) (h : ℕ) (host : List ℕ) (xs : List X) (first count : ℕ) (told : Looking l h xs first count) (g : ℕ) where
  abbrev s : ℕ
  s = digits l

  abbrev here : ℕ → Bool
  here j = leb first (group_of s h j) && ltb (group_of s h j) (first + count)

  abbrev Symbol : ℕ → Type 0
  Symbol n = get_or host n 0 < f.coding.size

  -- by groups and digits, so by layers
  layers_of : group_symbols f host (g * layers l) s (s ^ h) first count ≡ true → (j : ℕ) → layer_symbol f l h host first count g j ≡ true
  unfolding layer_symbol
  layers_of t j = go (here j) refl
    where
      at : group_of s h j < first + count → first ≤ group_of s h j → Symbol (g * layers l + j)
      at y x = subst (λ n. Symbol (g * layers l + n)) (block_is s h (group_of s h j) (digit s j h) ∙ layer_back s (bounds l told.adm).digits_low h j)
          (groups_all f host (g * layers l) s (s ^ h) first count t (group_of s h j) (digit s j h) x y (digit_below s (bounds l told.adm).digits_low j h))

      go : (b : Bool) → here j ≡ b → cond b (symbols_from f host (g * layers l + j) 1) true ≡ true
      go true e =
          let two = both (leb first (group_of s h j)) (ltb (group_of s h j) (first + count)) e in
          sym (symbols_true f host (g * layers l + j) 1 (λ k hk.
          let z : g * layers l + j ≡ g * layers l + j + k = omega arith in
          subst Symbol z (at (ltb-true _ _ two.1) (leb-true _ _ two.0))))
      go false e = refl

  -- and the other way round
  groups_of : ((j : ℕ) → j < layers l → layer_symbol f l h host first count g j ≡ true) → group_symbols f host (g * layers l) s (s ^ h) first count ≡ true
  unfolding layer_symbol
  groups_of t = groups_true f host (g * layers l) s (s ^ h) first count (λ p a x y z.
      let e = layer_group s (bounds l told.adm).digits_low h p a z in
      let inside = layer_below l told.adm h p a told.host_in (omega (arith, told.within)) z in
      let looked = and_true (leb first (group_of s h (layer_of s h p a))) (ltb (group_of s h (layer_of s h p a)) (first + count))
      (le-leb first (group_of s h (layer_of s h p a)) (omega arith)) (lt-ltb (group_of s h (layer_of s h p a)) (first + count) (omega arith)) in
      let q = sym (ap (λ b. cond b (symbols_from f host (g * layers l + layer_of s h p a) 1) true) looked) ∙ t (layer_of s h p a) inside in
      let n : g * layers l + layer_of s h p a + 0 ≡ g * layers l + layer_of s h p a = omega arith in
      subst (λ n. Symbol (g * layers l + n)) (sym (block_is s h p a)) (subst Symbol n (symbols_all f host (g * layers l + layer_of s h p a) 1 q 0 (omega arith))))

  tray_is : group_symbols f host (g * layers l) s (s ^ h) first count ≡ all (layer_symbol f l h host first count g) (layers l)
  tray_is = same_test _ _ (λ t. all_true _ (layers l) (λ j k. layers_of t j)) (λ t. groups_of (λ j k. all_holds (layer_symbol f l h host first count g) (layers l) t j k))

  pub sound_is : (lost : List ℕ) → tray_symbols f lost (h * l.size + g) host (g * layers l) s (s ^ h) first count ≡ sound_symbols f l lost h host first count g
  unfolding tray_symbols sound_symbols
  sound_is lost = ap (λ b. cond (absent lost (h * l.size + g)) b true) tray_is

-- ---- a tray that is listed, and one that is not
module _ {A : Type 0} (f : Field A) (lost : List ℕ) (tray : ℕ) (host : List ℕ) (at s unit first count : ℕ) (b : Bool) (e : b ≡ absent lost tray) where
  pub tray_listed : not b ≡ true → true ≡ tray_symbols f lost tray host at s unit first count
  unfolding tray_symbols
  tray_listed n = sym (ap (λ b. cond b (group_symbols f host at s unit first count) true) (told_false e n))

  pub tray_told : (r : Bool) → not b ≡ false → r ≡ group_symbols f host at s unit first count → r ≡ tray_symbols f lost tray host at s unit first count
  unfolding tray_symbols
  tray_told r n q = q ∙ sym (ap (λ b. cond b (group_symbols f host at s unit first count) true) (told_true e n))

-- ---- all trays
module _ {A : Type 0} (f : Field A) (l : Layout) (lost : List ℕ) (h : ℕ) (host : List ℕ) (first count : ℕ) where
  -- what the test of a tray answers, with the layout's numbers as worked out
  pub tray_sound : {X : Type 0} {xs : List X} → Looking l h xs first count → (g total s unit : ℕ) (r : Bool) → total ≡ layers l → s ≡ digits l → unit ≡ digits l ^ h →
      r ≡ tray_symbols f lost (h * l.size + g) host (g * total) s unit first count →
      r ≡ sound_symbols f l lost h host first count g
  tray_sound {X} {xs} told g total s unit r et es eu q =
      q ∙ ap (λ n. tray_symbols f lost (h * l.size + g) host (g * n) s unit first count) et
      ∙ ap (λ n. tray_symbols f lost (h * l.size + g) host (g * layers l) n unit first count) es
      ∙ ap (λ n. tray_symbols f lost (h * l.size + g) host (g * layers l) (digits l) n first count) eu
      ∙ sound_is f l h host xs first count told g lost

  pub trays_false : (g : ℕ) (r : Bool) → g < l.size → r ≡ sound_symbols f l lost h host first count g → not r ≡ true → false ≡ all (sound_symbols f l lost h host first count) l.size
  trays_false g r k q m = all_false _ l.size g k (λ z. false≢true (sym (told_false q m) ∙ z))

  pub trays_true : (g : ℕ) → l.size ≤ g → ((i : ℕ) → i < g → sound_symbols f l lost h host first count i ≡ true) → true ≡ all (sound_symbols f l lost h host first count) l.size
  trays_true g k q = sym (all_true _ l.size (λ i y. q i (omega arith)))
