-- The whole test of a piece: what its functions are told, and when it passes.
-- Assumes nothing.
use mathlib.Core.Path.{◌≡◌, refl, sym, ap, ◌∙◌, subst}
use mathlib.Core.Bool.{Bool, true, false, cond, not, ◌&&◌}
use mathlib.Core.List.{List}
use Prim.Native.Nat.{ℕ, ◌+◌, ◌-◌, ◌*◌, ◌/◌, ◌<◌, ◌≤◌, min}
use native.Mathlib.Omega.{arith}
use lib.Dec.{eqb, leb, ltb}
use lib.ListN.{length, get_or}
use borrow.Author.Tests.{eq-eqb, ne_eqb, leb-true, ltb-true}
use Rattle.lists.specs.Lists.{all, absent, all_below}
use Rattle.lists.proofs.Bools.{and_true, not_both, told_false, told_true, all_true}
use Rattle.lists.proofs.Numbered.{below_all}
use Rattle.algebra.specs.Shape.{Field}
use Rattle.algebra.specs.Layers.{group_of}
use Rattle.layout.specs.declared.Layout.{Layout}
use Rattle.layout.specs.Layout.{trays, digits, layers, groups, Cabinet}
use Rattle.layout.proofs.Facts.{rack_in}
use Rattle.range.specs.Range.{symbols_from, symbol_rows}
use Rattle.range.proofs.Symbols.{symbols_true}
use Rattle.rule.specs.Lost.{first_lost}
use Rattle.seen.specs.Seen.{layer_symbol, sound_symbols, piece_symbols}
use Rattle.seen.specs.Inner.{Looking}

-- ---- what the loops over a piece are told
pub looking_of : {X : Type 0} (l : Layout) (lost : List ℕ) (host : List X) (total first count budget : ℕ) → Cabinet l → all_below lost (trays l) ≡ true → length host ≡ l.size * layers l → ¬ (length lost ≡ 0) →
    total ≡ groups l → count ≡ min budget (total - first) → first < total → Looking l (get_or lost 0 0 / l.size) host first count
looking_of l lost host total first count budget a b e some et ec k = record {
  adm = a;
  host_in = rack_in l a (get_or lost 0 0) (below_all lost (trays l) b 0 (omega arith));
  host_long = e;
  within = omega arith;
}

-- ---- the whole test
module _ {A : Type 0} (f : Field A) (l : Layout) (lost shares host : List ℕ) (first budget : ℕ) where
  abbrev h : ℕ
  h = first_lost l lost / l.size

  abbrev n : ℕ
  n = min budget (groups l - first)

  pub piece_none : length lost ≡ 0 → true ≡ piece_symbols f l lost shares host first budget
  unfolding piece_symbols
  piece_none e = simp (eq-eqb _ _ e)

  -- all of it passes where nothing is left, or all that is looked at are symbols
  pub passes : ((r : ℕ) → r < length lost * l.helpers → symbols_from f shares (r * groups l + first) n ≡ true) →
      ((g : ℕ) → g < l.size → absent lost (h * l.size + g) ≡ true → (j : ℕ) → j < layers l → layer_symbol f l h host first n g j ≡ true) → piece_symbols f l lost shares host first budget ≡ true
  unfolding piece_symbols symbol_rows sound_symbols
  passes a b = go (eqb (length lost) 0)
    where
      tray : (g : ℕ) → g < l.size → (t : Bool) → absent lost (h * l.size + g) ≡ t → cond t (all (layer_symbol f l h host first n g) (layers l)) true ≡ true
      tray g k true e = all_true _ (layers l) (b g k e)
      tray g k false e = refl

      go : (t : Bool) → cond t true (symbol_rows f shares (length lost * l.helpers) (groups l) first n && all (sound_symbols f l lost h host first n) l.size) ≡ true
      go true = refl
      go false = and_true _ _ (all_true _ (length lost * l.helpers) a) (all_true _ l.size (λ g k. tray g k (absent lost (h * l.size + g)) refl))

  -- a layer is in no group of none
  away : (g j : ℕ) → layer_symbol f l h host first 0 g j ≡ true
  unfolding layer_symbol
  away g j = ap (λ b. cond b (symbols_from f host (g * layers l + j) 1) true)
      (not_both (leb first (group_of (digits l) h j)) (ltb (group_of (digits l) h j) (first + 0)) (λ x y.
      let p = leb-true first (group_of (digits l) h j) x in let q = ltb-true (group_of (digits l) h j) (first + 0) y in omega arith))

  pub piece_left : (total : ℕ) → total ≡ groups l → total ≤ first → true ≡ piece_symbols f l lost shares host first budget
  piece_left total et k =
      let z : n ≡ 0 = omega arith in
      sym (passes (λ r hr. subst (λ c. symbols_from f shares (r * groups l + first) c ≡ true) (sym z) (sym (symbols_true f shares (r * groups l + first) 0 (λ i hi. absurd (omega arith)))))
      (λ g hg a j hj. subst (λ c. layer_symbol f l h host first c g j ≡ true) (sym z) (away g j)))

  -- the count and the numbers of groups as worked out
  shares_same : (total count : ℕ) → total ≡ groups l → count ≡ min budget (total - first) →
      symbol_rows f shares (length lost * l.helpers) total first count ≡ symbol_rows f shares (length lost * l.helpers) (groups l) first n
  shares_same total count et ec =
      ap (symbol_rows f shares (length lost * l.helpers) total first) (ec ∙ ap (λ y. min budget (y - first)) et)
      ∙ ap (λ y. symbol_rows f shares (length lost * l.helpers) y first n) et

  pub piece_false : (total count : ℕ) (b : Bool) → ¬ (length lost ≡ 0) → total ≡ groups l → count ≡ min budget (total - first) →
      b ≡ symbol_rows f shares (length lost * l.helpers) total first count → not b ≡ true → false ≡ piece_symbols f l lost shares host first budget
  unfolding piece_symbols
  piece_false total count b some et ec q m =
      let e = sym (shares_same total count et ec) ∙ told_false q m in
      simp (ne_eqb _ _ some, e)

  pub piece_told : (total count : ℕ) (b r : Bool) → ¬ (length lost ≡ 0) → total ≡ groups l → count ≡ min budget (total - first) →
      b ≡ symbol_rows f shares (length lost * l.helpers) total first count → not b ≡ false →
      r ≡ all (sound_symbols f l lost (get_or lost 0 0 / l.size) host first count) l.size → r ≡ piece_symbols f l lost shares host first budget
  unfolding piece_symbols
  piece_told total count b r some et ec q m z =
      let e = sym (shares_same total count et ec) ∙ told_true q m in
      z ∙ ap (λ c. all (sound_symbols f l lost h host first c) l.size) (ec ∙ ap (λ y. min budget (y - first)) et) ∙ sym (simp (ne_eqb _ _ some, e))

  -- numbers that are all symbols always pass, as bytes do in the field of 256
  pub piece_all : ((k : ℕ) → get_or shares k 0 < f.coding.size) → ((k : ℕ) → get_or host k 0 < f.coding.size) → piece_symbols f l lost shares host first budget ≡ true
  unfolding layer_symbol
  piece_all a b = passes
      (λ r hr. sym (symbols_true f shares (r * groups l + first) n (λ k hk. a (r * groups l + first + k))))
      (λ g hg c j hj. go g j (leb first (group_of (digits l) h j) && ltb (group_of (digits l) h j) (first + n)))
    where
      go : (g j : ℕ) (t : Bool) → cond t (symbols_from f host (g * layers l + j) 1) true ≡ true
      go g j true = sym (symbols_true f host (g * layers l + j) 1 (λ k hk. b (g * layers l + j + k)))
      go g j false = refl
