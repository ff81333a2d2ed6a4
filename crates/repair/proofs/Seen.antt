-- A call passes ground 3 where the shares' numbers and those of the sound trays are symbols.
-- Assumes nothing.
use mathlib.Core.Path.{◌≡◌, refl, sym, ap, ◌∙◌, subst}
use mathlib.Core.Bool.{Bool, true, false, cond, ◌&&◌}
use mathlib.Core.List.{List}
use Prim.Native.Nat.{ℕ, ◌+◌, ◌-◌, ◌*◌, ◌/◌, ◌%◌, ◌<◌, ◌≤◌, min}
use native.Mathlib.Nat.{mul_assoc, div-add-mod'}
use native.Mathlib.Omega.{arith}
use lib.Dec.{leb, ltb}
use lib.ListN.{length, get_or}
use Rattle.lists.specs.Lists.{absent}
use Rattle.lists.proofs.Numbered.{absent_all}
use Rattle.algebra.specs.Coding.{InRange}
use Rattle.algebra.specs.Shape.{Field}
use Rattle.algebra.specs.Layers.{group_of}
use Rattle.kernel.proofs.Rows.{row_before}
use Rattle.layout.specs.declared.Layout.{Layout}
use Rattle.layout.specs.Layout.{digits, layers, groups, traffic}
use Rattle.range.specs.Range.{symbols_from}
use Rattle.range.proofs.Symbols.{symbols_true}
use Rattle.rule.specs.Lost.{first_lost, lost_place, Losses}
use Rattle.seen.specs.Seen.{layer_symbol, piece_symbols}
use Rattle.seen.proofs.Piece.{passes}
use Rattle.repair.specs.Repair.{SoundSymbols}

module _ {A : Type 0} (f : Field A) (l : Layout) (lost shares host : List ℕ) (first budget : ℕ) where
  abbrev h : ℕ
  h = first_lost l lost / l.size

  abbrev n : ℕ
  n = min budget (groups l - first)

  pub piece_symbols_lem : (helpers : List ℕ) → Losses l lost helpers → 0 < l.size → first ≤ groups l → length shares ≡ length lost * traffic l →
      InRange f.coding shares → SoundSymbols f l lost host →
      piece_symbols f l lost shares host first budget ≡ true
  unfolding lost_place layer_symbol
  piece_symbols_lem helpers given pos hf long range sound = passes f l lost shares host first budget row layer
    where
      row : (r : ℕ) → r < length lost * l.helpers → symbols_from f shares (r * groups l + first) n ≡ true
      row r hr = sym (symbols_true f shares (r * groups l + first) n (λ k hk.
          range.at _ (rw (long ∙ sym (mul_assoc (length lost) l.helpers (groups l))) (omega (arith, row_before r (length lost * l.helpers) (groups l) hr)))))

      place : (g i : ℕ) → i < length lost → g ≡ get_or lost i 0 % l.size → get_or lost i 0 ≡ h * l.size + g
      place g i hi e = sym (div-add-mod' (get_or lost i 0) l.size) ∙ ap (λ y. y * l.size + get_or lost i 0 % l.size) (given.one_rack_lem i hi) ∙ ap (λ y. h * l.size + y) (sym e)

      layer : (g : ℕ) → g < l.size → absent lost (h * l.size + g) ≡ true → (j : ℕ) → j < layers l → layer_symbol f l h host first n g j ≡ true
      layer g hg a j hj = go (leb first (group_of (digits l) h j) && ltb (group_of (digits l) h j) (first + n))
        where
          go : (t : Bool) → cond t (symbols_from f host (g * layers l + j) 1) true ≡ true
          go true = sym (symbols_true f host (g * layers l + j) 1 (λ k hk.
              let z : g * layers l + j ≡ g * layers l + j + k = omega arith in
              subst (λ y. get_or host y 0 < f.coding.size) z (sound g j hg hj (λ i hi e. absent_all lost (h * l.size + g) a i hi (place g i hi e)))))
          go false = refl
