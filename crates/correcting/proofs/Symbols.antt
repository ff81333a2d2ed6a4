-- The test of the numbers that the repair looks at.
-- Assumes nothing.
use mathlib.Core.Path.{◌≡◌, sym, ap, ap₂, ◌∙◌, subst}
use mathlib.Core.Bool.{Bool, true, false, not, ◌&&◌}
use mathlib.Core.List.{List}
use Prim.Native.Nat.{ℕ, ◌+◌, ◌-◌, ◌*◌, ◌/◌, ◌%◌, ◌<◌, ◌≤◌}
use native.Mathlib.Nat.{add-mul, add_assoc, zero-add, mod-lt, div-add-mod', div-lt_iff_lt-mul}
use native.Mathlib.Omega.{arith}
use mir.Val.{Fits}
use mir.Syntax.{w64}
use lib.ListN.{length, get_or}
use Rattle.lists.proofs.Bools.{and_true, told_false, told_true}
use Rattle.algebra.specs.Shape.{Field}
use Rattle.layout.specs.declared.Layout.{Layout}
use Rattle.layout.specs.Layout.{layers, Cabinet}
use Rattle.layout.proofs.Facts.{bounds}
use Rattle.range.specs.Range.{symbols_from}
use Rattle.range.proofs.Symbols.{symbols_true}
use Rattle.share.proofs.Refusals.{symbols_in}
use Rattle.correcting.specs.Correcting.{seen_symbols, Setting}

-- ---- places: a rack is what lies before a tray, the tray and what lies after it
module _ (l : Layout) (x : ℕ) where
  place_in : Cabinet l → x % l.size < l.size
  place_in adm = mod-lt x (bounds l adm).size_low

  pub next_in : Cabinet l → x % l.size + 1 ≤ l.size
  next_in adm = let h = place_in adm in omega arith

  module _ (adm : Cabinet l) (host : List ℕ) (long : length host ≡ l.size * layers l) (total : ℕ) (et : total ≡ layers l) where
    parts : (x % l.size + 1) * total + (l.size - (x % l.size + 1)) * total ≡ length host
    parts = sym (add-mul (x % l.size + 1) (l.size - (x % l.size + 1)) total) ∙ ap₂ ◌*◌ (back (x % l.size + 1) l.size (next_in adm)) et ∙ sym long
      where
        back : (a b : ℕ) → a ≤ b → a + (b - a) ≡ b
        back a b h = omega arith

-- ---- the answers of the three tests
module _ {A : Type 0} (f : Field A) (l : Layout) (x : ℕ) (shares host : List ℕ) where
  pub seen_shares : (a : Bool) → a ≡ symbols_from f shares 0 (length shares) → not a ≡ true → false ≡ seen_symbols f l x shares host
  unfolding seen_symbols
  seen_shares a e n = simp (told_false e n)

  module _ (a : Bool) (ea : a ≡ symbols_from f shares 0 (length shares)) (na : not a ≡ false) (total : ℕ) (et : total ≡ layers l) where
    front : (b : Bool) → b ≡ symbols_from f host 0 (x % l.size * total) → b ≡ symbols_from f host 0 (x % l.size * layers l)
    front b e = e ∙ ap (λ z. symbols_from f host 0 (x % l.size * z)) et

    pub seen_before : (b : Bool) → b ≡ symbols_from f host 0 (x % l.size * total) → not b ≡ true → false ≡ seen_symbols f l x shares host
    unfolding seen_symbols
    seen_before b e n = simp (told_true ea na, told_false (front b e) n)

    pub seen_after : (b c : Bool) → b ≡ symbols_from f host 0 (x % l.size * total) → not b ≡ false →
        c ≡ symbols_from f host ((x % l.size + 1) * total) ((l.size - (x % l.size + 1)) * total) → c ≡ seen_symbols f l x shares host
    unfolding seen_symbols
    seen_after b c e n q =
        q ∙ ap (λ z. symbols_from f host ((x % l.size + 1) * z) ((l.size - (x % l.size + 1)) * z)) et
        ∙ ap (λ y. y && symbols_from f host ((x % l.size + 1) * layers l) ((l.size - (x % l.size + 1)) * layers l)) (sym (and_true _ _ (told_true ea na) (told_true (front b e) n)))

-- ---- where all are symbols
pub seen_all : {A : Type 0} (f : Field A) (l : Layout) → Cabinet l → (x : ℕ) (helpers shares host c : List ℕ) → Setting f l x helpers shares host c → seen_symbols f l x shares host ≡ true
unfolding seen_symbols
seen_all f l adm x helpers shares host c s =
    and_true _ _ (and_true _ _ (symbols_in f shares s.shares_range.at) (sym (symbols_true f host 0 (x % l.size * layers l) before))) (sym (symbols_true f host _ _ after))
  where
    pos : 0 < layers l
    pos = (bounds l adm).layers_low

    place_in : x % l.size < l.size
    place_in = mod-lt x (bounds l adm).size_low

    before : (k : ℕ) → k < x % l.size * layers l → get_or host (0 + k) 0 < f.coding.size
    before k h =
        let g : k / layers l < x % l.size = (div-lt_iff_lt-mul pos).1 h in
        subst (λ n. get_or host n 0 < f.coding.size) (div-add-mod' k (layers l) ∙ sym (zero-add k))
        (s.host_range (k / layers l) (k % layers l) (let p = place_in in omega arith) (mod-lt k pos) (λ e. omega arith))

    after : (k : ℕ) → k < (l.size - (x % l.size + 1)) * layers l → get_or host ((x % l.size + 1) * layers l + k) 0 < f.coding.size
    after k h =
        let g : k / layers l < l.size - (x % l.size + 1) = (div-lt_iff_lt-mul pos).1 h in
        subst (λ n. get_or host n 0 < f.coding.size)
        (ap (λ n. n + k % layers l) (add-mul (x % l.size + 1) (k / layers l) (layers l)) ∙ add_assoc ((x % l.size + 1) * layers l) _ _
        ∙ ap (λ n. (x % l.size + 1) * layers l + n) (div-add-mod' k (layers l)))
        (s.host_range (x % l.size + 1 + k / layers l) (k % layers l) (let p = place_in in omega arith) (mod-lt k pos) (λ e. omega arith))
