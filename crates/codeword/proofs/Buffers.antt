-- Codewords over a buffer: against the abstract ones, and when two buffers are the same.
-- Assumes nothing.
use mathlib.Core.Path.{◌≡◌, sym, ◌∙◌, subst}
use mathlib.Core.List.{List}
use Prim.Native.Nat.{ℕ, ◌*◌, ◌/◌, ◌%◌, ◌<◌}
use native.Mathlib.Nat.{mod-lt, div-add-mod', div-lt_iff_lt-mul}
use lib.ListN.{length, get_or}
use lib.Seq.{ext_get_or}
use Rattle.algebra.specs.Coding.{InRange}
use Rattle.algebra.specs.Lagrange.{Distinct}
use Rattle.algebra.specs.Shape.{Field}
use Rattle.algebra.specs.Cabinet.{Codeword as Word}
use Rattle.algebra.proofs.Coding.{elem_same}
use Rattle.algebra.proofs.Layers.{power_pos}
use Rattle.algebra.proofs.Restore.{points_distinct as distinct}
use Rattle.layout.specs.declared.Layout.{Layout}
use Rattle.layout.specs.Layout.{trays, checks, layers}
use Rattle.codeword.specs.Codeword.{shape_of, symbol_at, point_at, check_at, Codeword, Usable}

module _ {A : Type 0} (f : Field A) (l : Layout) where
  -- a codeword of a buffer is one of the abstract code, and back
  pub to_word : (c : List ℕ) → Codeword f l c → Word (shape_of f l) (checks l) (symbol_at f l c)
  unfolding check_at point_at
  to_word c w = record { at = λ j t h k. w.holds j h t k }

  pub from_word : (c : List ℕ) → length c ≡ trays l * layers l → InRange f.coding c → Word (shape_of f l) (checks l) (symbol_at f l c) → Codeword f l c
  unfolding check_at point_at
  from_word c e s w = record { long = e; symbols = s; holds = λ j h t k. w.at j t h k }

  module _ (ok : Usable f l) where
    pub layers_pos : 0 < layers l
    layers_pos = power_pos _ l.racks ok.fits.some_digits

    -- within a layer all points differ
    pub points_distinct : (j : ℕ) → Distinct (point_at f l j) (trays l)
    unfolding point_at
    points_distinct = distinct (shape_of f l) ok.fits

    -- two buffers of symbols that agree everywhere are the same
    pub buffers_same : (c d : List ℕ) → length c ≡ trays l * layers l → length d ≡ trays l * layers l → InRange f.coding c → InRange f.coding d →
        ((x j : ℕ) → x < trays l → j < layers l → symbol_at f l c x j ≡ symbol_at f l d x j) → c ≡ d
    unfolding symbol_at
    buffers_same c d ec ed sc sd same =
        ext_get_or 0 c d (ec ∙ sym ed) (λ i h.
        let inside : i < trays l * layers l = subst (λ n. i < n) ec h in
        let e = same (i / layers l) (i % layers l) ((div-lt_iff_lt-mul layers_pos).1 inside) (mod-lt i layers_pos) in
        elem_same f.coding ok.field.coded _ _ (sc.at i h) (sd.at i (subst (λ n. i < n) (ec ∙ sym ed) h))
        (subst (λ k. f.coding.elem (get_or c k 0) ≡ f.coding.elem (get_or d k 0)) (div-add-mod' i (layers l)) e))
