-- Over any field: a buffer with the symbols that the checks determine is the one codeword that has the survivors, if any codeword has them; and any at
-- most r trays of a codeword come back.
-- Assumes nothing.
use mathlib.Core.Path.{◌≡◌, sym, ap, ap₂, ◌∙◌, subst}
use mathlib.Core.Bool.{true}
use mathlib.Core.List.{List}
use Prim.Native.Nat.{ℕ, ◌+◌, ◌*◌, ◌/◌, ◌%◌, ◌<◌, ◌≤◌}
use native.Mathlib.Nat.{mod-lt, div-add-mod', div-lt_iff_lt-mul}
use lib.Arith.{digits_div, digits_mod}
use lib.ListN.{length, get_or}
use Rattle.lists.specs.Lists.{table, all_below, strictly_rising}
use Rattle.lists.proofs.Numbers.{cell_in, cell_read}
use Rattle.lists.proofs.Tables.{table_length, table_at}
use Rattle.algebra.specs.Coding.{InRange}
use Rattle.algebra.specs.Shape.{Field}
use Rattle.algebra.specs.Lagrange.{check}
use Rattle.algebra.specs.Cabinet.{layer_point}
use Rattle.algebra.proofs.Coding.{elem_same}
use Rattle.algebra.proofs.Erasure.{check_congr, place_cases}
use Rattle.algebra.proofs.Restore.{restored_others, restored_codeword, restored_only, restored_survivors}
use Rattle.layout.specs.declared.Layout.{Layout}
use Rattle.layout.specs.Layout.{trays, checks, layers}
use Rattle.layout.proofs.Lists.{list_places}
use Rattle.codeword.specs.Codeword.{shape_of, symbol_at, point_at, Codeword, Usable}
use Rattle.codeword.proofs.Buffers.{to_word, from_word, buffers_same}
use Rattle.recover.specs.Recover.{Survivors, Restores}
use Rattle.recover.specs.Inner.{Kept}
use Rattle.syndrome.specs.Inner.{entry_of, Listed}
use Rattle.restore.specs.Inner.{restored_at, LayerFits, RestoredTo}

module _ {A : Type 0} (f : Field A) (l : Layout) (ok : Usable f l) (es c : List ℕ) (listed : Listed l es) where
  alike : (e : List ℕ) → Survivors l es c e → (x j : ℕ) → x < trays l → j < layers l → Kept es x → symbol_at f l c x j ≡ symbol_at f l e x j
  unfolding symbol_at
  alike e s x j hx hj kept = ap f.coding.elem (sym (s.same x j hx hj kept))

  -- where a codeword has these survivors, every layer meets its checks
  pub survivors_fit : (e : List ℕ) → Codeword f l e → Survivors l es c e → (j : ℕ) → j < layers l → LayerFits f l es c j
  unfolding point_at
  survivors_fit e w s j h t b =
      (restored_survivors (shape_of f l) ok.fits (entry_of es) (length es) listed.places (checks l) listed.few (symbol_at f l c) (symbol_at f l e) (alike e s)
      (to_word f l e w)).at j t h b

  -- that codeword is the symbols that the checks determine
  survivors_only : (e : List ℕ) → Codeword f l e → Survivors l es c e → (x j : ℕ) → x < trays l → j < layers l → symbol_at f l e x j ≡ restored_at f l es c x j
  survivors_only e w s =
      restored_only (shape_of f l) ok.fits (entry_of es) (length es) listed.places (checks l) listed.few (symbol_at f l c) (symbol_at f l e) (alike e s)
      (to_word f l e w)

  module _ (d : List ℕ) (long : length c ≡ trays l * layers l) (same : length d ≡ length c) (new : InRange f.coding d)
      (kept : (x j : ℕ) → x < trays l → j < layers l → Kept es x → get_or d (x * layers l + j) 0 ≡ get_or c (x * layers l + j) 0)
      (at : (x j : ℕ) → x < trays l → j < layers l → symbol_at f l d x j ≡ restored_at f l es c x j) where
    -- so a buffer with these symbols is the one codeword
    pub restores : ((j : ℕ) → j < layers l → LayerFits f l es c j) → Restores f l es c d
    unfolding point_at
    restores fits = record {
      codeword = from_word f l d (same ∙ long) new (record {
        at = λ j t h b.
            check_congr f.ops ok.field.laws (layer_point (shape_of f l) j) (trays l) (entry_of es) (λ x. symbol_at f l d x j) (λ x. restored_at f l es c x j) t (λ x q. at x j q h)
            ∙ fits j h t b;
      });
      survivors = record { long = same; same = kept };
      only = λ e w s. buffers_same f l ok e d w.long (same ∙ long) w.symbols new (λ x j hx hj. survivors_only e w s x j hx hj ∙ sym (at x j hx hj));
    }

  -- there is one wherever every layer meets its checks
  pub restores_exists : length c ≡ trays l * layers l → ((x j : ℕ) → x < trays l → j < layers l → Kept es x → get_or c (x * layers l + j) 0 < f.coding.size) →
      ((j : ℕ) → j < layers l → LayerFits f l es c j) → (d : List ℕ) × Restores f l es c d
  unfolding symbol_at
  restores_exists long old fits = (buffer, restores buffer long (buffer_long ∙ sym long) (record { at = within }) same at fits)
    where
      value : ℕ → ℕ
      value i = f.coding.val (restored_at f l es c (i / layers l) (i % layers l))

      buffer : List ℕ
      buffer = table value (trays l * layers l)

      buffer_long : length buffer ≡ trays l * layers l
      buffer_long = table_length value (trays l * layers l)

      within : (i : ℕ) → i < length buffer → get_or buffer i 0 < f.coding.size
      within i h = subst (λ n. n < f.coding.size) (sym (table_at value (trays l * layers l) i (subst (λ n. i < n) buffer_long h))) (ok.field.coded.val_below _)

      at : (x j : ℕ) → x < trays l → j < layers l → f.coding.elem (get_or buffer (x * layers l + j) 0) ≡ restored_at f l es c x j
      at x j hx hj =
          ap f.coding.elem (table_at value (trays l * layers l) (x * layers l + j) (cell_in (trays l) (layers l) x j hx hj)) ∙ ok.field.coded.elem_val _
          ∙ ap₂ (restored_at f l es c) (digits_div x hj) (digits_mod x hj)

      same : (x j : ℕ) → x < trays l → j < layers l → Kept es x → get_or buffer (x * layers l + j) 0 ≡ get_or c (x * layers l + j) 0
      same x j hx hj w =
          elem_same f.coding ok.field.coded _ _ (within _ (cell_read buffer _ _ x j buffer_long hx hj)) (old x j hx hj w)
          (at x j hx hj ∙ restored_others (shape_of f l) ok.fits (entry_of es) (length es) listed.places (symbol_at f l c) x j w)

  -- a codeword is the one that has its survivors
  its_own : (w : List ℕ) → Codeword f l w → Survivors l es c w → Restores f l es c w
  its_own w good s = record {
    codeword = good;
    survivors = s;
    only = λ e v q. buffers_same f l ok e w v.long good.long v.symbols good.symbols
        (λ x j hx hj. survivors_only e v q x j hx hj ∙ sym (survivors_only w good s x j hx hj));
  }

  -- the checks used for solving hold, whatever the others hold
  pub low_checks : (j : ℕ) → j < layers l → (t : ℕ) → t < length es → check f.ops (point_at f l j) (trays l) (λ x. restored_at f l es c x j) t ≡ f.ops.zero
  unfolding point_at
  low_checks j h t b = (restored_codeword (shape_of f l) ok.fits (entry_of es) (length es) listed.places (symbol_at f l c)).at j t h b

-- what is restored is in range where the trays not listed are
pub restored_range : {A : Type 0} (f : Field A) (l : Layout) (es c d : List ℕ) → 0 < layers l → length c ≡ trays l * layers l → RestoredTo f l es c (layers l) d →
    ((x j : ℕ) → x < trays l → j < layers l → Kept es x → get_or c (x * layers l + j) 0 < f.coding.size) → InRange f.coding d
restored_range f l es c d pos long r old = record {
  at = λ i h. subst (λ k. get_or d k 0 < f.coding.size) (div-add-mod' i (layers l))
      (place (i / layers l) (i % layers l) (rack i h) (mod-lt i pos));
}
  where
    rack : (i : ℕ) → i < length d → i / layers l < trays l
    rack i h = (div-lt_iff_lt-mul pos).1 (subst (λ n. i < n) (r.long ∙ long) h)

    place : (x j : ℕ) → x < trays l → j < layers l → get_or d (x * layers l + j) 0 < f.coding.size
    place x j hx hj =
        place_cases (get_or d (x * layers l + j) 0 < f.coding.size) (entry_of es) (length es) x
        (λ k hk e. subst (λ y. get_or d (y * layers l + j) 0 < f.coding.size) (sym e) (r.small k j hk hj))
        (λ kept. rw (r.kept x j hj kept) (old x j hx hj kept))

-- a list that passed its tests
pub list_listed : (l : Layout) (es : List ℕ) → all_below es (trays l) ≡ true → strictly_rising es ≡ true → length es ≤ checks l → Listed l es
list_listed l es b r n = record { places = list_places es (trays l) b r; few = n }

-- any at most r trays of a codeword come back: whatever stands in their place, it is the one codeword that has the survivors
pub comes_back : {A : Type 0} (f : Field A) (l : Layout) → Usable f l → (es c w : List ℕ) → all_below es (trays l) ≡ true → strictly_rising es ≡ true → length es ≤ checks l →
    Codeword f l w → Survivors l es c w → Restores f l es c w
comes_back f l ok es c w b r n = its_own f l ok es c (list_listed l es b r n) w
