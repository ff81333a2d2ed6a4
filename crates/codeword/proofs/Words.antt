-- A word of the code, given by its symbols, as a buffer of n·L numbers.
-- Assumes nothing.
use mathlib.Core.Path.{◌≡◌, sym, ap, ap₂, ◌∙◌, subst}
use mathlib.Core.List.{List}
use Prim.Native.Nat.{ℕ, ◌+◌, ◌*◌, ◌/◌, ◌%◌, ◌<◌}
use lib.Arith.{digits_div, digits_mod}
use lib.ListN.{length, get_or}
use Rattle.lists.specs.Lists.{table}
use Rattle.lists.proofs.Numbers.{cell_in}
use Rattle.lists.proofs.Tables.{table_length, table_at}
use Rattle.algebra.specs.Shape.{Field}
use Rattle.algebra.specs.Cabinet.{layer_point, Codeword as Word}
use Rattle.algebra.proofs.Erasure.{check_congr}
use Rattle.layout.specs.declared.Layout.{Layout}
use Rattle.layout.specs.Layout.{trays, checks, layers}
use Rattle.codeword.specs.Codeword.{shape_of, symbol_at, Codeword, Usable}
use Rattle.codeword.proofs.Buffers.{from_word}

module _ {A : Type 0} (f : Field A) (l : Layout) (w : ℕ → ℕ → A) where
  cell : ℕ → ℕ
  cell n = f.coding.val (w (n / layers l) (n % layers l))

  -- w x j is the symbol of tray x in layer j
  pub buffer_of : List ℕ
  buffer_of = table cell (trays l * layers l)

  pub buffer_long : length buffer_of ≡ trays l * layers l
  unfolding buffer_of
  buffer_long = table_length cell (trays l * layers l)

  pub buffer_at : (x j : ℕ) → x < trays l → j < layers l → get_or buffer_of (x * layers l + j) 0 ≡ f.coding.val (w x j)
  unfolding buffer_of cell
  buffer_at x j hx hj =
      table_at cell (trays l * layers l) (x * layers l + j) (cell_in (trays l) (layers l) x j hx hj)
      ∙ ap₂ (λ a b. f.coding.val (w a b)) (digits_div x hj) (digits_mod x hj)

  module _ (ok : Usable f l) where
    pub buffer_symbol : (x j : ℕ) → x < trays l → j < layers l → symbol_at f l buffer_of x j ≡ w x j
    unfolding symbol_at
    buffer_symbol x j hx hj = ap f.coding.elem (buffer_at x j hx hj) ∙ ok.field.coded.elem_val _

    -- a word that meets the checks is a codeword in a buffer
    pub buffer_codeword : Word (shape_of f l) (checks l) w → Codeword f l buffer_of
    buffer_codeword good = from_word f l buffer_of buffer_long (record { at = within }) (record {
      at = λ j t h b.
          check_congr f.ops ok.field.laws (layer_point (shape_of f l) j) (trays l) (λ x. x) (λ x. symbol_at f l buffer_of x j) (λ x. w x j) t (λ x q. buffer_symbol x j q h)
          ∙ good.at j t h b;
    })
      where
        within : (i : ℕ) → i < length buffer_of → get_or buffer_of i 0 < f.coding.size
        within i h = unfold buffer_of in subst (λ n. n < f.coding.size)
            (sym (table_at cell (trays l * layers l) i (subst (λ n. i < n) buffer_long h))) (unfold cell in ok.field.coded.val_below _)
