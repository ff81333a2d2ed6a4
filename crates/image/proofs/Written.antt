-- What a written image says of itself is what it was written with, and it is well formed.
-- Assumes nothing.
use mathlib.Core.Path.{◌≡◌, sym, ap, ap₂, subst, ◌∙◌}
use mathlib.Core.Bool.{true}
use mathlib.Core.List.{List, ◌++◌}
use mathlib.Core.Logic.{⊎_elim}
use Prim.Native.Nat.{ℕ, ◌+◌, ◌*◌, ◌/◌, ◌%◌, ◌^◌, ◌<◌}
use native.Mathlib.Nat.{mod-eq_of_lt}
use native.Mathlib.Omega.{arith}
use lib.Dec.{eqb}
use lib.ListN.{length, get_or, length-append}
use borrow.Author.Tests.{eqb-true}
use Rattle.lists.proofs.Bools.{either}
use Rattle.lists.proofs.Numbered.{below_all}
use Rattle.lists.proofs.Tables.{is_table}
use Rattle.layout.specs.declared.Layout.{Layout}
use Rattle.layout.specs.Layout.{trays, layers, Admissible}
use Rattle.layout.proofs.Facts.{bounds}
use Rattle.image.specs.declared.Edition.{Edition}
use Rattle.image.specs.Image.{header_length, live, demonstration, little, header, symbol_bytes, own_layout, own_state, own_tray}
use Rattle.image.specs.Image.{own_volume, symbol_at, own_symbols, begins}
use Rattle.image.specs.Inner.{Proper, state_allowed, volume_allowed}
use Rattle.image.proofs.Numbers.{symbols_length, symbols_held_lem}
use Rattle.image.proofs.Bytes.{header_length_lem, begins_append}
use Rattle.image.proofs.WriteGrounds.{Writable}
use Rattle.image.proofs.Forms.{WellFormed}

state_small : (state : ℕ) → state_allowed state ≡ true → state < 256
state_small state h =
    ⊎_elim (λ e. omega (arith, eqb-true state live e)) (λ e. omega (arith, eqb-true state demonstration e)) (either (eqb state live) (eqb state demonstration) h)

low : (x : ℕ) → x < 256 → x % 256 ≡ x
low x h = mod-eq_of_lt h

-- one byte makes a small number again
pub one_byte : (x : ℕ) → x < 256 → x % 256 + 0 ≡ x
one_byte x h = omega arith

-- four bytes make the number again
pub four_bytes : (x : ℕ) → x < 2 ^ 32 → x % 256 + 256 * (x / 256 % 256 + 256 * (x / 256 / 256 % 256 + 256 * (x / 256 / 256 / 256 % 256 + 0))) ≡ x
four_bytes x h = omega arith

module _ (ed : Edition) (g : Proper ed) (l : Layout) (tray state volume : ℕ) (symbols : List ℕ) (room : ℕ)
    (w : Writable ed l tray state volume symbols room) (v : volume < 2 ^ 32) where
  abbrev image : List ℕ
  image = header ed l tray state volume ++ symbol_bytes ed.width symbols

  pub its_edition : get_or image 2 0 ≡ ed.number
  unfolding header little
  its_edition = low ed.number g.number_in

  pub its_layout : own_layout image ≡ l
  unfolding own_layout header little
  its_layout =
      let a = w.adm.cabinet in
      let b = bounds l a in
      λ i. record {
        racks = low l.racks (omega arith) i;
        size = low l.size (omega arith) i;
        dimension = low l.dimension (omega arith) i;
        helpers = low l.helpers (omega arith) i;
        errors = low l.errors (omega (arith, w.adm.errors_high)) i;
      }

  pub its_state : own_state image ≡ state
  unfolding header little
  its_state = low state (state_small state w.range.state_ok)

  pub its_tray : own_tray image ≡ tray
  unfolding header little
  its_tray = let a = w.adm.cabinet in let r = w.range in low tray (omega arith)

  pub its_volume : own_volume image ≡ volume
  unfolding header little
  its_volume = four_bytes volume v

  its_length : length image ≡ header_length + ed.width * length symbols
  its_length = length-append (header ed l tray state volume) _ ∙ ap₂ ◌+◌ (header_length_lem ed l tray state volume) (symbols_length ed.width symbols)

  its_header : header ed l tray state volume ≡ header ed (own_layout image) (own_tray image) (own_state image) (own_volume image)
  its_header = λ i. header ed (sym its_layout i) (sym its_tray i) (sym its_state i) (sym its_volume i)

  -- symbol for symbol
  its_symbol : (k : ℕ) → k < length symbols → symbol_at ed image k ≡ get_or symbols k 0
  its_symbol k h =
      let small = below_all symbols ed.size w.symbols_in k h in
      symbols_held_lem (header ed l tray state volume) header_length ed.width symbols k (header_length_lem ed l tray state volume) h (omega (arith, g.size_in))

  its_count : layers (own_layout image) ≡ length symbols
  its_count = ap (λ m. layers m) its_layout ∙ sym w.count_is

  pub its_symbols : own_symbols ed image ≡ symbols
  unfolding own_symbols
  its_symbols = sym (is_table symbols (symbol_at ed image) (layers (own_layout image)) (sym its_count) (λ k h. sym (its_symbol k (omega (arith, its_count)))))

  pub well_formed_lem : WellFormed ed image
  well_formed_lem =
      record {
        head = record {
          long = omega (arith, its_length);
          adm = subst (Admissible ed.order) (sym its_layout) w.adm;
          whole = its_length ∙ ap (λ n. header_length + ed.width * n) (sym its_count);
          range =
              let r = w.range in
              record {
                tray_in = let e : trays (own_layout image) ≡ trays l = ap (λ m. trays m) its_layout in omega (arith, its_tray);
                state_ok = ap state_allowed its_state ∙ r.state_ok;
                volume_ok = ap volume_allowed its_volume ∙ r.volume_ok;
              };
          front = ap (begins image) (sym its_header) ∙ begins_append (header ed l tray state volume) _;
        };
        held = λ j h.
            let k : j < length symbols = omega (arith, its_count) in
            let small = below_all symbols ed.size w.symbols_in j k in
            omega (arith, its_symbol j k);
      }
