-- The symbols of edition 2, two bytes each: written, tested and copied.
-- Assumes nothing.
use mathlib.Core.Path.{◌≡◌, sym, ap, ◌∙◌}
use mathlib.Core.Bool.{true, false}
use mathlib.Core.List.{List}
use Prim.Native.Nat.{ℕ, ◌+◌, ◌*◌, ◌/◌, ◌%◌, ◌≤◌, ◌<◌}
use native.Mathlib.Nat.{add-zero}
use native.Mathlib.Omega.{arith}
use lib.Dec.{ltb, lit<}
use lib.ListN.{length, get_or, set}
use lib.Seq.{ext_get_or}
use borrow.Author.Tests.{ltb-true, lt-ltb}
use Rattle.lists.specs.Lists.{table}
use Rattle.lists.proofs.Bools.{all_true, all_false}
use Rattle.lists.proofs.Loops.{Upto, upto_more}
use Rattle.lists.proofs.Tables.{is_table}
use Rattle.layout.specs.declared.Layout.{Layout}
use Rattle.layout.specs.Layout.{layers}
use Rattle.image.specs.Image.{edition2, header_length, little, symbol_bytes, own_layout, symbol_at, own_symbols, read_refusal, read_symbols}
use Rattle.image.specs.Inner.{symbols_held}
use Rattle.image.proofs.Editions.{proper2}
use Rattle.image.proofs.Numbers.{symbols_length, symbols_at}
use Rattle.image.proofs.ReadGrounds.{readable, given_symbols}

-- WRITING

-- a byte of the symbols
abbrev pub byte_of : List ℕ → ℕ → ℕ
byte_of symbols i = get_or (symbol_bytes 2 symbols) i 0

low_byte : (symbols : List ℕ) (j : ℕ) → j < length symbols → get_or symbols j 0 % 256 ≡ byte_of symbols (2 * j)
unfolding little
low_byte symbols j h = sym (symbols_at 2 symbols j 0 h (lit< tt)) ∙ ap (byte_of symbols) (add-zero (2 * j))

high_byte : (symbols : List ℕ) (j : ℕ) → j < length symbols → get_or symbols j 0 / 256 % 256 ≡ byte_of symbols (2 * j + 1)
unfolding little
high_byte symbols j h = sym (symbols_at 2 symbols j 1 h (lit< tt))

module _ (symbols out₀ : List ℕ) (fits : length out₀ ≡ edition2.width * length symbols) where
  pub pair_more : (out last : List ℕ) (j x : ℕ) → Upto (byte_of symbols) out₀ out (2 * j) → j < length symbols → x ≡ get_or symbols j 0
      → last ≡ set (set out (2 * j) (x % 256)) (2 * j + 1) (x / 256 % 256) → Upto (byte_of symbols) out₀ last (2 * (j + 1))
  pair_more out last j x u h e is =
      let one = upto_more (byte_of symbols) {v = x % 256} u (omega arith) (ap (λ y. y % 256) e ∙ low_byte symbols j h) in
      let two = upto_more (byte_of symbols) {v = x / 256 % 256} one (omega arith) (ap (λ y. y / 256 % 256) e ∙ high_byte symbols j h) in
      let n : 2 * j + 1 + 1 ≡ 2 * (j + 1) = omega arith in
      rw (is, sym n) two

  pub pairs_all : (out : List ℕ) (j : ℕ) → Upto (byte_of symbols) out₀ out (2 * j) → length symbols ≤ j → out ≡ symbol_bytes edition2.width symbols
  pairs_all out j u h =
      ext_get_or 0 out (symbol_bytes 2 symbols) (u.same ∙ fits ∙ sym (symbols_length 2 symbols)) (λ i k. u.low i (omega (arith, u.same)))

-- TESTING

module _ (s : List ℕ) (total : ℕ) where
  pub held_false : (j x : ℕ) → j < total → x ≡ symbol_at edition2 s j → edition2.size ≤ x → false ≡ symbols_held edition2 s total
  unfolding symbols_held
  held_false j x h e k = all_false (λ j. ltb (symbol_at edition2 s j) edition2.size) total j h (λ t. let l = ltb-true (symbol_at edition2 s j) edition2.size t in omega arith)

  pub held_true : ((i : ℕ) → i < total → symbol_at edition2 s i < edition2.size) → true ≡ symbols_held edition2 s total
  unfolding symbols_held
  held_true h = sym (all_true (λ j. ltb (symbol_at edition2 s j) edition2.size) total (λ j k. lt-ltb _ _ (h j k)))

-- COPYING

pub copied_all : (s places₀ places : List ℕ) (j : ℕ) → Upto (symbol_at edition2 s) places₀ places j → length places ≤ j
    → places ≡ table (symbol_at edition2 s) (length places₀)
copied_all s places₀ places j u h = is_table places (symbol_at edition2 s) (length places₀) u.same (λ i k. u.low i (omega (arith, u.same)))

module _ (l : Layout) (volume : ℕ) (s places : List ℕ) (e : ℕ) (q : e ≡ read_refusal edition2 l volume (length places) s) (z : e ≡ 0) where
  count : length places ≡ layers (own_layout s)
  count = let r = readable edition2 l volume (length places) s proper2 (sym q ∙ z) in r.places_is ∙ ap (λ m. layers m) r.layout_is

  pub copy_room : header_length + edition2.width * length places ≤ length s
  copy_room = omega (arith, (readable edition2 l volume (length places) s proper2 (sym q ∙ z)).formed.head.whole, count)

  pub copied_given : (last : List ℕ) → last ≡ table (symbol_at edition2 s) (length places) → last ≡ read_symbols edition2 l volume (length places) places s
  unfolding own_symbols
  copied_given last is = is ∙ ap (table (symbol_at edition2 s)) count ∙ given_symbols edition2 l volume (length places) s e q z places
