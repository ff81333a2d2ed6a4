-- An image is well formed exactly when it keeps document 01's rules one by one: that the header is the one of what the image says of itself holds
-- nothing more and nothing less.
-- Assumes nothing.
use mathlib.Core.Path.{◌≡◌, refl, sym, ap, subst, ◌∙◌}
use mathlib.Core.Bool.{true}
use mathlib.Core.List.{List, ◌++◌}
use Prim.Native.Nat.{ℕ, ◌+◌, ◌^◌, ◌<◌}
use native.Mathlib.Omega.{arith}
use lib.Dec.{eqb, lit<}
use lib.ListN.{length, get_or, drop}
use borrow.Author.Tests.{eq-eqb}
use Rattle.lists.specs.Lists.{all}
use Rattle.layout.specs.declared.Layout.{Layout}
use Rattle.layout.specs.Layout.{layers, layer_limit}
use Rattle.layout.proofs.Facts.{admissible_facts, facts_admissible}
use Rattle.image.specs.declared.Edition.{Edition}
use Rattle.image.specs.Image.{header_length, little, number_at, header, own_layout, own_state, own_tray, own_volume, begins, well_formed}
use Rattle.image.specs.Rules.{Rules}
use Rattle.image.specs.Claims.{FormedExactly}
use Rattle.image.specs.Inner.{Proper, own_header}
use Rattle.image.proofs.Numbers.{window, bytes_of}
use Rattle.image.proofs.Bytes.{header_length_lem, begins_split}
use Rattle.image.proofs.Forms.{formed_facts, facts_formed}
use Rattle.image.proofs.Written.{one_byte, four_bytes}

module _ (ed : Edition) (g : Proper ed) (s : List ℕ) (byte : (i : ℕ) → get_or s i 0 < 256) where
  -- an entry of the table, where the list holds its number
  entry : (n at x : ℕ) → x ≡ number_at at n s → little n x ≡ window at n s
  entry n at x e = ap (little n) e ∙ bytes_of n at s (λ j h. byte (at + j))

  one : (at : ℕ) → get_or s at 0 ≡ number_at at 1 s
  one at = omega arith

  own_header_lem : Rules ed s → own_header ed s ≡ window 0 header_length s
  unfolding header own_layout
  own_header_lem r = λ i.
      entry 2 0 header_length (sym r.length_is) i
      ++ entry 1 2 ed.number (sym r.edition_is) i
      ++ entry 1 3 (own_state s) (one 3) i
      ++ entry 1 4 (get_or s 4 0) (one 4) i
      ++ entry 1 5 (get_or s 5 0) (one 5) i
      ++ entry 1 6 (get_or s 6 0) (one 6) i
      ++ entry 1 7 (get_or s 7 0) (one 7) i
      ++ entry 1 8 (own_tray s) (one 8) i
      ++ entry 1 9 (get_or s 9 0) (one 9) i
      ++ entry 2 10 0 (sym r.zero_is) i
      ++ entry 4 12 (own_volume s) refl i
      ++ entry 4 16 header_length (sym r.offset_is) i
      ++ entry 4 20 (layers (own_layout s)) (sym r.count_is) i

  same : (x : ℕ) → eqb x x ≡ true
  same x = eq-eqb x x refl

  begins_window : begins s (window 0 header_length s) ≡ true
  unfolding begins all
  begins_window = simp same

  rules_formed : Rules ed s → well_formed ed s ≡ true
  rules_formed r =
      facts_formed ed s g (record {
        head = record {
          long = r.long;
          adm = admissible_facts ed.order (own_layout s) r.layout_ok;
          whole = r.whole;
          range = record { tray_in = r.tray_in; state_ok = r.state_ok; volume_ok = r.volume_ok };
          front = ap (begins s) (own_header_lem r) ∙ begins_window;
        };
        held = r.symbols_in;
      })

-- the entries that the table fixes, in a list that begins with a header
record Fixed (ed : Edition) (s : List ℕ) (total : ℕ) : Type 0 where
  length_is : number_at 0 2 s ≡ header_length
  edition_is : number_at 2 1 s ≡ ed.number
  zero_is : number_at 10 2 s ≡ 0
  offset_is : number_at 16 4 s ≡ header_length
  count_is : number_at 20 4 s ≡ total

fixed : (ed : Edition) → Proper ed → (l : Layout) (tray state volume : ℕ) (rest : List ℕ) → layers l < 2 ^ 32 → Fixed ed (header ed l tray state volume ++ rest) (layers l)
unfolding header little
fixed ed g l tray state volume rest h = record { length_is = refl; edition_is = one_byte ed.number g.number_in; zero_is = refl; offset_is = refl; count_is = four_bytes (layers l) h }

pub formed_rules : (ed : Edition) → Proper ed → (s : List ℕ) → well_formed ed s ≡ true → Rules ed s
formed_rules ed g s h =
    let t = formed_facts ed s g h in
    let w = t.head in
    let a = w.adm.cabinet in
    let n = header_length_lem ed (own_layout s) (own_tray s) (own_state s) (own_volume s) in
    let q : layer_limit < 2 ^ 32 = lit< tt in
    let f = subst (λ t. Fixed ed t (layers (own_layout s))) (sym (begins_split s (own_header ed s) (omega (arith, n, w.long)) w.front))
    (fixed ed g (own_layout s) (own_tray s) (own_state s) (own_volume s) (drop (length (own_header ed s)) s) (omega arith)) in
    record {
      long = w.long;
      length_is = f.length_is;
      edition_is = f.edition_is;
      state_ok = w.range.state_ok;
      zero_is = f.zero_is;
      volume_ok = w.range.volume_ok;
      offset_is = f.offset_is;
      count_is = f.count_is;
      layout_ok = sym (facts_admissible ed.order (own_layout s) w.adm);
      tray_in = w.range.tray_in;
      whole = w.whole;
      symbols_in = t.held;
    }

pub formed_exactly : (ed : Edition) → Proper ed → FormedExactly ed
formed_exactly ed g s byte = (formed_rules ed g s, rules_formed ed g s byte)
