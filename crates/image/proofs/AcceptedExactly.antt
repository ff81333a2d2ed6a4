-- What a read accepts is exactly what a live write makes: a read gives a tray and symbols where, and only where, there are the places for them, and writing
-- them live for the same layout and volume makes these very bytes, whatever the lent ones held.
-- Assumes nothing.
use mathlib.Core.Path.{◌≡◌, refl, sym, ap, ap₂, ◌∙◌}
use mathlib.Core.Bool.{true}
use mathlib.Core.List.{List, ◌++◌}
use mathlib.Core.Logic.{◌↔◌}
use Prim.Native.Nat.{ℕ, ◌+◌, ◌*◌, ◌^◌, ◌<◌}
use native.Mathlib.Omega.{arith}
use lib.ListN.{length, get_or, drop}
use Rattle.lists.specs.Lists.{all_below}
use Rattle.lists.proofs.Numbered.{below_true}
use Rattle.lists.proofs.Tables.{table_length, table_at}
use Rattle.layout.specs.declared.Layout.{Layout}
use Rattle.layout.specs.Layout.{trays, layers}
use Rattle.image.specs.declared.Edition.{Edition}
use Rattle.image.specs.Image.{edition1, header_length, image_length, live, header, symbol_bytes, write_refusal}
use Rattle.image.specs.Image.{own_layout, own_state, own_tray, own_volume, symbol_at, own_symbols, read_refusal, read_tray, read_symbols}
use Rattle.image.specs.Claims.{Gives, Made, AcceptedExactly}
use Rattle.image.specs.Inner.{Proper, state_allowed, volume_allowed, own_header}
use Rattle.image.proofs.Editions.{proper1}
use Rattle.image.proofs.Numbers.{symbols_back}
use Rattle.image.proofs.Bytes.{header_length_lem, begins_split}
use Rattle.image.proofs.WriteGrounds.{Writable, written, written_0}
use Rattle.image.proofs.ReadGrounds.{Readable, readable, given_symbols, given_tray}
use Rattle.image.proofs.RoundTrip.{round_trip}

-- the bytes of an accepted image
module _ (ed : Edition) (g : Proper ed) (l : Layout) (volume places : ℕ) (s : List ℕ) (ok : read_refusal ed l volume places s ≡ 0) where
  r : Readable ed l volume places s
  r = readable ed l volume places s g ok

  split : ((i : ℕ) → header_length + i < length s → get_or s (header_length + i) 0 < 256) → s ≡ header ed l (own_tray s) live volume ++ symbol_bytes ed.width (own_symbols ed s)
  unfolding own_symbols
  split byte =
      let f = r.formed.head in
      let h = header_length_lem ed (own_layout s) (own_tray s) (own_state s) (own_volume s) in
      begins_split s (own_header ed s) (omega (arith, h, f.long)) f.front
      ∙ ap₂ (λ x n. x ++ drop n s) (λ i. header ed (sym r.layout_is i) (own_tray s) (r.live_is i) (sym r.volume_is i)) h
      ∙ ap (λ t. header ed l (own_tray s) live volume ++ t) (symbols_back ed.width s header_length (layers (own_layout s)) byte f.whole)

  symbols_long : length (own_symbols ed s) ≡ layers (own_layout s)
  unfolding own_symbols
  symbols_long = table_length (symbol_at ed s) (layers (own_layout s))

  symbols_below : all_below (own_symbols ed s) ed.size ≡ true
  unfolding own_symbols
  symbols_below =
      sym (below_true (own_symbols ed s) ed.size (λ k h.
      let b : k < layers (own_layout s) = omega (arith, symbols_long) in
      let e : get_or (own_symbols ed s) k 0 ≡ symbol_at ed s k = table_at (symbol_at ed s) (layers (own_layout s)) k b in
      omega (arith, e, r.formed.held k b)))

  may : Writable ed l (own_tray s) live volume (own_symbols ed s) (length s)
  may =
      let f = r.formed.head in
      let same : own_layout s ≡ l = sym r.layout_is in
      let t : trays (own_layout s) ≡ trays l = ap (λ m. trays m) same in
      let x = f.range in
      record {
        adm = r.adm;
        count_is = symbols_long ∙ ap (λ m. layers m) same;
        room_is = f.whole ∙ ap (λ m. image_length ed m) same;
        range = record {
          tray_in = omega arith;
          state_ok = ap state_allowed (sym r.live_is) ∙ x.state_ok;
          volume_ok = ap volume_allowed r.volume_is ∙ x.volume_ok;
        };
        symbols_in = symbols_below;
      }

  own_tray_is : read_tray ed l volume places s ≡ own_tray s
  own_tray_is = sym (given_tray ed l volume places s 0 (sym ok) refl (own_tray s) (own_tray s) refl refl)

  own_symbols_are : (refused : List ℕ) → read_symbols ed l volume places refused s ≡ own_symbols ed s
  own_symbols_are refused = sym (given_symbols ed l volume places s 0 (sym ok) refl refused)

module _ (ed : Edition) (g : Proper ed) (l : Layout) (volume places : ℕ) (refused s : List ℕ) (tray : ℕ) (symbols : List ℕ) where
  given_made : (read_refusal ed l volume places s ≡ 0 → (i : ℕ) → header_length + i < length s → get_or s (header_length + i) 0 < 256)
      → Gives ed l volume places refused s tray symbols → Made ed l volume places s tray symbols
  given_made byte (ok, t, p) =
      let x : tray ≡ own_tray s = sym t ∙ own_tray_is ed g l volume places s ok in
      let y : symbols ≡ own_symbols ed s = sym p ∙ own_symbols_are ed g l volume places s ok refused in
      let own = written_0 ed l (own_tray s) live volume (own_symbols ed s) (length s) g (may ed g l volume places s ok) in
      let done : write_refusal ed l tray live volume symbols (length s) ≡ 0 = (λ i. write_refusal ed l (x i) live volume (y i) (length s)) ∙ own in (
        (r ed g l volume places s ok).places_is,
        done,
        λ old e.
            sym (written ed l tray live volume symbols old (ap (write_refusal ed l tray live volume symbols) e ∙ done))
            ∙ (λ i. header ed l (x i) live volume ++ symbol_bytes ed.width (y i))
            ∙ sym (split ed g l volume places s ok (byte ok)),
      )

  made_given : volume < 2 ^ 32 → Made ed l volume places s tray symbols → Gives ed l volume places refused s tray symbols
  made_given v (n, done, makes) =
      let is = sym (makes s refl) in
      let t = round_trip ed g l tray volume symbols s refused v done in (
        (λ i. read_refusal ed l volume (n i) (is i)) ∙ t.0,
        (λ i. read_tray ed l volume (n i) (is i)) ∙ t.1,
        (λ i. read_symbols ed l volume (n i) refused (is i)) ∙ t.2,
      )

pub accepted_exactly : (ed : Edition) → Proper ed → AcceptedExactly ed
accepted_exactly ed g l volume places refused s tray symbols v byte =
    (given_made ed g l volume places refused s tray symbols (λ ok i h. byte (header_length + i)), made_given ed g l volume places refused s tray symbols v)

-- in edition 1 an accepted image holds bytes by itself
held_bytes : (l : Layout) (volume places : ℕ) (s : List ℕ) → read_refusal edition1 l volume places s ≡ 0 → (i : ℕ) → header_length + i < length s
    → get_or s (header_length + i) 0 < 256
held_bytes l volume places s ok i h =
    let f = (readable edition1 l volume places s proper1 ok).formed in
    let b : i < layers (own_layout s) = omega (arith, f.head.whole) in
    let e : header_length + 1 * i ≡ header_length + i = omega arith in
    let t : get_or s (header_length + 1 * i) 0 < 256 = omega (arith, f.held i b) in
    rw e at t

pub accepted_exactly_1 : (l : Layout) (volume places : ℕ) (refused s : List ℕ) (tray : ℕ) (symbols : List ℕ) → volume < 2 ^ 32
    → Gives edition1 l volume places refused s tray symbols ↔ Made edition1 l volume places s tray symbols
accepted_exactly_1 l volume places refused s tray symbols v = (
  given_made edition1 proper1 l volume places refused s tray symbols (held_bytes l volume places s),
  made_given edition1 proper1 l volume places refused s tray symbols v,
)
