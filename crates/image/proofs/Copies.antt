-- The two copies of a write: the header over the front of the image, the symbols over all that is left.
-- Assumes nothing.
use mathlib.Core.Path.{◌≡◌, sym, ap, ap₂, ◌∙◌}
use mathlib.Core.Bool.{Bool, true}
use mathlib.Core.List.{List, ◌++◌, append-nil}
use Prim.Native.Nat.{ℕ, ◌+◌, ◌-◌, ◌*◌, ◌≤◌}
use native.Mathlib.Omega.{arith}
use lib.ListN.{length, take, drop, length-append, length-drop, drop_of_length-le}
use lib.Seq.{take_all, take-length, take_at}
use Rattle.lists.specs.Lists.{all_below}
use Rattle.layout.specs.declared.Layout.{Layout}
use Rattle.layout.specs.Layout.{layers, Cabinet}
use Rattle.image.specs.declared.Edition.{Edition}
use Rattle.image.specs.Image.{header_length, header, symbol_bytes, write_refusal, write_buffer}
use Rattle.image.specs.Inner.{Proper, write_grounds}
use Rattle.image.proofs.Bytes.{header_length_lem}
use Rattle.image.proofs.WriteGrounds.{Writable, writable, write_answer, written}

module _ (ed : Edition) (l : Layout) (tray state volume : ℕ) (symbols image : List ℕ) (g : Proper ed) (b : Bool) (e : ℕ)
    (t : b ≡ all_below symbols ed.size) (q : e ≡ write_grounds ed l tray state volume (length symbols) b (length image)) (z : e ≡ 0) where
  done : write_refusal ed l tray state volume symbols (length image) ≡ 0
  done = sym (write_answer ed l tray state volume symbols image b e t q) ∙ z

  may : Writable ed l tray state volume symbols (length image)
  may = writable ed l tray state volume symbols (length image) g done

  pub copy_cabinet : Cabinet l
  copy_cabinet = may.adm.cabinet

  pub copy_done : 0 ≡ write_refusal ed l tray state volume symbols (length image)
  copy_done = sym done

  pub copy_symbols : all_below symbols ed.size ≡ true
  copy_symbols = may.symbols_in

  module _ (h : List ℕ) (h-is : h ≡ header ed l tray state volume) where
    h_long : length h ≡ header_length
    h_long = ap length h-is ∙ header_length_lem ed l tray state volume

    pub header_fits : length h ≤ length image
    header_fits = omega (arith, h_long, may.room_is)

    -- d is the image after the first copy
    module _ (d : List ℕ) (d_is : d ≡ take (length h) h ++ drop (length h) image) where
      laid : d ≡ h ++ drop header_length image
      laid = d_is ∙ ap₂ (λ a n. a ++ drop n image) (take-length h) h_long

      d_long : length d ≡ header_length + ed.width * length symbols
      d_long =
          let count : ed.width * length symbols ≡ ed.width * layers l = ap (λ n. ed.width * n) may.count_is in
          ap length laid ∙ length-append h (drop header_length image) ∙ omega (arith, h_long, length-drop header_length image, count, may.room_is)

      -- the part that is lent for the symbols is all from the header on
      part_is : take (length d - header_length) (drop header_length d) ≡ drop header_length d
      part_is = take_all (length d - header_length) (drop header_length d) (omega (arith, length-drop header_length d))

      pub symbols_fit : length (take (length d - header_length) (drop header_length d)) ≡ ed.width * length symbols
      symbols_fit = omega (arith, ap length part_is, length-drop header_length d, d_long)

      pub all_written : (last : List ℕ) → last ≡ symbol_bytes ed.width symbols
          → take header_length d ++ (last ++ drop (length d - header_length) (drop header_length d)) ≡ write_buffer ed l tray state volume symbols image
      all_written last last_is =
          let front : take header_length d ≡ h = ap (take header_length) laid ∙ take_at h (drop header_length image) header_length h_long in
          let none = drop_of_length-le (drop header_length d) {i = length d - header_length} (omega (arith, length-drop header_length d)) in
          ap₂ ◌++◌ (front ∙ h-is) (ap₂ ◌++◌ last_is none ∙ append-nil (symbol_bytes ed.width symbols))
          ∙ written ed l tray state volume symbols image done
