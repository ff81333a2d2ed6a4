-- The bench book's image by computation: live tray 1 of (2, 1, 1, 1), volume 7, symbol A7. Written, read, and read as what it is not.
-- Assumes nothing.
use mathlib.Core.Path.{◌≡◌, refl}
use mathlib.Core.List.{List, [], ◌∷◌}
use Prim.Native.Nat.{ℕ}
use lib.ListN.{drop, replicate, set}
use Rattle.lists.specs.Lists.{table, all, all_below}
use Rattle.layout.specs.declared.Layout.{Layout}
use Rattle.layout.specs.Layout.{admissible, size_allowed}
use Rattle.image.specs.Image.{edition1, edition2, little, header, symbol_bytes, in_range, write_refusal, write_buffer, own_layout}
use Rattle.image.specs.Image.{own_symbols, begins}
use Rattle.image.specs.Image.{well_formed, same_layout, read_refusal, read_tray, read_symbols}

abbrev small : Layout
small = record { racks = 2; size = 1; dimension = 1; helpers = 1; errors = 0 }

abbrev book : List ℕ
book =
    0x18 ∷ 0x00 ∷ 0x01 ∷ 0x01 ∷ 0x02 ∷ 0x01 ∷ 0x01 ∷ 0x01 ∷ 0x01 ∷ 0x00 ∷ 0x00 ∷ 0x00
    ∷ 0x07 ∷ 0x00 ∷ 0x00 ∷ 0x00 ∷ 0x18 ∷ 0x00 ∷ 0x00 ∷ 0x00 ∷ 0x01 ∷ 0x00 ∷ 0x00 ∷ 0x00 ∷ 0xA7 ∷ []

-- what a part of an image that is handed out must have
abbrev L : ℕ
L = 1

pub worked_image :
    (write_buffer edition1 small 1 1 7 (0xA7 ∷ []) (replicate 25 0) ≡ book)
    × (read_refusal edition1 small 7 L book ≡ 0)
    × (read_tray edition1 small 7 L book ≡ 1)
    × (read_symbols edition1 small 7 L [] book ≡ 0xA7 ∷ [])
    -- of another volume; a demonstration of another volume; of another edition; cut short
    × (read_refusal edition1 small 8 L book ≡ 11)
    × (read_refusal edition1 small 8 L (set book 3 2) ≡ 10)
    × (read_refusal edition1 small 7 L (set book 2 2) ≡ 9)
    × (read_refusal edition1 small 7 L (drop 1 book) ≡ 9)
unfolding write_buffer write_refusal in_range header little symbol_bytes admissible size_allowed
    read_refusal read_tray read_symbols own_symbols table all_below well_formed begins all own_layout same_layout
worked_image = (refl, refl, refl, refl, refl, refl, refl, refl)

-- the same tray in edition 2, with the largest symbol, and with one too large; to no place, which edition 2 measures first; and each edition read as the other
abbrev second : List ℕ
second =
    0x18 ∷ 0x00 ∷ 0x02 ∷ 0x01 ∷ 0x02 ∷ 0x01 ∷ 0x01 ∷ 0x01 ∷ 0x01 ∷ 0x00 ∷ 0x00 ∷ 0x00
    ∷ 0x07 ∷ 0x00 ∷ 0x00 ∷ 0x00 ∷ 0x18 ∷ 0x00 ∷ 0x00 ∷ 0x00 ∷ 0x01 ∷ 0x00 ∷ 0x00 ∷ 0x00 ∷ 0x00 ∷ 0x01 ∷ []

pub worked_second :
    (write_buffer edition2 small 1 1 7 (256 ∷ []) (replicate 26 0) ≡ second)
    × (write_refusal edition2 small 1 1 7 (257 ∷ []) 26 ≡ 3)
    × (read_refusal edition2 small 7 L second ≡ 0)
    × (read_tray edition2 small 7 L second ≡ 1)
    × (read_symbols edition2 small 7 L (9 ∷ []) second ≡ 256 ∷ [])
    × (read_symbols edition2 small 8 L (9 ∷ []) second ≡ 9 ∷ [])
    × (read_refusal edition2 small 7 L (set second 24 1) ≡ 9)
    × (read_refusal edition2 small 8 L (set second 3 2) ≡ 10)
    × (read_refusal edition2 small 7 0 [] ≡ 2)
    × (read_refusal edition2 small 7 L book ≡ 9)
    × (read_refusal edition1 small 7 L second ≡ 9)
unfolding write_buffer write_refusal in_range header little symbol_bytes admissible size_allowed
    read_refusal read_tray read_symbols own_symbols table all_below well_formed begins all own_layout same_layout
worked_second = (refl, refl, refl, refl, refl, refl, refl, refl, refl, refl, refl)
