-- Tray images: a header of 24 bytes by document 01's table, with document 02's fifth number of a layout (W12), then the symbols; and what writing and reading give.
-- An edition says what the images of a field
-- have of their own: its number, the order of the field's root, how many symbols the field has, and the bytes that a symbol takes.
-- Assumes nothing.
use Rattle.std.specs.Prelude.{Bool, cond, ◌&&◌, ◌||◌, not, List, [], ◌∷◌, ◌++◌, ℕ, zero, suc, ◌+◌, ◌*◌, ◌/◌, ◌%◌, leb, ltb, eqb, length, get_or}
use Rattle.lists.specs.Lists.{table, unless, all, all_below}
use Rattle.layout.specs.declared.Layout.{Layout}
use Rattle.layout.specs.Layout.{trays, layers, admissible}
use Rattle.image.specs.declared.Edition.{Edition}

-- images over the field of 256, and over the whole numbers modulo 257 (document 02, W10)
abbrev pub edition1 : Edition
edition1 = record { number = 1; order = 255; size = 256; width = 1 }

abbrev pub edition2 : Edition
edition2 = record { number = 2; order = 256; size = 257; width = 2 }

-- the length of the header, where the symbols start
abbrev pub header_length : ℕ
header_length = 24

-- the length of an image: 24 + L, and 24 + 2·L
abbrev pub image_length : Edition → Layout → ℕ
image_length e l = header_length + e.width * layers l

-- the states of an image
abbrev pub live : ℕ
live = 1

abbrev pub demonstration : ℕ
demonstration = 2

-- a number in so many bytes, little endian
unfoldable pub little : ℕ → ℕ → List ℕ
little zero x = []
little (suc n) x = x % 256 ∷ little n (x / 256)

-- the number that so many bytes of a list hold from a place on, little endian
abbrev pub number_at : ℕ → ℕ → List ℕ → ℕ
number_at at zero s = 0
number_at at (suc n) s = get_or s at 0 + 256 * number_at (suc at) n s

-- the header: document 01's table from the top down, each entry with the bytes it takes
unfoldable pub header : Edition → Layout → ℕ → ℕ → ℕ → List ℕ
header e l tray state volume =
    little 2 header_length
    ++ little 1 e.number
    ++ little 1 state
    ++ little 1 l.racks
    ++ little 1 l.size
    ++ little 1 l.dimension
    ++ little 1 l.helpers
    ++ little 1 tray
    ++ little 1 l.errors
    ++ little 2 0
    ++ little 4 volume
    ++ little 4 header_length
    ++ little 4 (layers l)

-- symbols, each in so many bytes
unfoldable pub symbol_bytes : ℕ → List ℕ → List ℕ
symbol_bytes w [] = []
symbol_bytes w (x ∷ xs) = little w x ++ symbol_bytes w xs

-- a tray of the layout, a state that an image may have, and a volume number: not 0, which is what a reset tray comes up with
unfoldable pub in_range : Layout → ℕ → ℕ → ℕ → Bool
in_range l tray state volume = ltb tray (trays l) && (eqb state live || eqb state demonstration) && not (eqb volume 0)

-- WRITING

-- the refusal, 0 for none; the bytes lent for the image are room
unfoldable pub write_refusal : Edition → Layout → ℕ → ℕ → ℕ → List ℕ → ℕ → ℕ
write_refusal e l tray state volume symbols room =
    unless (admissible e.order l) 1
    (unless (eqb (length symbols) (layers l) && eqb room (image_length e l)) 2
    (unless (in_range l tray state volume && all_below symbols e.size) 3 0))

-- the lent bytes of the image afterwards
unfoldable pub write_buffer : Edition → Layout → ℕ → ℕ → ℕ → List ℕ → List ℕ → List ℕ
write_buffer e l tray state volume symbols image =
    cond (eqb (write_refusal e l tray state volume symbols (length image)) 0)
    (header e l tray state volume ++ symbol_bytes e.width symbols)
    image

-- READING

-- what an image says of itself
abbrev pub own_state : List ℕ → ℕ
own_state s = get_or s 3 0

unfoldable pub own_layout : List ℕ → Layout
own_layout s = record { racks = get_or s 4 0; size = get_or s 5 0; dimension = get_or s 6 0; helpers = get_or s 7 0; errors = get_or s 9 0 }

abbrev pub own_tray : List ℕ → ℕ
own_tray s = get_or s 8 0

abbrev pub own_volume : List ℕ → ℕ
own_volume s = number_at 12 4 s

-- its symbols
abbrev pub symbol_at : Edition → List ℕ → ℕ → ℕ
symbol_at e s j = number_at (header_length + e.width * j) e.width s

unfoldable pub own_symbols : Edition → List ℕ → List ℕ
own_symbols e s = table (symbol_at e s) (layers (own_layout s))

-- whether a list begins with another
unfoldable pub begins : List ℕ → List ℕ → Bool
begins s front = all (λ i. eqb (get_or s i 0) (get_or front i 0)) (length front)

-- an image that is not malformed, all by what it says of itself: a whole header, an admissible layout, the length, a tray below n, a state and volume allowed, no
-- other header than the one of what it says, and symbols of the field
unfoldable pub well_formed : Edition → List ℕ → Bool
well_formed e s =
    leb header_length (length s)
    && admissible e.order (own_layout s)
    && eqb (length s) (image_length e (own_layout s))
    && in_range (own_layout s) (own_tray s) (own_state s) (own_volume s)
    && begins s (header e (own_layout s) (own_tray s) (own_state s) (own_volume s))
    && all (λ j. ltb (symbol_at e s j) e.size) (layers (own_layout s))

-- the same five numbers
unfoldable pub same_layout : Layout → Layout → Bool
same_layout l m =
    eqb l.racks m.racks && eqb l.size m.size && eqb l.dimension m.dimension && eqb l.helpers m.helpers
    && eqb l.errors m.errors

-- the refusal, 0 for none, where the symbols go to so many places: edition 2 copies them to lent ones; edition 1 hands out the part of the image that holds
-- them, which has the places L that it must have
unfoldable pub read_refusal : Edition → Layout → ℕ → ℕ → List ℕ → ℕ
read_refusal e l volume places s =
    unless (admissible e.order l) 1
    (unless (eqb places (layers l)) 2
    (unless (well_formed e s) 9
    (unless (eqb (own_state s) live) 10
    (unless (same_layout l (own_layout s) && eqb volume (own_volume s)) 11 0))))

-- the tray number that is given; 0 with a refusal
unfoldable pub read_tray : Edition → Layout → ℕ → ℕ → List ℕ → ℕ
read_tray e l volume places s = cond (eqb (read_refusal e l volume places s) 0) (own_tray s) 0

-- the symbols that are given, and what there is with a refusal: in edition 1 an empty part, in edition 2 the lent places as they were
unfoldable pub read_symbols : Edition → Layout → ℕ → ℕ → List ℕ → List ℕ → List ℕ
read_symbols e l volume places refused s = cond (eqb (read_refusal e l volume places s) 0) (own_symbols e s) refused
