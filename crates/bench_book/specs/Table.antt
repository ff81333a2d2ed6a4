-- The starred lines of document 01's bench book, as document 02 changed them, as one table, and what it claims of each.
-- Assumes nothing.
use Rattle.std.specs.Prelude.{◌≡◌, cond, List, [], ◌∷◌, ◌++◌, ℕ, eqb, ℤ, pos, negsuc, length, replicate}
use Rattle.symbol.specs.Elem.{gf256}
use Rattle.layout.specs.declared.Layout.{Layout}
use Rattle.layout.specs.declared.Measured.TheVariants.{Known, Refused}
use Rattle.layout.specs.Layout.{measured}
use Rattle.store.specs.Store.{Stores, store_refusal}
use Rattle.share.specs.Many.{shares_refusal, shares_of}
use Rattle.margin.specs.Margin.{margin_refusal, margin_of}

-- a line of the bench book
pub data Line : Type 0 where
  -- a layout, and what the layout call of the field whose root has N powers answers: the refusal, L, r and the symbols that cross
  measures : ℕ → Layout → ℕ → ℕ → ℕ → ℕ → Line
  -- data, and the codeword they are stored as
  stores : Layout → List ℕ → List ℕ → Line
  -- a host rack, a helper, the helper's rack, and its share
  shares : Layout → ℕ → ℕ → List ℕ → List ℕ → Line
  -- the states of the trays, and the margin
  margins : Layout → List ℕ → ℤ → Line

abbrev pub Holds : Line → Type 0
Holds (measures N l refusal total r cost) = measured N l ≡ cond (eqb refusal 0) (Known total r cost) (Refused refusal)
Holds (stores l given c) = (store_refusal gf256 l given (length c) ≡ 0) × Stores gf256 l given c
Holds (shares l host helper rack share) = (shares_refusal gf256 l 1 host helper rack (length share) ≡ 0) × (shares_of gf256 l 1 host rack ≡ share)
Holds (margins l states margin) = (margin_refusal gf256.order l states ≡ 0) × (margin_of l states ≡ margin)

abbrev pub AllHold : List Line → Type 0
AllHold [] = Unit
AllHold (line ∷ lines) = Holds line × AllHold lines

abbrev pub cabinet : ℕ → ℕ → ℕ → ℕ → Layout
cabinet b u k d = record { racks = b; size = u; dimension = k; helpers = d; errors = 0 }

-- (3, 1, 1, 2): tray after tray
abbrev pub tray0 : List ℕ
tray0 = 0x14 ∷ 0x14 ∷ 0x18 ∷ 0x18 ∷ 0x24 ∷ 0x24 ∷ 0x28 ∷ 0x28 ∷ []

abbrev pub tray1 : List ℕ
tray1 = 0x11 ∷ 0x12 ∷ 0x11 ∷ 0x12 ∷ 0x21 ∷ 0x22 ∷ 0x21 ∷ 0x22 ∷ []

abbrev pub tray2 : List ℕ
tray2 = 0x05 ∷ 0x06 ∷ 0x09 ∷ 0x0A ∷ 0x05 ∷ 0x06 ∷ 0x09 ∷ 0x0A ∷ []

abbrev pub present : ℕ → ℕ → List ℕ
present live absent = replicate live 1 ++ replicate absent 0

abbrev pub bench_book : List Line
bench_book =
    measures 255 (cabinet 4 3 8 3) 0 16 4 24
    ∷ measures 255 (cabinet 4 4 8 3) 1 0 0 0
    ∷ measures 255 (cabinet 4 3 2 3) 1 0 0 0
    ∷ measures 255 (cabinet 4 3 10 3) 1 0 0 0
    ∷ measures 255 (cabinet 4 3 8 4) 1 0 0 0
    ∷ measures 255 (cabinet 4 3 8 1) 1 0 0 0
    ∷ measures 255 (cabinet 10 3 24 9) 0 1024 6 4608
    -- document 02, W4: two more cabinets, and one still too large
    ∷ measures 255 (cabinet 11 3 27 10) 0 2048 6 10240
    ∷ measures 255 (cabinet 7 5 24 6) 0 2187 11 4374
    ∷ measures 255 (cabinet 13 3 33 12) 1 0 0 0
    -- document 02, W10: racks of four in the field modulo 257, refused in the field of 256
    ∷ measures 256 (cabinet 5 4 15 4) 0 32 5 64
    ∷ measures 255 (cabinet 5 4 15 4) 1 0 0 0
    ∷ stores (cabinet 2 1 1 1) (0xA7 ∷ []) (0xA7 ∷ 0xA7 ∷ [])
    ∷ stores (cabinet 3 1 1 2) tray0 (tray0 ++ tray1 ++ tray2)
    ∷ shares (cabinet 3 1 1 2) 0 1 tray1 (0x03 ∷ 0x03 ∷ 0x03 ∷ 0x03 ∷ [])
    ∷ shares (cabinet 3 1 1 2) 0 2 tray2 (0x03 ∷ 0x03 ∷ 0x03 ∷ 0x03 ∷ [])
    -- 8 symbols cross
    ∷ measures 255 (cabinet 3 1 1 2) 0 8 2 8
    ∷ shares (cabinet 3 1 1 2) 1 0 tray0 (0x0C ∷ 0x0C ∷ 0x0C ∷ 0x0C ∷ [])
    ∷ margins (cabinet 4 3 8 3) (present 7 5) (negsuc 0)
    ∷ margins (cabinet 4 3 8 3) (present 12 0) (pos 4)
    -- 12 trays, of which 5 are demonstration (document 02)
    ∷ margins (cabinet 4 3 8 3) (replicate 7 1 ++ replicate 5 2) (negsuc 0)
    ∷ []
