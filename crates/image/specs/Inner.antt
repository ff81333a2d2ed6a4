-- What inner functions are told and give: parts of the definitions of Image.antt. Nothing here has to be believed.
-- Assumes nothing.
use Rattle.std.specs.Prelude.{◌≡◌, Bool, ◌&&◌, ◌||◌, not, List, ℕ, ◌^◌, ◌≤◌, ◌<◌, leb, ltb, eqb, length}
use Rattle.lists.specs.Lists.{unless, all}
use Rattle.layout.specs.declared.Layout.{Layout}
use Rattle.layout.specs.Layout.{layers, admissible, Admissible}
use Rattle.image.specs.declared.Edition.{Edition}
use Rattle.image.specs.Image.{header_length, image_length, live, demonstration, header, in_range}
use Rattle.image.specs.Image.{own_layout, own_state, own_tray, own_volume, symbol_at, begins, same_layout}

-- which states an image may have, and which volume numbers
abbrev pub state_allowed : ℕ → Bool
state_allowed state = eqb state live || eqb state demonstration

abbrev pub volume_allowed : ℕ → Bool
volume_allowed volume = not (eqb volume 0)

-- the grounds of a write; the numbers lent for symbols are count, ok says whether they are symbols, and the bytes for the image are room
unfoldable pub write_grounds : Edition → Layout → ℕ → ℕ → ℕ → ℕ → Bool → ℕ → ℕ
write_grounds e l tray state volume count ok room =
    unless (admissible e.order l) 1
    (unless (eqb count (layers l) && eqb room (image_length e l)) 2
    (unless (in_range l tray state volume && ok) 3 0))

-- the header of what an image says of itself
abbrev pub own_header : Edition → List ℕ → List ℕ
own_header e s = header e (own_layout s) (own_tray s) (own_state s) (own_volume s)

-- an image whose header and length are not malformed
unfoldable pub header_formed : Edition → List ℕ → Bool
header_formed e s =
    leb header_length (length s)
    && admissible e.order (own_layout s)
    && eqb (length s) (image_length e (own_layout s))
    && in_range (own_layout s) (own_tray s) (own_state s) (own_volume s)
    && begins s (own_header e s)

-- whether its first so many symbols are of the field
unfoldable pub symbols_held : Edition → List ℕ → ℕ → Bool
symbols_held e s n = all (λ j. ltb (symbol_at e s j) e.size) n

-- an image of the layout and volume expected
abbrev pub expected : Layout → ℕ → List ℕ → Bool
expected l volume s = same_layout l (own_layout s) && eqb volume (own_volume s)

-- the grounds of a well-formed image
unfoldable pub formed_refusal : Layout → ℕ → List ℕ → ℕ
formed_refusal l volume s = unless (eqb (own_state s) live) 10 (unless (expected l volume s) 11 0)

-- what every edition has: a number that fits its byte, a root, and symbols that fit their bytes
pub record Proper (e : Edition) : Type 0 where
  pub number_in : e.number < 256
  pub size_in : e.size ≤ 256 ^ e.width

-- an image with a whole header, and the layout that it names, which is admissible
pub record Headed (e : Edition) (own : Layout) (s : List ℕ) : Type 0 where
  pub proper : Proper e
  pub long : header_length ≤ length s
  pub own_is : own ≡ own_layout s
  pub adm : Admissible e.order own
