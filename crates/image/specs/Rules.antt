-- Ground 9 in document 01's own words, with document 02's rules for volume 0 (W5) and for the symbols (W10), for the images of an edition. That it says the
-- same as `well_formed` is a theorem (proofs/HeaderRules.antt).
-- Assumes nothing.
use Rattle.std.specs.Prelude.{◌≡◌, true, ◌||◌, not, List, ℕ, ◌≤◌, ◌<◌, eqb, length}
use Rattle.layout.specs.Layout.{trays, layers, admissible}
use Rattle.image.specs.declared.Edition.{Edition}
use Rattle.image.specs.Image.{header_length, image_length, live, demonstration, number_at, own_layout, own_state, own_tray, own_volume, symbol_at}

-- the rules of an image
pub record Rules (e : Edition) (s : List ℕ) : Type 0 where
  -- not under 24 bytes
  pub long : header_length ≤ length s
  -- the header's rules
  pub length_is : number_at 0 2 s ≡ header_length
  pub edition_is : number_at 2 1 s ≡ e.number
  pub state_ok : (eqb (own_state s) live || eqb (own_state s) demonstration) ≡ true
  pub zero_is : number_at 10 2 s ≡ 0
  pub volume_ok : not (eqb (own_volume s) 0) ≡ true
  pub offset_is : number_at 16 4 s ≡ header_length
  pub count_is : number_at 20 4 s ≡ layers (own_layout s)
  -- its own layout, its tray, and its length
  pub layout_ok : admissible e.order (own_layout s) ≡ true
  pub tray_in : own_tray s < trays (own_layout s)
  pub whole : length s ≡ image_length e (own_layout s)
  -- its symbols are of the field
  pub symbols_in : (j : ℕ) → j < layers (own_layout s) → symbol_at e s j < e.size
