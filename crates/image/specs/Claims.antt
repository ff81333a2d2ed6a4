-- What is claimed of the images of an edition, whatever the layout, the volume, the bytes, and the places lent. Proved over any edition.
-- Assumes nothing.
use Rattle.std.specs.Prelude.{◌≡◌, true, List, ◌↔◌, ℕ, ◌^◌, ◌<◌, eqb, length, get_or}
use Rattle.lists.specs.Lists.{unless}
use Rattle.layout.specs.declared.Layout.{Layout}
use Rattle.layout.specs.Layout.{layers, admissible}
use Rattle.image.specs.declared.Edition.{Edition}
use Rattle.image.specs.Image.{live, demonstration, write_refusal, write_buffer, own_state, well_formed, read_refusal, read_tray, read_symbols}
use Rattle.image.specs.Rules.{Rules}

module _ (e : Edition) where
  -- a read gives this tray and these symbols; with a refusal there is what was refused
  abbrev pub Gives : Layout → ℕ → ℕ → List ℕ → List ℕ → ℕ → List ℕ → Type 0
  Gives l volume places refused s tray symbols =
      (read_refusal e l volume places s ≡ 0) × (read_tray e l volume places s ≡ tray) × (read_symbols e l volume places refused s ≡ symbols)

  -- an image whose state is not live is refused, and nothing of it is handed out
  abbrev pub LiveOnly : Type 0
  LiveOnly =
      (l : Layout) (volume places : ℕ) (refused s : List ℕ) → ¬ (own_state s ≡ live)
      → (¬ (read_refusal e l volume places s ≡ 0)) × (read_tray e l volume places s ≡ 0) × (read_symbols e l volume places refused s ≡ refused)

  -- what was written as demonstration gets 10, and nothing of it is handed out
  abbrev pub DemonstrationRefused : Type 0
  DemonstrationRefused =
      (own : Layout) (tray other : ℕ) (symbols old : List ℕ) → other < 2 ^ 32 → write_refusal e own tray demonstration other symbols (length old) ≡ 0
      → (l : Layout) (volume places : ℕ) (refused : List ℕ)
      → (read_refusal e l volume places (write_buffer e own tray demonstration other symbols old) ≡ unless (admissible e.order l) 1 (unless (eqb places (layers l)) 2 10))
      × (read_tray e l volume places (write_buffer e own tray demonstration other symbols old) ≡ 0)
      × (read_symbols e l volume places refused (write_buffer e own tray demonstration other symbols old) ≡ refused)

  -- what was written live is read back
  abbrev pub RoundTrip : Type 0
  RoundTrip =
      (l : Layout) (tray volume : ℕ) (symbols old refused : List ℕ) → volume < 2 ^ 32 → write_refusal e l tray live volume symbols (length old) ≡ 0
      → Gives l volume (layers l) refused (write_buffer e l tray live volume symbols old) tray symbols

  -- a live write of these symbols makes these bytes, whatever the lent ones held, and there are the places to read them to
  abbrev pub Made : Layout → ℕ → ℕ → List ℕ → ℕ → List ℕ → Type 0
  Made l volume places s tray symbols =
      (places ≡ layers l)
      × (write_refusal e l tray live volume symbols (length s) ≡ 0)
      × ((old : List ℕ) → length old ≡ length s → write_buffer e l tray live volume symbols old ≡ s)

  -- what a read accepts is exactly what a live write makes
  abbrev pub AcceptedExactly : Type 0
  AcceptedExactly =
      (l : Layout) (volume places : ℕ) (refused s : List ℕ) (tray : ℕ) (symbols : List ℕ) → volume < 2 ^ 32 → ((i : ℕ) → get_or s i 0 < 256)
      → Gives l volume places refused s tray symbols ↔ Made l volume places s tray symbols

  -- an image is well formed exactly when it keeps the rules one by one
  abbrev pub FormedExactly : Type 0
  FormedExactly = (s : List ℕ) → ((i : ℕ) → get_or s i 0 < 256) → (well_formed e s ≡ true) ↔ Rules e s

  -- what was written in another edition, in whatever state, gets 9
  abbrev pub OtherRefused : Edition → Type 0
  OtherRefused other =
      (own : Layout) (tray state mark : ℕ) (symbols old : List ℕ) → mark < 2 ^ 32 → write_refusal other own tray state mark symbols (length old) ≡ 0
      → (l : Layout) (volume : ℕ) → admissible e.order l ≡ true
      → read_refusal e l volume (layers l) (write_buffer other own tray state mark symbols old) ≡ 9
