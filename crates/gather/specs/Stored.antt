-- What is said of images together: which of them matter, and which are those of a codeword.
-- Assumes nothing.
use Rattle.std.specs.Prelude.{◌≡◌, Bool, true, false, List, ℕ, ◌+◌, ◌^◌, ◌<◌, ◌≤◌, length}
use Rattle.algebra.specs.Shape.{Field}
use Rattle.layout.specs.declared.Layout.{Layout}
use Rattle.layout.specs.Layout.{trays, checks}
use Rattle.codeword.specs.Codeword.{Codeword}
use Rattle.rule.specs.Rule.{tray_part}
use Rattle.image.specs.declared.Edition.{Edition}
use Rattle.image.specs.Image.{live, write_refusal, write_buffer}
use Rattle.image.specs.Inner.{Proper}
use Rattle.gather.specs.Gathering.{image_of, present, missing_of}

-- an edition of images holds the symbols of a field
pub record ImagesOf {A : Type 0} (f : Field A) (e : Edition) : Type 0 where
  pub order_is : e.order ≡ f.order
  pub size_is : e.size ≡ f.coding.size
  pub proper : Proper e

-- the same trays are present in two cabinets, and their images are alike; the other images may be anything
pub record SamePresent (e : Edition) (l : Layout) (volume : ℕ) (images images' : List ℕ) : Type 0 where
  pub long : length images ≡ length images'
  pub same_trays : (x : ℕ) → x < trays l → present e l volume images x ≡ present e l volume images' x
  pub alike : (x : ℕ) → x < trays l → present e l volume images x ≡ true → image_of e l images x ≡ image_of e l images' x

-- at a place stands what a live write made of the codeword w's tray x, in a room that held anything
pub record Written (e : Edition) (l : Layout) (volume : ℕ) (w images : List ℕ) (place x : ℕ) : Type 0 where
  pub room : List ℕ
  pub done : write_refusal e l x live volume (tray_part l w x) (length room) ≡ 0
  pub image : image_of e l images place ≡ write_buffer e l x live volume (tray_part l w x) room

-- the trays kept are those of the codeword w as they were written; at most r are not kept, and these have been replaced by anything that is
-- not a live image of the tray, of this layout and volume
pub record Stored {A : Type 0} (f : Field A) (e : Edition) (l : Layout) (volume : ℕ) (w images : List ℕ) (kept : ℕ → Bool) : Type 0 where
  pub codeword : Codeword f l w
  pub volume_in : volume < 2 ^ 32
  pub written : (x : ℕ) → x < trays l → kept x ≡ true → Written e l volume w images x x
  pub replaced : (x : ℕ) → x < trays l → kept x ≡ false → present e l volume images x ≡ false
  pub few : length (missing_of kept (trays l)) ≤ checks l

-- the trays kept are as they were written but for tray y, which is present and may have any symbols; two trays fewer may be missing
pub record StoredButOne {A : Type 0} (f : Field A) (e : Edition) (l : Layout) (volume : ℕ) (w images : List ℕ) (kept : ℕ → Bool)
    (y : ℕ) : Type 0 where
  pub codeword : Codeword f l w
  pub volume_in : volume < 2 ^ 32
  pub inside : y < trays l
  pub wrong_kept : kept y ≡ true
  pub wrong_live : present e l volume images y ≡ true
  pub written : (x : ℕ) → x < trays l → kept x ≡ true → ¬ (x ≡ y) → Written e l volume w images x x
  pub replaced : (x : ℕ) → x < trays l → kept x ≡ false → present e l volume images x ≡ false
  pub few : length (missing_of kept (trays l)) + 2 ≤ checks l
