-- From tray images to records: what is claimed of racks gathered from images, of shares and of repairs over them, over any field f and the
-- edition e of its images. Proved in proofs/Records.antt.
-- Assumes nothing.
use Rattle.std.specs.Prelude.{◌≡◌, true, List, [], ◌↔◌, ◌⊎◌, ℕ, ◌+◌, ◌*◌, ◌/◌, ◌^◌, ◌<◌, length, get_or, take, drop}
use Rattle.lists.specs.Lists.{absent, strictly_rising}
use Rattle.algebra.specs.Shape.{Field}
use Rattle.layout.specs.declared.Layout.{Layout}
use Rattle.layout.specs.Layout.{trays, layers, groups, traffic, admissible, admissible_with}
use Rattle.codeword.specs.Codeword.{Codeword}
use Rattle.rule.specs.Rule.{tray_part}
use Rattle.rule.specs.Lost.{first_lost, lost_part, Losses}
use Rattle.share.specs.Many.{shares_refusal, shares_buffer, many_refusal, many_buffer}
use Rattle.repair.specs.declared.Repaired.{Repaired}
use Rattle.repair.specs.Repair.{RepairAnswer}
use Rattle.repair.specs.Calls.{Calls}
use Rattle.image.specs.declared.Edition.{Edition}
use Rattle.image.specs.Image.{image_length, live, write_refusal}
use Rattle.gather.specs.Gathering.{image_of, is_live, of_rack, rack_refusal, rack_buffer}
use Rattle.gather.specs.Stored.{SamePresent, Written}
use Rattle.gather.specs.Claims.{GatherClaims}

-- the images of rack i, of those of a whole cabinet
unfoldable pub rack_images : Edition → Layout → List ℕ → ℕ → List ℕ
rack_images e l images i = take (l.size * image_length e l) (drop (i * (l.size * image_length e l)) images)

-- what gathering rack i of a cabinet but for the trays lost answers, and what it makes of a room
module _ (e : Edition) (l : Layout) (volume : ℕ) (images : List ℕ) where
  abbrev pub rack_ground : ℕ → List ℕ → List ℕ → ℕ
  rack_ground i lost room = rack_refusal e l volume i lost (rack_images e l images i) (length room)

  abbrev pub rack_of : ℕ → List ℕ → List ℕ → List ℕ
  rack_of i lost room = rack_buffer e l volume i lost (rack_images e l images i) room

  -- every tray of rack i that is not lost is as a live write made it of the codeword w
  abbrev pub RackWritten : List ℕ → ℕ → List ℕ → Type 0
  RackWritten w i lost = (g : ℕ) → g < l.size → absent lost (i * l.size + g) ≡ true →
      Written e l volume w images (i * l.size + g) (i * l.size + g)

-- none of the grounds 1 to 4 for gathering rack i, but for the trays lost, of the u images to a room
pub record RackAsked (e : Edition) (l : Layout) (i : ℕ) (lost images room : List ℕ) : Type 0 where
  pub layout_is : admissible e.order l ≡ true
  pub images_long : length images ≡ l.size * image_length e l
  pub room_long : length room ≡ l.size * layers l
  pub rack_in : i < l.racks
  pub of_rack_lem : of_rack l.size i lost ≡ true
  pub rising : strictly_rising lost ≡ true

-- what a repair of the lost trays is given where all of it comes from images: the shares that the share calls left of each helper's whole
-- rack as gathered, and the host rack as gathered but for the lost trays. Every call was done; the rooms lent held anything
pub record FromImages {A : Type 0} (f : Field A) (e : Edition) (l : Layout) (volume : ℕ)
    (images lost helpers shares host : List ℕ) : Type 0 where
  pub racks : ℕ → List ℕ
  pub rooms : ℕ → List ℕ
  pub rack_done : (k : ℕ) → k < l.helpers → rack_ground e l volume images (get_or helpers k 0) [] (racks k) ≡ 0
  pub share_done : (k : ℕ) → k < l.helpers →
      many_refusal f l (length lost) (first_lost l lost / l.size) (get_or helpers k 0)
      (rack_of e l volume images (get_or helpers k 0) [] (racks k)) (length (rooms k)) ≡ 0
  pub shares_long : length shares ≡ length lost * traffic l
  pub share : (k : ℕ) → k < l.helpers →
      take (length lost * groups l) (drop (k * (length lost * groups l)) shares)
      ≡ many_buffer f l (length lost) (first_lost l lost / l.size) (get_or helpers k 0)
      (rack_of e l volume images (get_or helpers k 0) [] (racks k)) (rooms k)
  pub room : List ℕ
  pub host_done : rack_ground e l volume images (first_lost l lost / l.size) lost room ≡ 0
  pub host_is : host ≡ rack_of e l volume images (first_lost l lost / l.size) lost room

pub record Records {A : Type 0} (f : Field A) (e : Edition) (l : Layout) : Type 0 where
  -- of a whole cabinet: what is gathered and recovered, with or without correction, and the states
  pub gathering : GatherClaims f e l
  -- past the grounds 1 to 4 a rack is gathered exactly when every tray that is not lost is live and its own; otherwise the answer is 9, 10
  -- or 11
  pub rack_exactly : (volume i : ℕ) (lost images room : List ℕ) → RackAsked e l i lost images room →
      let reason = rack_refusal e l volume i lost images (length room) in
      ((reason ≡ 0)
      ↔ ((g : ℕ) → g < l.size → absent lost (i * l.size + g) ≡ true → is_live e l volume (i * l.size + g) (image_of e l images g) ≡ true))
      × ((reason ≡ 0) ⊎ (reason ≡ 9) ⊎ (reason ≡ 10) ⊎ (reason ≡ 11))
  -- THE ACCIDENT. For two cabinets in which the same trays are present and these are alike, whatever stands at the other places: a rack is
  -- gathered from both or from neither (so refused where a tray looked at is not live), and gives the same
  pub rack_same : (volume : ℕ) (images images' : List ℕ) → SamePresent e l volume images images' → (i : ℕ) (lost room : List ℕ) →
      rack_ground e l volume images i lost room ≡ 0 →
      (rack_ground e l volume images' i lost room ≡ 0) × (rack_of e l volume images i lost room ≡ rack_of e l volume images' i lost room)
  -- a helper's shares of its whole rack, for any host rack h, are answered and made alike, whatever the rooms for the rack held
  pub share_same : (volume : ℕ) (images images' : List ℕ) → SamePresent e l volume images images' → (i : ℕ) (rack rack' : List ℕ) →
      length rack ≡ length rack' → rack_ground e l volume images i [] rack ≡ 0 → (m h : ℕ) (room : List ℕ) →
      let one = rack_of e l volume images i [] rack in
      let other = rack_of e l volume images' i [] rack' in
      (many_refusal f l m h i one (length room) ≡ many_refusal f l m h i other (length room))
      × (many_buffer f l m h i one room ≡ many_buffer f l m h i other room)
      × (shares_refusal f l m h i one (length room) ≡ shares_refusal f l m h i other (length room))
      × (shares_buffer f l m h i one room ≡ shares_buffer f l m h i other room)
  -- what a repair looks at is the same: the shares, and the host rack's trays that are not lost
  pub given_same : (volume : ℕ) (images images' : List ℕ) → SamePresent e l volume images images' →
      (lost helpers shares shares' host host' : List ℕ) →
      FromImages f e l volume images lost helpers shares host → FromImages f e l volume images' lost helpers shares' host' →
      (shares ≡ shares') × (length host ≡ length host')
      × ((g j : ℕ) → g < l.size → j < layers l → absent lost (first_lost l lost / l.size * l.size + g) ≡ true →
      get_or host (g * layers l + j) 0 ≡ get_or host' (g * layers l + j) 0)
  -- and so are its answer and the spare, where the room of the host rack held the same at the lost trays' places
  pub repaired_same : (volume : ℕ) (images images' : List ℕ) → SamePresent e l volume images images' →
      (lost helpers shares shares' host host' : List ℕ) →
      (one : FromImages f e l volume images lost helpers shares host)
      (other : FromImages f e l volume images' lost helpers shares' host') → one.room ≡ other.room →
      (first budget : ℕ) (old new new' : List ℕ) (r r' : Repaired) → RepairAnswer f l lost helpers shares host first budget old new r →
      RepairAnswer f l lost helpers shares' host' first budget old new' r' → (r ≡ r') × (new ≡ new')
  -- every tray of a codeword can be written: a live write is refused only for volume 0
  pub writable : (volume : ℕ) (w : List ℕ) → ¬ (volume ≡ 0) → admissible e.order l ≡ true → Codeword f l w → (x : ℕ) → x < trays l →
      write_refusal e l x live volume (tray_part l w x) (image_length e l) ≡ 0
  -- and a rack whose trays that are not lost are as they were written is gathered
  pub rack_accepted : (volume : ℕ) (w images : List ℕ) → volume < 2 ^ 32 → (i : ℕ) (lost room : List ℕ) →
      RackAsked e l i lost (rack_images e l images i) room → RackWritten e l volume images w i lost →
      rack_ground e l volume images i lost room ≡ 0
  -- the lost trays of a rack: the helpers' racks and its own other trays being as they were written of the codeword w, repaired from images
  -- in any pieces, refused calls among them, they are w's, and as many symbols cross as need to
  pub rack_back : admissible_with f.order 0 l ≡ true → (volume : ℕ) (w images lost helpers shares host : List ℕ) → volume < 2 ^ 32 →
      Codeword f l w → Losses l lost helpers →
      ((k : ℕ) → k < l.helpers → RackWritten e l volume images w (get_or helpers k 0) []) →
      RackWritten e l volume images w (first_lost l lost / l.size) lost →
      FromImages f e l volume images lost helpers shares host → (start : List ℕ) (G crossed to_come : ℕ) (spare : List ℕ) →
      Calls f l lost helpers shares host start G crossed to_come spare → G ≡ groups l →
      (spare ≡ lost_part l lost w) × (crossed ≡ length lost * traffic l)
