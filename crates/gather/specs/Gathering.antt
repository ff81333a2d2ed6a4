-- From tray images to buffers, for the images of an edition: which trays are present, what is gathered, and what the calls answer.
-- Assumes nothing.
use Rattle.std.specs.Prelude.{◌≡◌, Bool, true, cond, ◌&&◌, not, List, [], ◌∷◌, ◌++◌, ℕ, zero, suc, ◌+◌, ◌*◌, ◌/◌, ◌%◌, ltb, eqb, length, get_or, take, drop}
use Rattle.lists.specs.Lists.{table, unless, all, absent, strictly_rising}
use Rattle.layout.specs.declared.Layout.{Layout}
use Rattle.layout.specs.Layout.{trays, layers, admissible}
use Rattle.image.specs.declared.Edition.{Edition}
use Rattle.image.specs.Image.{image_length, own_tray, symbol_at, read_refusal}
use Rattle.gather.specs.declared.Gathered.{Gathered}

-- the image at a place, of images that lie one after the other
unfoldable pub image_of : Edition → Layout → List ℕ → ℕ → List ℕ
image_of e l images place = take (image_length e l) (drop (place * image_length e l) images)

-- an image is live, well formed, of the layout and volume expected, and tray x's own
unfoldable pub is_live : Edition → Layout → ℕ → ℕ → List ℕ → Bool
is_live e l volume x s = eqb (read_refusal e l volume (layers l) s) 0 && eqb (own_tray s) x

-- ---- a whole cabinet
module _ (e : Edition) (l : Layout) (volume : ℕ) (images : List ℕ) where
  -- tray x is present
  unfoldable pub present : ℕ → Bool
  present x = is_live e l volume x (image_of e l images x)

  -- symbol j of tray x where it is present, else zero
  unfoldable pub shown_symbol : ℕ → ℕ → ℕ
  shown_symbol x j = cond (present x) (symbol_at e (image_of e l images x) j) 0

  -- these, tray after tray
  unfoldable pub gathered_codeword : List ℕ
  gathered_codeword = table (λ i. shown_symbol (i / layers l) (i % layers l)) (trays l * layers l)

  -- the state of tray x, as the loss margin counts it: 1 live where it is present, 2 demonstration where a read of its image answers 10,
  -- and 0 absent for anything else
  unfoldable pub tray_state : ℕ → ℕ
  tray_state x = cond (present x) 1 (cond (eqb (read_refusal e l volume (layers l) (image_of e l images x)) 10) 2 0)

-- the numbers below n for which p is false, rising
unfoldable pub missing_of : (ℕ → Bool) → ℕ → List ℕ
missing_of p zero = []
missing_of p (suc n) = cond (p n) (missing_of p n) (missing_of p n ++ (n ∷ []))

-- the trays that are not present
unfoldable pub missing_trays : Edition → Layout → ℕ → List ℕ → List ℕ
missing_trays e l volume images = missing_of (present e l volume images) (trays l)

-- the refusal, given the lengths of the images, of the codeword's room and of the list's; 0 for none
unfoldable pub gather_refusal : Edition → Layout → ℕ → ℕ → ℕ → ℕ
gather_refusal e l images room places =
    unless (admissible e.order l) 1
    (unless (eqb images (trays l * image_length e l) && eqb room (trays l * layers l) && eqb places (trays l)) 2
    0)

-- the contract of gathering: the codeword's room is c before and d after, the list's is m before and k after
pub record GatherAnswer (e : Edition) (l : Layout) (volume : ℕ) (images c m d k : List ℕ) (r : Gathered) : Type 0 where
  pub answer : r.refusal ≡ gather_refusal e l (length images) (length c) (length m)
  pub unchanged : ¬ (r.refusal ≡ 0) → (r.count ≡ 0) × (d ≡ c) × (k ≡ m)
  pub count_is : r.refusal ≡ 0 → r.count ≡ length (missing_trays e l volume images)
  pub codeword_is : r.refusal ≡ 0 → d ≡ gathered_codeword e l volume images
  pub list_is : r.refusal ≡ 0 → k ≡ missing_trays e l volume images ++ drop (length (missing_trays e l volume images)) m

-- the refusal of the states, given the lengths of the images and of the room; 0 for none
unfoldable pub states_refusal : Edition → Layout → ℕ → ℕ → ℕ
states_refusal e l images room =
    unless (admissible e.order l) 1
    (unless (eqb images (trays l * image_length e l) && eqb room (trays l)) 2
    0)

-- the room of the states afterwards
unfoldable pub states_buffer : Edition → Layout → ℕ → List ℕ → List ℕ → List ℕ
states_buffer e l volume images room =
    cond (eqb (states_refusal e l (length images) (length room)) 0) (table (tray_state e l volume images) (trays l)) room

-- ---- one rack
-- why an image is not taken for tray x: the grounds of a read, and 11 for a live image of another tray; 0 for none
unfoldable pub image_ground : Edition → Layout → ℕ → ℕ → List ℕ → ℕ
image_ground e l volume x s =
    cond (eqb (read_refusal e l volume (layers l) s) 0)
    (unless (eqb (own_tray s) x) 11 0)
    (read_refusal e l volume (layers l) s)

-- every tray listed stands in the rack, in racks of u
unfoldable pub of_rack : ℕ → ℕ → List ℕ → Bool
of_rack u rack lost = all (λ k. eqb (get_or lost k 0 / u) rack) (length lost)

-- no image of a tray that is not lost has the ground named
unfoldable pub none_with : Edition → Layout → ℕ → ℕ → List ℕ → List ℕ → ℕ → Bool
none_with e l volume rack lost images reason =
    all
    (λ g. cond (absent lost (rack * l.size + g)) (not (eqb (image_ground e l volume (rack * l.size + g) (image_of e l images g)) reason)) true)
    l.size

-- the refusal, given the images of the rack's trays and the length of the room; 0 for none. Trays of a rack of the layout are trays of it
unfoldable pub rack_refusal : Edition → Layout → ℕ → ℕ → List ℕ → List ℕ → ℕ → ℕ
rack_refusal e l volume rack lost images room =
    unless (admissible e.order l) 1
    (unless (eqb (length images) (l.size * image_length e l) && eqb room (l.size * layers l)) 2
    (unless (ltb rack l.racks && of_rack l.size rack lost) 3
    (unless (strictly_rising lost) 4
    (unless (none_with e l volume rack lost images 9) 9
    (unless (none_with e l volume rack lost images 10) 10
    (unless (none_with e l volume rack lost images 11) 11
    0))))))

-- symbol j at place g of the rack: the image's, and for a lost tray what stood there
unfoldable pub rack_symbol : Edition → Layout → ℕ → List ℕ → List ℕ → List ℕ → ℕ → ℕ → ℕ
rack_symbol e l rack lost images out g j =
    cond (absent lost (rack * l.size + g)) (symbol_at e (image_of e l images g) j) (get_or out (g * layers l + j) 0)

-- the room afterwards
unfoldable pub rack_buffer : Edition → Layout → ℕ → ℕ → List ℕ → List ℕ → List ℕ → List ℕ
rack_buffer e l volume rack lost images out =
    cond (eqb (rack_refusal e l volume rack lost images (length out)) 0)
    (table (λ i. rack_symbol e l rack lost images out (i / layers l) (i % layers l)) (l.size * layers l))
    out
