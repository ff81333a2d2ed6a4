-- What is claimed of gathering, and of gathering and recovering together, over any field f and the edition e of its images. Proved in
-- proofs/Claims.antt.
-- Assumes nothing.
use Rattle.std.specs.Prelude.{◌≡◌, Bool, true, false, List, ◌↔◌, ℕ, ◌+◌, ◌-◌, ◌*◌, ◌^◌, ◌<◌, pos, ◌-ℤ◌, length, get_or, take}
use Rattle.lists.specs.Lists.{absent, all_below}
use Rattle.algebra.specs.Shape.{Field}
use Rattle.layout.specs.declared.Layout.{Layout}
use Rattle.layout.specs.Layout.{trays, layers}
use Rattle.recover.specs.Recover.{RecoverAnswer}
use Rattle.recover_correcting.specs.declared.Recovered.{Recovered}
use Rattle.recover_correcting.specs.RecoverCorrecting.{report, CorrectionAnswer}
use Rattle.image.specs.declared.Edition.{Edition}
use Rattle.image.specs.Image.{symbol_at}
use Rattle.image.specs.Claims.{Made}
use Rattle.margin.specs.declared.LossMargin.TheVariants.{Known}
use Rattle.margin.specs.Margin.{live, margin_answer}
use Rattle.gather.specs.declared.Gathered.{Gathered}
use Rattle.gather.specs.Gathering.{image_of, is_live, present, missing_of, GatherAnswer, states_refusal, states_buffer, rack_refusal}
use Rattle.gather.specs.Gathering.{rack_buffer}
use Rattle.gather.specs.Stored.{SamePresent, Written, Stored, StoredButOne}

-- the codeword w is back, and tray y is named exactly when a symbol of its image is not w's; n where none is named
pub record NamedBack (e : Edition) (l : Layout) (w images z : List ℕ) (y : ℕ) (r : Recovered) : Type 0 where
  pub done : (report r).refusal ≡ 0
  pub word : z ≡ w
  pub unnamed : ((j : ℕ) → j < layers l → get_or w (y * layers l + j) 0 ≡ symbol_at e (image_of e l images y) j) → (report r).tray ≡ trays l
  pub named : ¬ ((j : ℕ) → j < layers l → get_or w (y * layers l + j) 0 ≡ symbol_at e (image_of e l images y) j) → (report r).tray ≡ y

-- two calls of gathering over images alike where trays are present; the rooms lent are of the same lengths and hold anything
pub record BothGathered (e : Edition) (l : Layout) (volume : ℕ) (images images' d d' k k' : List ℕ) (r r' : Gathered) : Type 0 where
  pub alike : SamePresent e l volume images images'
  pub room : List ℕ
  pub room' : List ℕ
  pub list : List ℕ
  pub list' : List ℕ
  pub same_room : length room ≡ length room'
  pub same_list : length list ≡ length list'
  pub one : GatherAnswer e l volume images room list d k r
  pub other : GatherAnswer e l volume images' room' list' d' k' r'

pub record GatherClaims {A : Type 0} (f : Field A) (e : Edition) (l : Layout) : Type 0 where
  -- a tray is present exactly when its image is one that a live write of this tray, layout and volume makes, of some symbols (`Made`)
  pub present_exactly : (volume : ℕ) (images : List ℕ) (x : ℕ) → volume < 2 ^ 32 → ((i : ℕ) → get_or images i 0 < 256) →
      (present e l volume images x ≡ true) ↔ ((symbols : List ℕ) × Made e l volume (layers l) (image_of e l images x) x symbols)
  -- what is gathered depends on the trays present and on nothing else: the other images may hold anything, and so may the rooms lent
  pub present_only : (volume : ℕ) (images images' d d' k k' : List ℕ) (r r' : Gathered) →
      BothGathered e l volume images images' d d' k k' r r' →
      (r ≡ r') × (r.refusal ≡ 0 → (d ≡ d') × (take r.count k ≡ take r'.count k'))
  -- nor does anything else have a part in what is recovered then, with or without correction
  pub recovered_same : (volume : ℕ) (images images' d d' k k' : List ℕ) (r r' : Gathered) →
      BothGathered e l volume images images' d d' k k' r r' → r.refusal ≡ 0 →
      (w w' : List ℕ) (n n' : ℕ) → RecoverAnswer f l (take r.count k) d w n → RecoverAnswer f l (take r'.count k') d' w' n' →
      (n ≡ n') × (w ≡ w')
  pub corrected_same : (volume : ℕ) (images images' d d' k k' : List ℕ) (r r' : Gathered) →
      BothGathered e l volume images images' d d' k k' r r' → r.refusal ≡ 0 →
      (w w' : List ℕ) (h h' : Recovered) → CorrectionAnswer f l (take r.count k) d w h →
      CorrectionAnswer f l (take r'.count k') d' w' h' → (h ≡ h') × (w ≡ w')
  -- the margin of the states counts exactly the trays that gathering takes: all but those it lists
  pub states_counted : (volume : ℕ) (images states : List ℕ) → states_refusal e l (length images) (length states) ≡ 0 →
      (c m d k : List ℕ) (r : Gathered) → GatherAnswer e l volume images c m d k r → r.refusal ≡ 0 →
      (live (states_buffer e l volume images states) (trays l) + r.count ≡ trays l)
      × (margin_answer e.order l (states_buffer e l volume images states) ≡ Known (pos (trays l - r.count) -ℤ pos l.dimension))
  -- a codeword whose trays were written live comes back, though at most r images were replaced by anything that is not a live image of the
  -- tray, layout and volume
  pub codeword_back : (volume : ℕ) (w images : List ℕ) (kept : ℕ → Bool) → Stored f e l volume w images kept →
      (c m d k : List ℕ) (r : Gathered) → GatherAnswer e l volume images c m d k r → r.refusal ≡ 0 →
      (z : List ℕ) (n : ℕ) → RecoverAnswer f l (take r.count k) d z n →
      (n ≡ 0) × (z ≡ w) × (take r.count k ≡ missing_of kept (trays l))
  -- and though one image that is live has other symbols than were written: with two trays fewer missing, that tray is named
  pub corrected_back : (volume : ℕ) (w images : List ℕ) (kept : ℕ → Bool) (y : ℕ) → StoredButOne f e l volume w images kept y →
      (c m d k : List ℕ) (r : Gathered) → GatherAnswer e l volume images c m d k r → r.refusal ≡ 0 →
      (z : List ℕ) (h : Recovered) → CorrectionAnswer f l (take r.count k) d z h → NamedBack e l w images z y h
  -- of a rack: the images of lost trays are not looked at
  pub lost_unread : (volume rack : ℕ) (lost images images' : List ℕ) → length images ≡ length images' →
      ((g : ℕ) → g < l.size → absent lost (rack * l.size + g) ≡ true → image_of e l images g ≡ image_of e l images' g) →
      (out : List ℕ) → (rack_refusal e l volume rack lost images (length out) ≡ rack_refusal e l volume rack lost images' (length out))
      × (rack_buffer e l volume rack lost images out ≡ rack_buffer e l volume rack lost images' out)
  -- where it is done the lost trays are trays of the layout, every tray that is not lost is live and its own, its symbols are those of the
  -- codeword it was written from, and a lost tray's place is as it was
  pub rack_gathered : (volume rack : ℕ) (lost images out : List ℕ) → rack_refusal e l volume rack lost images (length out) ≡ 0 →
      (all_below lost (trays l) ≡ true)
      × ((g : ℕ) → g < l.size → absent lost (rack * l.size + g) ≡ true →
      is_live e l volume (rack * l.size + g) (image_of e l images g) ≡ true)
      × (volume < 2 ^ 32 → (w : List ℕ) (g j : ℕ) → g < l.size → j < layers l → absent lost (rack * l.size + g) ≡ true →
      Written e l volume w images g (rack * l.size + g) →
      get_or (rack_buffer e l volume rack lost images out) (g * layers l + j) 0 ≡ get_or w ((rack * l.size + g) * layers l + j) 0)
      × ((g j : ℕ) → g < l.size → j < layers l → absent lost (rack * l.size + g) ≡ false →
      get_or (rack_buffer e l volume rack lost images out) (g * layers l + j) 0 ≡ get_or out (g * layers l + j) 0)
