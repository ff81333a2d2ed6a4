-- Shares and repairs of racks gathered from images, over any field.
-- Assumes nothing.
use mathlib.Core.Path.{◌≡◌, refl, sym, ap, ◌∙◌, subst}
use mathlib.Core.Bool.{true, cond}
use mathlib.Core.List.{List, []}
use Prim.Native.Nat.{ℕ, ◌+◌, ◌*◌, ◌/◌, ◌%◌, ◌^◌, ◌<◌}
use native.Mathlib.Omega.{arith}
use borrow.Author.Tests.{eq-eqb, ne_eqb, lt-ltb}
use lib.Arith.{digits_mod}
use lib.ListN.{length, get_or, take, drop}
use lib.Seq.{ext_get_or}
use Rattle.lists.specs.Lists.{absent, all_below}
use Rattle.lists.proofs.Numbered.{absent_true, below_true}
use Rattle.lists.proofs.Numbers.{cell_in}
use Rattle.algebra.specs.Shape.{Field}
use Rattle.algebra.specs.Plain.{Working}
use Rattle.layout.specs.declared.Layout.{Layout}
use Rattle.layout.specs.Layout.{trays, layers, groups, traffic, admissible, AdmissibleWith}
use Rattle.layout.proofs.Facts.{admissible_facts, bounds}
use Rattle.codeword.specs.Codeword.{Codeword, symbol_at}
use Rattle.codeword.proofs.Usable.{usable}
use Rattle.rule.specs.Rule.{rack_part, tray_part}
use Rattle.rule.specs.Lost.{first_lost, lost_place, lost_part, Losses}
use Rattle.rule.proofs.Racks.{tray_at, tray_long, rack_long}
use Rattle.share.specs.Many.{shares_of, many_refusal, many_buffer}
use Rattle.repair.specs.declared.Repaired.{Repaired}
use Rattle.repair.specs.Repair.{RepairAnswer}
use Rattle.repair.specs.Calls.{Calls}
use Rattle.repair.specs.Exact.{Setting, Called}
use Rattle.repair.proofs.Pieces.{kept_at, swap}
use Rattle.repair.proofs.Unique.{repaired_unique}
use Rattle.repair.proofs.Cutting.{cutting}
use Rattle.repair.proofs.Exact.{of_sent, sent_by_calls}
use Rattle.least.proofs.Same.{rack_number}
use Rattle.image.specs.declared.Edition.{Edition}
use Rattle.image.specs.Image.{image_length, live, in_range, write_refusal}
use Rattle.image.specs.Inner.{Proper}
use Rattle.gather.specs.Gathering.{rack_refusal}
use Rattle.gather.specs.Stored.{ImagesOf, SamePresent}
use Rattle.gather.proofs.Racks.{gatherable}
use Rattle.gather.proofs.RackReturns.{buffer_long, rack_taken, rack_symbols}
use Rattle.records.specs.Records.{rack_images, rack_ground, rack_of, RackWritten, FromImages}
use Rattle.records.proofs.Racks.{blocks_same, rack_written, none_lost, rack_same, whole_same}

-- a share call that is done leaves the shares
many_left : {A : Type 0} (f : Field A) (l : Layout) (m h i : ℕ) (rack room : List ℕ) → many_refusal f l m h i rack (length room) ≡ 0 →
    many_buffer f l m h i rack room ≡ shares_of f l m h rack
unfolding many_buffer
many_left f l m h i rack room z = ap (λ b. cond b (shares_of f l m h rack) room) (eq-eqb (many_refusal f l m h i rack (length room)) 0 z)

-- ---- two cabinets alike where trays are present
module _ {A : Type 0} {f : Field A} (e : Edition) (l : Layout) (volume : ℕ) (images images' : List ℕ)
    (s : SamePresent e l volume images images')
    (lost helpers shares shares' host host' : List ℕ) (one : FromImages f e l volume images lost helpers shares host)
    (other : FromImages f e l volume images' lost helpers shares' host') where
  abbrev h : ℕ
  h = first_lost l lost / l.size

  -- the rooms of a rack that is gathered are as long as one another
  rooms_long : (k : ℕ) → k < l.helpers → length (one.racks k) ≡ length (other.racks k)
  rooms_long k b =
      (gatherable e l volume (get_or helpers k 0) [] (rack_images e l images (get_or helpers k 0)) (length (one.racks k))
      (one.rack_done k b)).room_is
      ∙ sym (gatherable e l volume (get_or helpers k 0) [] (rack_images e l images' (get_or helpers k 0)) (length (other.racks k))
      (other.rack_done k b)).room_is

  same_block : (k : ℕ) → k < l.helpers →
      take (length lost * groups l) (drop (k * (length lost * groups l)) shares) ≡ take (length lost * groups l)
      (drop (k * (length lost * groups l)) shares')
  same_block k b =
      one.share k b
      ∙ many_left f l (length lost) h (get_or helpers k 0) (rack_of e l volume images (get_or helpers k 0) [] (one.racks k)) (one.rooms k)
      (one.share_done k b)
      ∙ ap (shares_of f l (length lost) h)
      (whole_same e l volume images images' s (get_or helpers k 0) (one.racks k) (other.racks k) (rooms_long k b) (one.rack_done k b))
      ∙ sym (other.share k b
      ∙ many_left f l (length lost) h (get_or helpers k 0) (rack_of e l volume images' (get_or helpers k 0) [] (other.racks k))
      (other.rooms k) (other.share_done k b))

  pub shares_same : shares ≡ shares'
  shares_same =
      blocks_same (length lost * groups l) l.helpers shares shares' (one.shares_long ∙ swap (length lost) l.helpers (groups l))
      (other.shares_long ∙ swap (length lost) l.helpers (groups l)) same_block

  host_long : length host ≡ l.size * layers l
  host_long = ap length one.host_is ∙ buffer_long e l volume h lost (rack_images e l images h) one.room one.host_done

  host'_long : length host' ≡ l.size * layers l
  host'_long = ap length other.host_is ∙ buffer_long e l volume h lost (rack_images e l images' h) other.room other.host_done

  pub hosts_long : length host ≡ length host'
  hosts_long = host_long ∙ sym host'_long

  -- the host rack of the first cabinet, gathered to the other room
  moved : rack_ground e l volume images h lost other.room ≡ 0
  moved = subst (λ n. rack_refusal e l volume h lost (rack_images e l images h) n ≡ 0) rooms one.host_done
    where
      rooms : length one.room ≡ length other.room
      rooms =
          (gatherable e l volume h lost (rack_images e l images h) (length one.room) one.host_done).room_is
          ∙ sym (gatherable e l volume h lost (rack_images e l images' h) (length other.room) other.host_done).room_is

  pub hosts_alike : (g j : ℕ) → g < l.size → j < layers l → absent lost (h * l.size + g) ≡ true →
      get_or host (g * layers l + j) 0 ≡ get_or host' (g * layers l + j) 0
  hosts_alike g j hg hj a =
      ap (λ v. get_or v (g * layers l + j) 0) one.host_is
      ∙ rack_taken e l volume h lost (rack_images e l images h) one.room one.host_done g j hg hj a
      ∙ sym (rack_taken e l volume h lost (rack_images e l images h) other.room moved g j hg hj a)
      ∙ ap (λ v. get_or v (g * layers l + j) 0) ((rack_same e l volume images images' s h lost other.room moved).1 ∙ sym other.host_is)

  pub hosts_same : one.room ≡ other.room → host ≡ host'
  hosts_same q =
      one.host_is ∙ ap (rack_of e l volume images h lost) q ∙ (rack_same e l volume images images' s h lost other.room moved).1
      ∙ sym other.host_is

  pub repaired_same : Working f → one.room ≡ other.room → (first budget : ℕ) (old new new' : List ℕ) (r r' : Repaired) →
      RepairAnswer f l lost helpers shares host first budget old new r →
      RepairAnswer f l lost helpers shares' host' first budget old new' r' → (r ≡ r') × (new ≡ new')
  repaired_same W q first budget old new new' r r' a b =
      repaired_unique W l lost helpers shares host first budget old new new' r r' a
      (subst (λ v. RepairAnswer f l lost helpers shares v first budget old new' r') (sym (hosts_same q))
      (subst (λ v. RepairAnswer f l lost helpers v host' first budget old new' r') (sym shares_same) b))

-- ---- the trays and racks of a codeword
-- no live write of a codeword's tray is refused, but for volume 0
pub writable : {A : Type 0} (f : Field A) (e : Edition) → ImagesOf f e → (l : Layout) (volume : ℕ) (w : List ℕ) → ¬ (volume ≡ 0) →
    admissible e.order l ≡ true → Codeword f l w → (x : ℕ) → x < trays l → write_refusal e l x live volume (tray_part l w x) (image_length e l) ≡ 0
unfolding write_refusal in_range
writable f e of l volume w n t word x h =
    simp (t, eq-eqb _ _ long, eq-eqb (image_length e l) (image_length e l) refl, lt-ltb _ _ h, ne_eqb volume 0 n, symbols)
  where
    pos : 0 < layers l
    pos = let b = (bounds l (admissible_facts e.order l t).cabinet).layers_low in omega arith

    long : length (tray_part l w x) ≡ layers l
    long = tray_long l w (trays l) x pos word.long h

    at : (j : ℕ) → j < layers l → get_or (tray_part l w x) j 0 < e.size
    at j b =
        subst (λ v. get_or (tray_part l w x) j 0 < v) (sym of.size_is)
        (subst (λ v. v < f.coding.size) (sym (tray_at l w x j b))
        (word.symbols.at (x * layers l + j) (subst (λ v. x * layers l + j < v) (sym word.long) (cell_in (trays l) (layers l) x j h b))))

    symbols : all_below (tray_part l w x) e.size ≡ true
    symbols = sym (below_true (tray_part l w x) e.size (λ k b. at k (subst (λ v. k < v) long b)))

module _ {A : Type 0} {f : Field A} (W : Working f) (e : Edition) (p : Proper e) (l : Layout) (adm : AdmissibleWith f.order 0 l)
    (volume : ℕ) (small : volume < 2 ^ 32)
    (w images lost helpers shares host : List ℕ) (word : Codeword f l w) (given : Losses l lost helpers)
    (theirs : (k : ℕ) → k < l.helpers → RackWritten e l volume images w (get_or helpers k 0) [])
    (own : RackWritten e l volume images w (first_lost l lost / l.size) lost)
    (from : FromImages f e l volume images lost helpers shares host) where
  abbrev own_rack : ℕ
  own_rack = first_lost l lost / l.size

  pos : 0 < layers l
  pos = let b = (bounds l adm.admissible.cabinet).layers_low in omega arith

  -- a helper's rack is the codeword's
  module _ (k : ℕ) (b : k < l.helpers) where
    abbrev i : ℕ
    i = get_or helpers k 0

    long : length (rack_of e l volume images i [] (from.racks k)) ≡ l.size * layers l
    long = buffer_long e l volume i [] (rack_images e l images i) (from.racks k) (from.rack_done k b)

    at : (g j : ℕ) → g < l.size → j < layers l →
        get_or (rack_of e l volume images i [] (from.racks k)) (g * layers l + j) 0 ≡ get_or (rack_part l w i) (g * layers l + j) 0
    at g j hg hj =
        rack_symbols e l volume i [] (rack_images e l images i) (from.racks k) (from.rack_done k b) p small w g j hg hj
        (none_lost (i * l.size + g))
        (rack_written e l volume w images i [] (theirs k b) g hg (none_lost (i * l.size + g)))
        ∙ sym (rack_number l w i g j hg hj)

    rack_is : rack_of e l volume images i [] (from.racks k) ≡ rack_part l w i
    rack_is =
        ext_get_or 0 (rack_of e l volume images i [] (from.racks k)) (rack_part l w i)
        (long ∙ sym (rack_long l w i (given.help.inside k b) word.long))
        (λ n hn. kept_at l.size (layers l) pos n (rack_part l w i) (rack_of e l volume images i [] (from.racks k))
        (omega (arith, hn, long)) (λ g hg j hj q. at g j hg hj))

  -- the host's trays that are not lost are the codeword's
  host_at : (g j : ℕ) → g < l.size → j < layers l → absent lost (own_rack * l.size + g) ≡ true →
      get_or host (g * layers l + j) 0 ≡ get_or w ((own_rack * l.size + g) * layers l + j) 0
  host_at g j hg hj a =
      ap (λ v. get_or v (g * layers l + j) 0) from.host_is
      ∙ rack_symbols e l volume own_rack lost (rack_images e l images own_rack) from.room from.host_done p small w g j hg hj a
      (rack_written e l volume w images own_rack lost own g hg a)

  rack_in : own_rack < l.racks
  rack_in = (gatherable e l volume own_rack lost (rack_images e l images own_rack) (length from.room) from.host_done).read.rack_in

  kept : (g : ℕ) → g < l.size → ((i : ℕ) → i < length lost → ¬ (g ≡ lost_place l lost i)) → absent lost (own_rack * l.size + g) ≡ true
  unfolding lost_place
  kept g hg out = sym (absent_true lost (own_rack * l.size + g)
      (λ k hk q. out k hk (sym (ap (λ y. y % l.size) q ∙ digits_mod own_rack hg))))

  setting : Setting f l lost helpers shares host w
  unfolding symbol_at
  setting = record {
    codeword = word;
    losses = given;
    shares_long = from.shares_long;
    host_long = ap length from.host_is
        ∙ buffer_long e l volume own_rack lost (rack_images e l images own_rack) from.room from.host_done;
    host_range = λ g j hg hj out.
        subst (λ v. v < f.coding.size) (sym (host_at g j hg hj (kept g hg out)))
        (word.symbols.at ((own_rack * l.size + g) * layers l + j)
        (subst (λ n. (own_rack * l.size + g) * layers l + j < n) (sym word.long)
        (cell_in (trays l) (layers l) (own_rack * l.size + g) j (cell_in l.racks l.size own_rack g rack_in hg) hj)));
    sound = λ j hj g hg out. ap f.coding.elem (host_at g j hg hj (kept g hg out) ∙ sym (rack_number l w own_rack g j hg hj));
  }

  -- so the repair is given what the share calls left of the codeword
  called : Called f l lost helpers shares host w
  called = record {
    setting = setting;
    room = from.rooms;
    share = λ k b. from.share k b ∙ ap (λ v. many_buffer f l (length lost) own_rack (get_or helpers k 0) v (from.rooms k)) (rack_is k b);
  }

  pub rack_back : (start : List ℕ) (G crossed to_come : ℕ) (spare : List ℕ) →
      Calls f l lost helpers shares host start G crossed to_come spare → G ≡ groups l →
      (spare ≡ lost_part l lost w) × (crossed ≡ length lost * traffic l)
  rack_back start G crossed to_come spare calls q =
      let cut = cutting W l adm lost helpers given shares host start calls in (
        cut.whole q w (of_sent f l (usable W l adm.admissible) lost helpers shares host w
            (sent_by_calls W l adm lost helpers shares host w called)),
        cut.crossed_is ∙ ap (λ g. length lost * (l.helpers * g)) q,
      )
