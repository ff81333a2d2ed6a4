-- The racks of a cabinet's images, and lists that are alike block by block.
-- Assumes nothing.
use mathlib.Core.Path.{◌≡◌, refl, sym, ap, ◌∙◌, subst}
use mathlib.Core.Bool.{Bool, true, false, cond}
use mathlib.Core.List.{List, [], ◌∷◌}
use mathlib.Core.Logic.{◌↔◌, ◌⊎◌, inl, inr}
use Prim.Native.Nat.{ℕ, zero, suc, ◌+◌, ◌-◌, ◌*◌, ◌/◌, ◌%◌, ◌≤◌, ◌<◌, min}
use native.Mathlib.Nat.{mul_assoc, mul-zero, add-mul, mod-lt, div-add-mod', div-lt_iff_lt-mul}
use native.Mathlib.Decide.{dec_lt}
use native.Mathlib.Omega.{arith}
use borrow.Author.Tests.{eq-eqb, lt-ltb}
use lib.ListN.{length, get_or, take, drop, length-take, length-drop}
use lib.Seq.{ext_get_or, get_or-take, get_or-drop, take-take, drop-drop}
use Rattle.lists.specs.Lists.{table, unless, absent, all}
use Rattle.lists.proofs.Numbers.{cell_in}
use Rattle.lists.proofs.Tables.{table_same}
use Rattle.kernel.proofs.Rows.{row_before}
use Rattle.layout.specs.declared.Layout.{Layout}
use Rattle.layout.specs.Layout.{trays, layers}
use Rattle.image.specs.declared.Edition.{Edition}
use Rattle.image.specs.Image.{image_length, symbol_at}
use Rattle.gather.specs.Gathering.{image_of, is_live, present, none_with, rack_refusal, rack_symbol, rack_buffer}
use Rattle.gather.specs.Stored.{SamePresent, Written}
use Rattle.gather.proofs.Racks.{gatherable, rack_accepts}
use Rattle.gather.proofs.RackReturns.{rack_live, rack_refusal_same, rack_never_looks}
use Rattle.records.specs.Records.{rack_images, rack_ground, rack_of, RackWritten, RackAsked}

-- ---- parts of lists
-- a part of a part from the front
inner_part : (n m len : ℕ) (xs : List ℕ) → m + n ≤ len → take n (drop m (take len xs)) ≡ take n (drop m xs)
inner_part n zero len xs h = take-take n len xs (omega arith)
inner_part n (suc m) zero xs h = absurd (omega arith)
inner_part n (suc m) (suc len) [] h = refl
inner_part n (suc m) (suc len) (x ∷ xs) h = inner_part n m len xs (omega arith)

-- lists of d blocks of n that are alike block by block
pub blocks_same : (n d : ℕ) (xs ys : List ℕ) → length xs ≡ d * n → length ys ≡ d * n →
    ((k : ℕ) → k < d → take n (drop (k * n) xs) ≡ take n (drop (k * n) ys)) → xs ≡ ys
blocks_same n d xs ys a b same = ext_get_or 0 xs ys (a ∙ sym b) (λ i h. at i (subst (λ v. i < v) a h))
  where
    some : (i : ℕ) → i < d * n → 0 < n
    some i h = go (dec_lt 0 n)
      where
        go : Dec (0 < n) → 0 < n
        go (yes p) = p
        go (no p) = absurd (let z : n ≡ 0 = omega arith in let y = subst (λ v. i < d * v) z h in let o = mul-zero d in omega (arith, y, o))

    cell : (zs : List ℕ) (k j : ℕ) → j < n → get_or (take n (drop (k * n) zs)) j 0 ≡ get_or zs (k * n + j) 0
    cell zs k j h = get_or-take n (drop (k * n) zs) j 0 h ∙ get_or-drop (k * n) zs j 0

    at : (i : ℕ) → i < d * n → get_or xs i 0 ≡ get_or ys i 0
    at i h =
        let pos = some i h in
        subst (λ v. get_or xs v 0 ≡ get_or ys v 0) (div-add-mod' i n)
        (sym (cell xs (i / n) (i % n) (mod-lt i pos)) ∙ ap (λ zs. get_or zs (i % n) 0) (same (i / n) ((div-lt_iff_lt-mul pos).1 h))
        ∙ cell ys (i / n) (i % n) (mod-lt i pos))

-- ---- one rack of a cabinet
module _ (e : Edition) (l : Layout) where
  start : (i g : ℕ) → i * (l.size * image_length e l) + g * image_length e l ≡ (i * l.size + g) * image_length e l
  start i g = ap (λ n. n + g * image_length e l) (sym (mul_assoc i l.size (image_length e l)))
      ∙ sym (add-mul (i * l.size) g (image_length e l))

  -- the image at place g of rack i is that of tray i·u + g
  pub rack_image : (images : List ℕ) (i g : ℕ) → g < l.size →
      image_of e l (rack_images e l images i) g ≡ image_of e l images (i * l.size + g)
  unfolding image_of rack_images
  rack_image images i g h =
      inner_part (image_length e l) (g * image_length e l) (l.size * image_length e l) (drop (i * (l.size * image_length e l)) images)
      (row_before g l.size (image_length e l) h)
      ∙ ap (take (image_length e l)) (drop-drop (g * image_length e l) (i * (l.size * image_length e l)) images
      ∙ ap (λ n. drop n images) (start i g))

  pub rack_long : (images images' : List ℕ) → length images ≡ length images' → (i : ℕ) →
      length (rack_images e l images i) ≡ length (rack_images e l images' i)
  unfolding rack_images
  rack_long images images' same i = long images ∙ ap (λ n. min (l.size * image_length e l) (n - i * (l.size * image_length e l))) same
      ∙ sym (long images')
    where
      long : (s : List ℕ) → length (take (l.size * image_length e l) (drop (i * (l.size * image_length e l)) s)) ≡ min
          (l.size * image_length e l) (length s - i * (l.size * image_length e l))
      long s = length-take (l.size * image_length e l) (drop (i * (l.size * image_length e l)) s)
          ∙ ap (min (l.size * image_length e l)) (length-drop (i * (l.size * image_length e l)) s)

  pub rack_written : (volume : ℕ) (w images : List ℕ) (i : ℕ) (lost : List ℕ) → RackWritten e l volume images w i lost →
      (g : ℕ) → g < l.size → absent lost (i * l.size + g) ≡ true → Written e l volume w (rack_images e l images i) g (i * l.size + g)
  rack_written volume w images i lost r g h a = let k = r g h a in
      record { room = k.room; done = k.done; image = rack_image images i g h ∙ k.image }

-- no tray is in an empty list
pub none_lost : (x : ℕ) → absent [] x ≡ true
unfolding absent all
none_lost x = refl

-- a whole rack is gathered alike, whatever the room held
pub room_unread : (e : Edition) (l : Layout) (volume i : ℕ) (images room room' : List ℕ) → length room ≡ length room' →
    rack_refusal e l volume i [] images (length room) ≡ 0 →
    rack_buffer e l volume i [] images room ≡ rack_buffer e l volume i [] images room'
unfolding rack_buffer rack_symbol
room_unread e l volume i images room room' long z =
    ap (λ b. cond b (whole room) room) (eq-eqb (rack_refusal e l volume i [] images (length room)) 0 z)
    ∙ table_same _ _ (l.size * layers l) (λ n h. taken room n ∙ sym (taken room' n))
    ∙ sym (ap (λ b. cond b (whole room') room')
    (eq-eqb (rack_refusal e l volume i [] images (length room')) 0 (ap (λ n. rack_refusal e l volume i [] images n) (sym long) ∙ z)))
  where
    whole : List ℕ → List ℕ
    whole s = table (λ n. rack_symbol e l i [] images s (n / layers l) (n % layers l)) (l.size * layers l)

    taken : (s : List ℕ) (n : ℕ) →
        rack_symbol e l i [] images s (n / layers l) (n % layers l) ≡ symbol_at e (image_of e l images (n / layers l)) (n % layers l)
    taken s n =
        ap (λ b. cond b (symbol_at e (image_of e l images (n / layers l)) (n % layers l)) (get_or s (n / layers l * layers l + n % layers l) 0))
        (none_lost (i * l.size + n / layers l))

-- ---- the answer past the grounds 1 to 4
module _ (e : Edition) (l : Layout) (volume i : ℕ) (lost images room : List ℕ) (q : RackAsked e l i lost images room) where
  last_grounds : rack_refusal e l volume i lost images (length room) ≡
      unless (none_with e l volume i lost images 9) 9
      (unless (none_with e l volume i lost images 10) 10 (unless (none_with e l volume i lost images 11) 11 0))
  unfolding rack_refusal
  last_grounds = simp (q.layout_is, eq-eqb _ _ q.images_long, eq-eqb _ _ q.room_long, lt-ltb _ _ q.rack_in, q.of_rack_lem, q.rising)

  cases : (a b c : Bool) (r : ℕ) → r ≡ unless a 9 (unless b 10 (unless c 11 0)) → (r ≡ 0) ⊎ (r ≡ 9) ⊎ (r ≡ 10) ⊎ (r ≡ 11)
  cases false b c r z = inr (inl z)
  cases true false c r z = inr (inr (inl z))
  cases true true false r z = inr (inr (inr z))
  cases true true true r z = inl z

  pub rack_exactly : ((rack_refusal e l volume i lost images (length room) ≡ 0)
      ↔ ((g : ℕ) → g < l.size → absent lost (i * l.size + g) ≡ true → is_live e l volume (i * l.size + g) (image_of e l images g) ≡ true))
      × ((rack_refusal e l volume i lost images (length room) ≡ 0) ⊎ (rack_refusal e l volume i lost images (length room) ≡ 9)
      ⊎ (rack_refusal e l volume i lost images (length room) ≡ 10) ⊎ (rack_refusal e l volume i lost images (length room) ≡ 11))
  rack_exactly = (
    (
      rack_live e l volume i lost images room,
      rack_accepts e l volume i lost images (length room) q.layout_is q.images_long
          q.room_long q.rack_in q.of_rack_lem q.rising,
    ),
    cases (none_with e l volume i lost images 9) (none_with e l volume i lost images 10)
        (none_with e l volume i lost images 11) _ last_grounds,
  )

-- ---- two cabinets alike where trays are present
module _ (e : Edition) (l : Layout) (volume : ℕ) (images images' : List ℕ) (s : SamePresent e l volume images images') (i : ℕ)
    (lost room : List ℕ)
    (z : rack_ground e l volume images i lost room ≡ 0) where
  there : (g : ℕ) → g < l.size → absent lost (i * l.size + g) ≡ true → present e l volume images (i * l.size + g) ≡ true
  unfolding present
  there g h a =
      subst (λ v. is_live e l volume (i * l.size + g) v ≡ true) (rack_image e l images i g h)
      (rack_live e l volume i lost (rack_images e l images i) room z g h a)

  alike : (g : ℕ) → g < l.size → absent lost (i * l.size + g) ≡ true →
      image_of e l (rack_images e l images i) g ≡ image_of e l (rack_images e l images' i) g
  alike g h a = rack_image e l images i g h ∙ s.alike (i * l.size + g) inside (there g h a) ∙ sym (rack_image e l images' i g h)
    where
      inside : i * l.size + g < trays l
      inside = cell_in l.racks l.size i g (gatherable e l volume i lost (rack_images e l images i) (length room) z).read.rack_in h

  pub rack_same : (rack_ground e l volume images' i lost room ≡ 0) × (rack_of e l volume images i lost room ≡ rack_of e l volume images' i
      lost room)
  rack_same = (
    sym (rack_refusal_same e l volume i lost (rack_images e l images i) (rack_images e l images' i)
        (rack_long e l images images' s.long i) alike (length room)) ∙ z,
    rack_never_looks e l volume i lost (rack_images e l images i) (rack_images e l images' i)
        (rack_long e l images images' s.long i) alike room,
  )

-- a whole rack, in rooms of the same length
pub whole_same : (e : Edition) (l : Layout) (volume : ℕ) (images images' : List ℕ) → SamePresent e l volume images images' →
    (i : ℕ) (rack rack' : List ℕ) → length rack ≡ length rack' →
    rack_ground e l volume images i [] rack ≡ 0 → rack_of e l volume images i [] rack ≡ rack_of e l volume images' i [] rack'
whole_same e l volume images images' s i rack rack' long z =
    let p = rack_same e l volume images images' s i [] rack z in
    p.1 ∙ room_unread e l volume i (rack_images e l images' i) rack rack' long p.0
