-- What the boundary shows of a call is the call's contract.
-- Assumes nothing.
use mathlib.Core.Path.{◌≡◌, refl, sym, ap, ap₂, ◌∙◌}
use mathlib.Core.Bool.{Bool, true, false, cond}
use mathlib.Core.List.{List, []}
use Prim.Native.Nat.{ℕ, ◌+◌, ◌-◌, ◌*◌, ◌≤◌}
use native.Mathlib.Decide.{ℕ_discrete}
use native.Mathlib.Omega.{arith}
use borrow.Author.Tests.{eq-eqb, ne_eqb}
use lib.Dec.{eqb}
use lib.ListN.{length, take, drop, length-drop}
use lib.Seq.{take_all, length-take-le}
use Rattle.lists.proofs.Tables.{table_length}
use Rattle.layout.specs.declared.Layout.{Layout}
use Rattle.layout.specs.Layout.{layers}
use Rattle.reading.specs.Reading.{part_refusal, part_given}
use Rattle.reading.proofs.Grounds.{accepted, run_end}
use Rattle.image.specs.Image.{edition1, header_length, symbol_at, own_layout, own_tray, own_symbols, read_refusal, read_tray, read_symbols}
use Rattle.image.proofs.Editions.{proper1}
use Rattle.image.proofs.ReadGrounds.{readable}
use Rattle.image.proofs.First.{given_rest}
use Rattle.gesarumbo.specs.declared.numbers.ImageNumbers.{ImageNumbers}
use Rattle.gesarumbo.specs.declared.numbers.PartNumbers.{PartNumbers}
use Rattle.gesarumbo.specs.Boundary.{image_numbers, part_numbers}
use Rattle.gesarumbo.specs.Inner.{run_numbers}

-- reading an image of edition 1; n is the refusal that was written
module _ (l : Layout) (volume : ℕ) (image : List ℕ) where
  abbrev reason : ℕ
  reason = read_refusal edition1 l volume (layers l) image

  abbrev no_image : ℕ → ImageNumbers
  no_image n = record { refusal = n; tray = 0; offset = 0; length = 0 }

  abbrev an_image : ℕ → ℕ → ImageNumbers
  an_image t n = record { refusal = 0; tray = t; offset = header_length; length = n }

  pub read_refused : (n : ℕ) → n ≡ reason → (n ≡ 0 → ⊥) → no_image n ≡ image_numbers l volume image
  unfolding image_numbers
  read_refused n e d = simp (ne_eqb reason 0 (λ z. d (e ∙ z))) (ap no_image e)

  module _ (z : reason ≡ 0) where
    read_long : length (read_symbols edition1 l volume (layers l) [] image) ≡ layers l
    unfolding read_symbols own_symbols
    read_long =
        simp (eq-eqb reason 0 z) (table_length (symbol_at edition1 image) (layers (own_layout image))
        ∙ ap layers (sym (readable edition1 l volume (layers l) image proper1 z).layout_is))

    read_tray_lem : read_tray edition1 l volume (layers l) image ≡ own_tray image
    unfolding read_tray
    read_tray_lem = simp (eq-eqb reason 0 z)

  pub read_done : (n t : ℕ) (part : List ℕ) → n ≡ reason → n ≡ 0 → t ≡ read_tray edition1 l volume (layers l) image → part ≡ read_symbols edition1 l volume (layers l) [] image →
      an_image t (length part) ≡ image_numbers l volume image
  unfolding image_numbers
  read_done n t part e z f p =
      let q : reason ≡ 0 = sym e ∙ z in
      simp (eq-eqb reason 0 q) (ap₂ an_image (f ∙ read_tray_lem q) (ap length p ∙ read_long q))

  -- the bytes where the symbols are said to lie are the symbols that a read gives
  abbrev Lies : Type 0
  Lies = take (image_numbers l volume image).length (drop (image_numbers l volume image).offset image) ≡ read_symbols edition1 l volume (layers l) [] image

  lies_refused : (reason ≡ 0 → ⊥) → Lies
  unfolding image_numbers read_symbols
  lies_refused d = simp (ne_eqb reason 0 d)

  lies_read : reason ≡ 0 → Lies
  unfolding image_numbers
  lies_read z =
      let g : drop header_length image ≡ read_symbols edition1 l volume (layers l) [] image = given_rest l volume image reason refl z in
      let n : length (drop header_length image) ≡ layers l = ap length g ∙ read_long z in
      simp (eq-eqb reason 0 z) (take_all (layers l) (drop header_length image) (omega (arith, n)) ∙ g)

  pub image_lies : Lies
  image_lies = go (ℕ_discrete reason 0)
    where
      go : Dec (reason ≡ 0) → Lies
      go (yes z) = lies_read z
      go (no d) = lies_refused d

-- one of two runs: where it lies and how long it is
run_lies : (b : Bool) (n x y : ℕ) (s c : List ℕ) → take n (drop (cond b x y) (cond (eqb (cond b 2 1) 2) s c)) ≡ cond b (take n (drop x s)) (take n (drop y c))
run_lies true n x y s c = refl
run_lies false n x y s c = refl

run_long : (b : Bool) (n x y : ℕ) (s c : List ℕ) → x + n ≤ length s → y + n ≤ length c → length (cond b (take n (drop x s)) (take n (drop y c))) ≡ n
run_long true n x y s c h k = length-take-le n (drop x s) (omega (arith, length-drop x s))
run_long false n x y s c h k = length-take-le n (drop y c) (omega (arith, length-drop y c))

-- reading while repairing
module _ (N : ℕ) (l : Layout) (codeword spare : List ℕ) (lost done tray first end : ℕ) where
  abbrev part_ground : ℕ
  part_ground = part_refusal N l (length codeword) (length spare) lost done tray first end

  abbrev numbers : PartNumbers
  numbers = part_numbers N l (length codeword) (length spare) lost done tray first end

  abbrev no_part : ℕ → PartNumbers
  no_part n = record { refusal = n; source = 0; offset = 0; length = 0 }

  -- the symbols where the part is said to lie are the part that a read gives
  abbrev PartLies : Type 0
  PartLies = take numbers.length (drop numbers.offset (cond (eqb numbers.source 2) spare codeword)) ≡ part_given N l codeword spare lost done tray first end

  part_lies_refused : (part_ground ≡ 0 → ⊥) → PartLies
  unfolding part_numbers part_given
  part_lies_refused d = simp (ne_eqb part_ground 0 d)

  part_lies_read : part_ground ≡ 0 → PartLies
  unfolding part_numbers part_given
  part_lies_read z = simp (eq-eqb part_ground 0 z) (run_lies (eqb tray lost) (end - first) first (tray * layers l + first) spare codeword)

  pub part_lies : PartLies
  part_lies = go (ℕ_discrete part_ground 0)
    where
      go : Dec (part_ground ≡ 0) → PartLies
      go (yes z) = part_lies_read z
      go (no d) = part_lies_refused d

  part_long : part_ground ≡ 0 → length (part_given N l codeword spare lost done tray first end) ≡ end - first
  unfolding part_given
  part_long z =
      let a = accepted N l (length codeword) (length spare) lost done tray first end z in
      simp (eq-eqb part_ground 0 z) (run_long (eqb tray lost) (end - first) first (tray * layers l + first) spare codeword
      (omega (arith, a.readable.rises, a.readable.end_in, a.spare_long)) (omega (arith, a.readable.rises, run_end a refl refl)))

  -- x and y are the kinds' numbers, n the refusal that was written
  module _ (x y n : ℕ) (xs : x ≡ lost) (ys : y ≡ tray) (e : n ≡ part_refusal N l (length codeword) (length spare) x done y first end) where
    refusal_is : n ≡ part_ground
    refusal_is = e ∙ ap₂ (λ a b. part_refusal N l (length codeword) (length spare) a done b first end) xs ys

    pub part_refused : (n ≡ 0 → ⊥) → no_part n ≡ numbers
    unfolding part_numbers
    part_refused d = simp (ne_eqb part_ground 0 (λ z. d (refusal_is ∙ z))) (ap no_part refusal_is)

    module _ (z : n ≡ 0) where
      none : part_ground ≡ 0
      none = sym refusal_is ∙ z

      pub part_read : (part : List ℕ) → part ≡ part_given N l codeword spare x done y first end →
          (m : ℕ) → m ≡ layers l → (r : PartNumbers) → r ≡ run_numbers lost tray first (tray * m + first) (length part) → r ≡ numbers
      unfolding part_numbers
      part_read part p m k r s =
          let given : part ≡ part_given N l codeword spare lost done tray first end = p ∙ ap₂ (λ a b. part_given N l codeword spare a done b first end) xs ys in
          simp (eq-eqb part_ground 0 none) (s ∙ ap₂ (λ i n. run_numbers lost tray first (tray * i + first) n) k (ap length given ∙ part_long none))
