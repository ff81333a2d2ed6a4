-- The calls with several weights: the e shares of weight m = 0 .. e - 1 lie one after another in order of m, so number n of the buffer is symbol n mod L/s
-- of the share of weight n / (L/s). With e = 1 and either E what is made is that of document 01's calls (proofs/Weights.antt); the calls with e are for E = 0
-- (document 02, W12).
-- Assumes nothing.
use Rattle.std.specs.Prelude.{Bool, true, not, cond, ◌&&◌, List, ℕ, ◌*◌, ◌/◌, ◌%◌, eqb, ltb, length, get_or}
use Rattle.lists.specs.Lists.{table, unless}
use Rattle.algebra.specs.Shape.{Field}
use Rattle.layout.specs.declared.Layout.{Layout}
use Rattle.layout.specs.Layout.{trays, layers, groups, admissible, admissible_with, lost_count_fits}
use Rattle.range.specs.Range.{symbols_from}
use Rattle.rule.specs.Rule.{share_symbol}
use Rattle.share.specs.Share.{part_symbol}

-- the grounds of both calls in their order, 12 right after where 5 would stand: whether the layout is one for the call, the lengths are right, the numbers inside
-- the layout, what is looked at symbols of the field and the host another rack; with e = 0 nothing is looked at
abbrev pub many_grounds : Bool → Layout → ℕ → Bool → Bool → Bool → Bool → ℕ
many_grounds fit l e lengths inside symbols other =
    unless fit 1
    (unless lengths 2
    (unless (inside && cond (eqb e 0) true symbols) 3
    (unless (lost_count_fits l e) 12
    (unless other 6
    0))))

module _ {A : Type 0} (f : Field A) (l : Layout) where
  open f.ops use {add}

  -- the grounds for e shares of a layout that is fit or not, given the rack and the length of the room for the shares
  abbrev rack_grounds : Bool → ℕ → ℕ → ℕ → List ℕ → ℕ → ℕ
  rack_grounds fit e host helper rack room =
      many_grounds fit l e (eqb (length rack) (l.size * layers l) && eqb room (e * groups l)) (ltb host l.racks && ltb helper l.racks)
      (symbols_from f rack 0 (length rack)) (not (eqb host helper))

  -- the grounds for adding tray x's parts to e shares, given the tray and what the shares hold
  abbrev tray_grounds : Bool → ℕ → ℕ → ℕ → List ℕ → List ℕ → ℕ
  tray_grounds fit e host x symbols held =
      many_grounds fit l e (eqb (length symbols) (layers l) && eqb (length held) (e * groups l)) (ltb host l.racks && ltb x (trays l))
      (symbols_from f symbols 0 (length symbols) && symbols_from f held 0 (length held)) (not (eqb host (x / l.size)))

  -- the refusals with either E, 0 for none ..
  unfoldable pub shares_refusal : ℕ → ℕ → ℕ → List ℕ → ℕ → ℕ
  shares_refusal = rack_grounds (admissible f.order l)

  unfoldable pub fed_refusal : ℕ → ℕ → ℕ → List ℕ → List ℕ → ℕ
  fed_refusal = tray_grounds (admissible f.order l)

  -- .. and those of the calls with e
  unfoldable pub many_refusal : ℕ → ℕ → ℕ → List ℕ → ℕ → ℕ
  many_refusal = rack_grounds (admissible_with f.order 0 l)

  unfoldable pub add_many_refusal : ℕ → ℕ → ℕ → List ℕ → List ℕ → ℕ
  add_many_refusal = tray_grounds (admissible_with f.order 0 l)

  -- a helper's e shares for the host rack h
  unfoldable pub shares_of : ℕ → ℕ → List ℕ → List ℕ
  shares_of e h rack = table (λ n. f.coding.val (share_symbol f l (n / groups l) h rack (n % groups l))) (e * groups l)

  -- what the room for the shares holds with either E, and after the call
  unfoldable pub shares_buffer : ℕ → ℕ → ℕ → List ℕ → List ℕ → List ℕ
  shares_buffer e host helper rack out = cond (eqb (shares_refusal e host helper rack (length out)) 0) (shares_of e host rack) out

  unfoldable pub many_buffer : ℕ → ℕ → ℕ → List ℕ → List ℕ → List ℕ
  many_buffer e host helper rack out = cond (eqb (many_refusal e host helper rack (length out)) 0) (shares_of e host rack) out

  -- number n of tray x's parts in the order of the shares
  unfoldable pub part_at : ℕ → ℕ → List ℕ → ℕ → A
  part_at h x symbols n = part_symbol f l (n / groups l) h x symbols (n % groups l)

  -- what the buffer of e shares holds once tray x is fed: what it held, plus for each m the tray's part of weight m
  unfoldable pub fed_many : ℕ → ℕ → ℕ → List ℕ → List ℕ → List ℕ
  fed_many e h x symbols held = table (λ n. f.coding.val (add (f.coding.elem (get_or held n 0)) (part_at h x symbols n))) (e * groups l)

  -- what it holds with either E, and after the call
  unfoldable pub fed_buffer : ℕ → ℕ → ℕ → List ℕ → List ℕ → List ℕ
  fed_buffer e host x symbols held = cond (eqb (fed_refusal e host x symbols held) 0) (fed_many e host x symbols held) held

  unfoldable pub add_many_buffer : ℕ → ℕ → ℕ → List ℕ → List ℕ → List ℕ
  add_many_buffer e host x symbols held = cond (eqb (add_many_refusal e host x symbols held) 0) (fed_many e host x symbols held) held
