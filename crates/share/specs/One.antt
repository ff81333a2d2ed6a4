-- The calls for one share in document 01's own words. What they promise is the case e = 1 of Many.antt; that it is this is a theorem (`one_refusal`, `one_buffer`,
-- `one_add_refusal`, `one_add_buffer`), so that nothing here has to be believed.
-- Assumes nothing.
use Rattle.std.specs.Prelude.{not, cond, ◌&&◌, List, ℕ, ◌*◌, ◌/◌, eqb, ltb, length, get_or}
use Rattle.lists.specs.Lists.{table, unless}
use Rattle.algebra.specs.Shape.{Field}
use Rattle.layout.specs.declared.Layout.{Layout}
use Rattle.layout.specs.Layout.{trays, layers, groups, admissible}
use Rattle.range.specs.Range.{symbols_from}
use Rattle.share.specs.Share.{share_of, part_symbol}

module _ {A : Type 0} (f : Field A) (l : Layout) where
  open f.ops use {add}

  -- the refusal of a share, given the rack and the length of the room for the share; 0 for none. Every symbol of the rack is looked at
  unfoldable pub share_refusal : ℕ → ℕ → List ℕ → ℕ → ℕ
  share_refusal host helper rack room =
      unless (admissible f.order l) 1
      (unless (eqb (length rack) (l.size * layers l) && eqb room (groups l)) 2
      (unless (ltb host l.racks && ltb helper l.racks && symbols_from f rack 0 (length rack)) 3
      (unless (not (eqb host helper)) 6
      0)))

  -- the refusal of adding tray x's part to a share, given the tray and what the share holds; 0 for none. Every symbol of both is looked at
  unfoldable pub add_refusal : ℕ → ℕ → List ℕ → List ℕ → ℕ
  add_refusal host x symbols held =
      unless (admissible f.order l) 1
      (unless (eqb (length symbols) (layers l) && eqb (length held) (groups l)) 2
      (unless (ltb host l.racks && ltb x (trays l) && (symbols_from f symbols 0 (length symbols) && symbols_from f held 0 (length held))) 3
      (unless (not (eqb host (x / l.size))) 6
      0)))

  -- what the room for the share holds after the call
  unfoldable pub share_buffer : ℕ → ℕ → List ℕ → List ℕ → List ℕ
  share_buffer host helper rack out = cond (eqb (share_refusal host helper rack (length out)) 0) (share_of f l 0 host rack) out

  -- what a share's buffer holds once tray x is fed: what it held, plus this tray's part
  unfoldable pub fed : ℕ → ℕ → ℕ → List ℕ → List ℕ → List ℕ
  fed m h x symbols held = table (λ p. f.coding.val (add (f.coding.elem (get_or held p 0)) (part_symbol f l m h x symbols p))) (groups l)

  -- what it holds after the call
  unfoldable pub add_buffer : ℕ → ℕ → List ℕ → List ℕ → List ℕ
  add_buffer host x symbols held = cond (eqb (add_refusal host x symbols held) 0) (fed 0 host x symbols held) held
