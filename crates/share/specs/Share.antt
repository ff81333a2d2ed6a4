-- Document 01's share of a helper and a tray's part in it. What the share calls promise is in Many.antt.
-- Assumes nothing.
use Rattle.std.specs.Prelude.{List, ℕ, ◌%◌, get_or}
use Rattle.lists.specs.Lists.{table}
use Rattle.algebra.specs.Sum.{pow}
use Rattle.algebra.specs.Shape.{Field}
use Rattle.algebra.specs.Points.{place}
use Rattle.algebra.specs.Cabinet.{group_sum}
use Rattle.layout.specs.declared.Layout.{Layout}
use Rattle.layout.specs.Layout.{groups}
use Rattle.codeword.specs.Codeword.{shape_of}
use Rattle.rule.specs.Rule.{share_symbol}

module _ {A : Type 0} (f : Field A) (l : Layout) where
  open f.ops use {mul}

  -- a helper's share of weight m for the host rack h; document 01's has m = 0
  unfoldable pub share_of : ℕ → ℕ → List ℕ → List ℕ
  share_of m h rack = table (λ p. f.coding.val (share_symbol f l m h rack p)) (groups l)

  -- symbol p of tray x's part in its rack's share for the host rack h: the sum over the layers of group p of the tray's symbols, each times the m-th power
  -- of its place's factor; document 01's share has m = 0
  unfoldable pub part_symbol : ℕ → ℕ → ℕ → List ℕ → ℕ → A
  part_symbol m h x symbols p = group_sum (shape_of f l) h p (λ j. mul (pow f.ops (place (shape_of f l) (x % l.size)) m) (f.coding.elem (get_or symbols j 0)))
