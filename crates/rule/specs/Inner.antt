-- The formula of what the rule fixes. Nothing here has to be believed.
-- Assumes nothing.
use Rattle.std.specs.Prelude.{List, ℕ, ◌/◌, length, get_or}
use Rattle.algebra.specs.Erasure.{erased}
use Rattle.algebra.specs.Shape.{Field}
use Rattle.algebra.specs.Points.{place}
use Rattle.algebra.specs.Layers.{digit, layer_of}
use Rattle.algebra.specs.Repair.{host_sum}
use Rattle.layout.specs.declared.Layout.{Layout}
use Rattle.layout.specs.Layout.{digits, parity_racks}
use Rattle.codeword.specs.Codeword.{shape_of, symbol_at}
use Rattle.rule.specs.Rule.{group_at}
use Rattle.rule.specs.Lost.{first_lost, lost_place, sent_symbol}

-- the host's rack sum of weight m in layer j, and the number of the i-th lost tray there
module _ {A : Type 0} (f : Field A) (l : Layout) (lost helpers shares : List ℕ) where
  unfoldable pub layer_sum : ℕ → ℕ → A
  layer_sum j m =
      host_sum (shape_of f l) (first_lost l lost / l.size) (digit (digits l) (layer_of (digits l) (first_lost l lost / l.size) (group_at l (first_lost l lost) j) 0)) (λ k. get_or helpers k 0)
      l.helpers (parity_racks l) m (sent_symbol f l (length lost) shares m (group_at l (first_lost l lost) j)) (digit (digits l) j (first_lost l lost / l.size))

  unfoldable pub lost_symbol : List ℕ → ℕ → ℕ → ℕ
  lost_symbol host i j =
      f.coding.val (erased f.ops (place (shape_of f l)) l.size (lost_place l lost) (length lost) (layer_sum j) (λ g. symbol_at f l host g j) i)
