-- What the repair with E = 1 is given where the shares are those that the share calls left.
-- Assumes nothing.
use Rattle.std.specs.Prelude.{◌≡◌, List, ℕ, ◌*◌, ◌/◌, ◌<◌, get_or, take, drop}
use Rattle.algebra.specs.Shape.{Field}
use Rattle.layout.specs.declared.Layout.{Layout}
use Rattle.layout.specs.Layout.{groups}
use Rattle.rule.specs.Rule.{rack_part}
use Rattle.share.specs.Many.{shares_buffer}
use Rattle.correcting.specs.Correcting.{Setting}

-- of every helper but the k-th what the share call left in a room that held anything; the k-th one's share may have any symbols
pub record CalledWrong {A : Type 0} (f : Field A) (l : Layout) (x : ℕ) (helpers shares host c : List ℕ) (k : ℕ) : Type 0 where
  pub setting : Setting f l x helpers shares host c
  pub helper_in : k < l.helpers
  pub room : ℕ → List ℕ
  pub share : (i : ℕ) → i < l.helpers → ¬ (i ≡ k) →
      take (groups l) (drop (i * groups l) shares) ≡ shares_buffer f l 1 (x / l.size) (get_or helpers i 0) (rack_part l c (get_or helpers i 0)) (room i)
