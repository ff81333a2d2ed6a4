-- The loss margin: the live trays, less k.
-- Assumes nothing.
use Rattle.std.specs.Prelude.{cond, List, ℕ, zero, suc, ◌+◌, eqb, ℤ, pos, ◌-ℤ◌, length, get_or}
use Rattle.lists.specs.Lists.{unless, all_below}
use Rattle.layout.specs.declared.Layout.{Layout}
use Rattle.layout.specs.Layout.{trays, admissible}
use Rattle.margin.specs.declared.LossMargin.{LossMargin}
use Rattle.margin.specs.declared.LossMargin.TheVariants.{Known, Refused}

-- the live trays among the first n; the states of a tray are 0 absent, 1 live, 2 demonstration
unfoldable pub live : List ℕ → ℕ → ℕ
live states zero = 0
live states (suc n) = live states n + cond (eqb (get_or states n 0) 1) 1 0

-- the margin, below zero too
unfoldable pub margin_of : Layout → List ℕ → ℤ
margin_of l states = pos (live states (length states)) -ℤ pos l.dimension

-- the refusal in a field whose root has N powers, 0 for none
unfoldable pub margin_refusal : ℕ → Layout → List ℕ → ℕ
margin_refusal N l states =
    unless (admissible N l) 1
    (unless (eqb (length states) (trays l)) 2
    (unless (all_below states 3) 3 0))

-- the answer
unfoldable pub margin_answer : ℕ → Layout → List ℕ → LossMargin
margin_answer N l states = cond (eqb (margin_refusal N l states) 0) (Known (margin_of l states)) (Refused (margin_refusal N l states))
