-- Made by tools/twin.py from crates/multipliers/proofs/right_multipliers/Answers.antt.
use Rattle.multipliers.proofs.Sides.{rooms}
use Rattle.multipliers257.proofs.right_multipliers.Goals as goal

pub solve_sides-requires : goal.solve_sides-requires
solve_sides-requires c = (c.requires.0, rooms _ c.requires.1)
