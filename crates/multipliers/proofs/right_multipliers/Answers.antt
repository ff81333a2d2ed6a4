use Rattle.multipliers.proofs.Sides.{rooms}
use Rattle.multipliers.proofs.right_multipliers.Goals as goal

pub solve_sides-requires : goal.solve_sides-requires
solve_sides-requires c = (c.requires.0, rooms _ c.requires.1)
