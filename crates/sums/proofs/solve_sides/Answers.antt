use Rattle.std.proofs.Common.{rules}
use Rattle.symbol.proofs.Working.{working}
use Rattle.sums.proofs.Points.{one_column, single}
use Rattle.sums.proofs.solve_sides.Goals as goal

pub solve_columns-requires : goal.solve_columns-requires
solve_columns-requires c = (search rules, search rules, search (one_column working), search rules)

pub solve_columns-requires-2 : goal.solve_columns-requires-2
solve_columns-requires-2 c = (search rules, search rules, search (single working), search rules)
