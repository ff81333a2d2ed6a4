use Rattle.rack_solving.proofs.Wide.{systems_wide, points_in, points_few, turns_fit}
use Rattle.rack_solving.proofs.weighted_sums.Goals as goal

pub overflow_mul-turns : goal.overflow_mul-turns
overflow_mul-turns c = search turns_fit

pub solve-requires-2 : goal.solve-requires-2
solve-requires-2 c = (search systems_wide, search points_in, search points_few)
