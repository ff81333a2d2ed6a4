use Rattle.sums.proofs.Steps.{place_fits}
use Rattle.sums.proofs.rack_place.Goals as goal

pub overflow_add-result : goal.overflow_add-result
overflow_add-result c = search place_fits
