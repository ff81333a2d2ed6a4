use Rattle.syndrome.proofs.Points.{repeated_powers, repeated_room, repeated_count, repeated_some, repeated_run, repeated_period}
use Rattle.syndrome.proofs.repeated_powers.Goals as goal

pub power_runs-requires : goal.power_runs-requires
power_runs-requires g c = (search repeated_room, search repeated_run)

pub nonzero_div-w : goal.nonzero_div-w
nonzero_div-w g c = search repeated_period

pub extend-requires : goal.extend-requires
extend-requires g c = (search repeated_count, search repeated_some)

pub returns : goal.returns
returns g c = search (repeated_powers g.met.N.FieldNumber.working)
