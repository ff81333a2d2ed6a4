use Rattle.syndrome.proofs.Points.{steady_powers, base_low, digit_there}
use Rattle.syndrome.proofs.digit_powers.Goals as goal

pub digit_at-a-requires : goal.digit_at-a-requires
digit_at-a-requires g c = (search base_low, search digit_there)

pub returns : goal.returns
returns g c = search (steady_powers g.met.N.FieldNumber.working)
