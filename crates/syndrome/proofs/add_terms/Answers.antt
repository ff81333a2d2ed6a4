use Rattle.syndrome.proofs.Terms.{terms_of}
use Rattle.syndrome.proofs.add_terms.Goals as goal

pub returns : goal.returns
returns g c = search (terms_of g.met.N.FieldNumber.working)
