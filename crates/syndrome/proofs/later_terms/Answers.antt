use Rattle.syndrome.proofs.Terms.{adding_none, adding_more}
use Rattle.syndrome.proofs.later_terms.Goals as goal

pub loop-t-init : goal.loop-t-init
loop-t-init g c = adding_none g.met.N.FieldNumber.working _ _ _ _

pub loop-t-preserved : goal.loop-t-preserved
loop-t-preserved g c = search (adding_more g.met.N.FieldNumber.working)
