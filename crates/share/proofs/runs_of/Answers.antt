use Rattle.share.proofs.Sums.{runs_are, run_some}
use Rattle.share.proofs.runs_of.Goals as goal

pub nonzero_div-result : goal.nonzero_div-result
nonzero_div-result c = let p = c.requires in run_some _ _ _ _ p.0 p.1 p.2.digits_are c.capped_power-length.ensures

pub returns : goal.returns
returns c = let p = c.requires in runs_are _ _ _ _ _ _ p.0 p.1 p.2 c.capped_power-length.ensures
