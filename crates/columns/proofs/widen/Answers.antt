use Rattle.columns.proofs.Rows.{widen_of}
use Rattle.columns.proofs.widen.Goals as goal

pub returns : goal.returns
returns g c = let p = c.requires in widen_of _ _ _ _ _ _ _ _ p.0 p.1 p.2 c.spread.ensures c.extend.ensures
