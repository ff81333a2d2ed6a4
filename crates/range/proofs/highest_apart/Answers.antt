use Rattle.range.proofs.Symbols.{apart_of}
use Rattle.range.proofs.highest_apart.Goals as goal

pub returns : goal.returns
returns g c = apart_of _ _ _ _ _ _ _ _ _ _ c.at.ensures c.at-2.ensures c.at-3.ensures c.at-4.ensures c.higher-low.ensures c.higher-high.ensures c.higher.ensures
