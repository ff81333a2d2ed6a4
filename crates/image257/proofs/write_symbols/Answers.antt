use Rattle.image257.proofs.Second.{pair_more, pairs_all}
use Rattle.image257.proofs.write_symbols.Goals as goal

pub loop-j-preserved : goal.loop-j-preserved
loop-j-preserved c = search pair_more

pub returns : goal.returns
returns c = search pairs_all
