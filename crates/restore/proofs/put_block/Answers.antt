use Rattle.restore.proofs.Put.{put_in, put_from, put_more}
use Rattle.restore.proofs.put_block.Goals as goal

pub copy-requires : goal.copy-requires
copy-requires c = (search put_in, search put_from)

pub loop-k-preserved : goal.loop-k-preserved
loop-k-preserved c = search put_more
