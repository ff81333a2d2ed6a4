use Rattle.scrub.proofs.Seen.{rows_seen}
use Rattle.scrub.proofs.grounds.step_symbols.Goals as goal

pub returns : goal.returns
returns c = search rows_seen
