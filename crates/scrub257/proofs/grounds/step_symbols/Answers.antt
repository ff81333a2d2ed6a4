-- Made by tools/twin.py from crates/scrub/proofs/grounds/step_symbols/Answers.antt.
use Rattle.scrub.proofs.Seen.{rows_seen}
use Rattle.scrub257.proofs.grounds.step_symbols.Goals as goal

pub returns : goal.returns
returns c = search rows_seen
