-- Made by tools/twin.py from crates/test_kept/proofs/first/bad_part/Answers.antt.
use Rattle.std.proofs.Common.{rules}
use Rattle.test_kept.proofs.Blocks.{parts_of, part_unfit, narrower}
use Rattle.test_kept257.proofs.first.bad_part.Goals as goal

pub bad_block-requires : goal.bad_block-requires
bad_block-requires c = (search parts_of, search rules, search part_unfit)

pub returns : goal.returns
returns c = search narrower
