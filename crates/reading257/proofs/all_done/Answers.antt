-- Made by tools/twin.py from crates/reading/proofs/all_done/Answers.antt.
use Rattle.std.proofs.Common.{rules}
use Rattle.layout.proofs.Facts.{size_pos}
use Rattle.reading.proofs.Ranges.{not_done, done_all, done_more, has_layer}
use Rattle.reading257.proofs.all_done.Goals as goal

pub nonzero_div-h : goal.nonzero_div-h
nonzero_div-h c = search (size_pos, rules)

pub group_of-requires : goal.group_of-requires
group_of-requires c = search has_layer

pub returns-then-done-group_of : goal.returns-then-done-group_of
returns-then-done-group_of c = search not_done

pub loop-j-preserved : goal.loop-j-preserved
loop-j-preserved c = search done_more

pub returns : goal.returns
returns c = search done_all
