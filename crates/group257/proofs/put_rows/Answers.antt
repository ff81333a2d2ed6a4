-- Made by tools/twin.py from crates/group/proofs/put_rows/Answers.antt.
use Rattle.group.proofs.Spots.{put_end, put_more, put_none, tray_fits_2}
use Rattle.group257.proofs.put_rows.Goals as goal

pub loop-i-init : goal.loop-i-init
loop-i-init c = search put_none

pub overflow_add-i : goal.overflow_add-i
overflow_add-i c = search tray_fits_2

pub loop-i-preserved : goal.loop-i-preserved
loop-i-preserved c = search put_more

pub returns : goal.returns
returns c = search put_end
