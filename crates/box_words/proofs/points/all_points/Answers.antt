use Rattle.box_words.proofs.PointTable.{numbers, points_are}
use Rattle.box_words.proofs.points.all_points.Goals as goal

pub returns : goal.returns
unfolding numbers
returns c = points_are
