use Rattle.nibble.specs.Elem.{elem}
use Rattle.box_recover.proofs.Steps.{weight_none, weight_more}
use Rattle.box_recover.proofs.lagrange.weight.Goals as goal

pub loop-j-init : goal.loop-j-init
loop-j-init c = weight_none _ _ _

pub loop-j-preserved : goal.loop-j-preserved
loop-j-preserved c = weight_more c.args.points.now c.args.i (elem c.args.x) c.loop-j.j _ _ c.loop-j.invariant c.factor-product.ensures
