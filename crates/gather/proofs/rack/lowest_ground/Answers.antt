use Rattle.std.proofs.Common.{arith}
use Rattle.image.specs.Image.{edition1}
use Rattle.gather.proofs.Racks.{first_low, place_read, lowest_none, lowest_more, lowest_end}
use Rattle.gather.proofs.rack.lowest_ground.Goals as goal

pub overflow_mul-first : goal.overflow_mul-first
overflow_mul-first c =
    let a = c.args in
    let h = first_low edition1 a.l a.rack a.images.now c.requires in
    omega arith

pub loop-g-init : goal.loop-g-init
loop-g-init c = lowest_none _ _ _ _ _ _

pub looked_ground-ground-requires : goal.looked_ground-ground-requires
looked_ground-ground-requires c = search place_read

pub loop-g-preserved : goal.loop-g-preserved
loop-g-preserved c = search lowest_more

pub returns : goal.returns
returns c = search lowest_end
