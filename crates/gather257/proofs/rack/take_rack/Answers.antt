-- Made by tools/twin.py from crates/gather/proofs/rack/take_rack/Answers.antt.
use Rattle.std.proofs.Common.{arith}
use Rattle.image.specs.Image.{edition2}
use Rattle.gather.proofs.Racks.{first_low, rack_none, rack_more, rack_place, rack_end}
use Rattle.gather257.proofs.rack.take_rack.Goals as goal

pub overflow_mul-first : goal.overflow_mul-first
overflow_mul-first c =
    let a = c.args in
    let h = first_low edition2 a.l a.rack a.images.now c.requires.read in
    omega arith

pub loop-g-init : goal.loop-g-init
loop-g-init c = rack_none _ _ _ _ _ _

pub take_place-requires : goal.take_place-requires
take_place-requires c = search rack_place

pub loop-g-preserved : goal.loop-g-preserved
loop-g-preserved c = search rack_more

pub returns : goal.returns
returns c = search rack_end
