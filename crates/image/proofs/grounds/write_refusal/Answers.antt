use Rattle.image.proofs.WriteGrounds.{cabinet_so, write_1, write_2_count, write_2_room, write_3, write_3_symbols, write_0}
use Rattle.image.proofs.grounds.write_refusal.Goals as goal

pub returns-then-not-admitted : goal.returns-then-not-admitted
returns-then-not-admitted c = search write_1

pub layer_count-requires : goal.layer_count-requires
layer_count-requires c = search cabinet_so

pub returns-then-count-layer_count : goal.returns-then-count-layer_count
returns-then-count-layer_count c = search write_2_count

pub image_length-requires : goal.image_length-requires
image_length-requires c = search cabinet_so

pub returns-then-room-image_length : goal.returns-then-room-image_length
returns-then-room-image_length c = search write_2_room

pub in_range-requires : goal.in_range-requires
in_range-requires c = search cabinet_so

pub returns-then-not-in_range : goal.returns-then-not-in_range
returns-then-not-in_range c = search write_3

pub returns-then-not-ok : goal.returns-then-not-ok
returns-then-not-ok c = search write_3_symbols

pub returns : goal.returns
returns c = search write_0
