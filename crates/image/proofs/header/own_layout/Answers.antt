use Rattle.image.specs.Image.{own_layout}
use Rattle.image.proofs.header.own_layout.Goals as goal

pub returns : goal.returns
unfolding own_layout
returns c = λ i. record {
  racks = c.byte_at.ensures.0 i;
  size = c.byte_at-2.ensures.0 i;
  dimension = c.byte_at-3.ensures.0 i;
  helpers = c.byte_at-4.ensures.0 i;
  errors = c.byte_at-5.ensures.0 i;
}
