use Rattle.image.proofs.Forms.{header_length_bad, header_range_bad, header_decides}
use Rattle.image.proofs.grounds.header_kept.Goals as goal

pub returns-then-image-image_length : goal.returns-then-image-image_length
returns-then-image-image_length c = search header_length_bad

pub returns-then-not-in_range : goal.returns-then-not-in_range
returns-then-not-in_range c = search header_range_bad

pub returns : goal.returns
returns c = search header_decides
