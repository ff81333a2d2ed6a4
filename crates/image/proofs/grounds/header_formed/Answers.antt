use Rattle.image.proofs.Forms.{headed, header_short, header_layout}
use Rattle.image.proofs.grounds.header_formed.Goals as goal

pub returns-then-image-lt-HEADER : goal.returns-then-image-lt-HEADER
returns-then-image-lt-HEADER c = search header_short

pub returns-then-not-admitted : goal.returns-then-not-admitted
returns-then-not-admitted c = search header_layout

pub header_kept-requires : goal.header_kept-requires
header_kept-requires c = search headed
