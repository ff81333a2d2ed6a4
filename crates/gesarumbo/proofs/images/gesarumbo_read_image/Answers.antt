-- Reading an image: the refusal is the one that was written, and where there is none the symbols lie where the numbers say.
use Rattle.gesarumbo.proofs.Shown.{read_refused, read_done}
use Rattle.gesarumbo.proofs.images.gesarumbo_read_image.Goals as goal

pub returns-then-refusal-ne0 : goal.returns-then-refusal-ne0
returns-then-refusal-ne0 c =
    let s = c.args in
    read_refused s.l s.volume s.image.now _ c.read-part.ensures.number c.if-refusal-ne0.true

pub returns : goal.returns
returns c =
    let s = c.args in
    read_done s.l s.volume s.image.now _ _ _ c.read-part.ensures.number c.if-refusal-ne0.false c.read-part.ensures.tray c.read-part.ensures.part
