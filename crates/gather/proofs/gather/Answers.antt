use Rattle.image.specs.Image.{edition1}
use Rattle.gather.proofs.Whole.{gather_refused, gather_told, gather_done}
use Rattle.gather.proofs.gather.Goals as goal

pub returns-then-ground-ne0 : goal.returns-then-ground-ne0
returns-then-ground-ne0 c =
    let a = c.args in
    gather_refused edition1 a.l a.volume a.images.now a.codeword.now a.missing.now _ c.refusal-ground.ensures c.if-ground-ne0.true

pub gather_all-count-requires : goal.gather_all-count-requires
gather_all-count-requires c =
    let a = c.args in
    gather_told edition1 a.l a.volume a.images.now a.codeword.now a.missing.now _ c.refusal-ground.ensures c.if-ground-ne0.false

pub returns : goal.returns
returns c =
    let a = c.args in
    gather_done edition1 a.l a.volume a.images.now a.codeword.now a.missing.now _ c.refusal-ground.ensures c.if-ground-ne0.false _ _ _
    c.gather_all-count.ensures
