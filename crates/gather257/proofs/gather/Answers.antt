-- Made by tools/twin.py from crates/gather/proofs/gather/Answers.antt.
use Rattle.image.specs.Image.{edition2}
use Rattle.gather.proofs.Whole.{gather_refused, gather_told, gather_done}
use Rattle.gather257.proofs.gather.Goals as goal

pub returns-then-ground-ne0 : goal.returns-then-ground-ne0
returns-then-ground-ne0 c =
    let a = c.args in
    gather_refused edition2 a.l a.volume a.images.now a.codeword.now a.missing.now _ c.refusal-ground.ensures c.if-ground-ne0.true

pub gather_all-count-requires : goal.gather_all-count-requires
gather_all-count-requires c =
    let a = c.args in
    gather_told edition2 a.l a.volume a.images.now a.codeword.now a.missing.now _ c.refusal-ground.ensures c.if-ground-ne0.false

pub returns : goal.returns
returns c =
    let a = c.args in
    gather_done edition2 a.l a.volume a.images.now a.codeword.now a.missing.now _ c.refusal-ground.ensures c.if-ground-ne0.false _ _ _
    c.gather_all-count.ensures
