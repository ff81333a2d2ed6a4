-- Made by tools/twin.py from crates/group/proofs/sound_terms/Answers.antt.
use Rattle.std.proofs.Common.{length, rules}
use Rattle.lists.proofs.Bools.{told_false, told_true}
use Rattle.symbol257.proofs.Working.{working}
use Rattle.group.proofs.Rests.{terms_lost, terms_sound}
use Rattle.group.specs.Inner.{spot}
use Rattle.group257.proofs.sound_terms.Goals as goal

pub returns-then-not-is_absent : goal.returns-then-not-is_absent
returns-then-not-is_absent c =
    let a = c.args in
    terms_lost working a.l a.h a.lost.now a.host.now c.requires.0 a.w (length a.lost.now)
    (λ j. spot a.r.start a.r.run a.r.stride j) a.g a.rests.now
    c.requires.3 (told_false c.is_absent.ensures (search rules))

pub returns : goal.returns
returns c =
    let a = c.args in
    terms_sound working a.l a.h a.lost.now a.host.now c.requires.0 a.w (length a.lost.now)
    (λ j. spot a.r.start a.r.run a.r.stride j) a.g a.rests.now
    c.place_terms.new.rests (told_true c.is_absent.ensures (search rules)) c.place_terms.ensures
