-- Made by tools/twin.py from crates/share/proofs/feed/Answers.antt.
use Rattle.symbol257.specs.Elem.{gf257}
use Rattle.symbol257.proofs.Working.{working}
use Rattle.share.proofs.Parts.{summing_of, feeding_next, fed_one, fed_more}
use Rattle.share257.proofs.feed.Goals as goal

pub add_sums-requires : goal.add_sums-requires
add_sums-requires c =
    let a = c.args in
    let p = c.requires in
    (summing_of gf257 a.l a.count a.h a.symbols.now a.at a.m a.shares.now p.0, p.1)

pub returns-then-count-lt2 : goal.returns-then-count-lt2
returns-then-count-lt2 c =
    let a = c.args in
    let p = c.requires in
    fed_one working a.l a.count a.h a.x a.symbols.now a.at a.shares.now a.m p.0.room _ c.add_sums.ensures p.0.some c.if-count-lt2.true

pub add_rest-requires : goal.add_rest-requires
add_rest-requires c =
    let a = c.args in
    let p = c.requires in
    (feeding_next gf257 a.l a.count a.h a.symbols.now a.at a.m a.shares.now p.0 _ c.add_sums.ensures, p.1, p.2)

pub returns : goal.returns
returns c =
    let a = c.args in
    fed_more working a.l a.count a.h a.x a.symbols.now a.at a.shares.now a.m c.requires.0.room _ c.add_sums.ensures _ c.add_rest.ensures
