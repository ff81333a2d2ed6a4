-- Made by tools/twin.py from crates/share/proofs/tray_refusal/Answers.antt.
use Rattle.std.proofs.Common.{ap, ◌∙◌, ◌/◌, length}
use Rattle.symbol257.specs.Elem.{gf257}
use Rattle.symbol257.proofs.Working.{working}
use Rattle.layout.proofs.Facts.{admitted_so, size_pos}
use Rattle.share.specs.Inner.{grounds}
use Rattle.share.proofs.Refusals.{tray_ground_1, tray_grounds_lem}
use Rattle.share257.proofs.tray_refusal.Goals as goal

pub returns-then-not-admitted : goal.returns-then-not-admitted
returns-then-not-admitted c = tray_ground_1 working _ _ _ _ _ _ (cc)

pub counts_of-n-requires : goal.counts_of-n-requires
counts_of-n-requires c = (admitted_so gf257.order _ _ c.admitted.ensures (cc)).cabinet

pub nonzero_div-x : goal.nonzero_div-x
nonzero_div-x c = size_pos _ (admitted_so gf257.order _ _ c.admitted.ensures (cc)).cabinet

pub returns : goal.returns
returns c =
    let a = c.args in
    c.refusal.ensures
    ∙ ap (grounds gf257.order a.l a.count 1 a.host (a.x / a.l.size) (length a.symbols.now) (length a.shares.now)) c.both_symbols-both.ensures
    ∙ tray_grounds_lem working _ _ _ _ _ _ (admitted_so gf257.order _ _ c.admitted.ensures (cc))
