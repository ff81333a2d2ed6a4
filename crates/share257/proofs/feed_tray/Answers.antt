-- Made by tools/twin.py from crates/share/proofs/feed_tray/Answers.antt.
use Rattle.std.proofs.Common.{arith, ap₂, ◌∙◌, ◌≡◌, length}
use Rattle.std.proofs.Math.Nat.{one-mul, div-lt_iff_lt-mul}
use Rattle.symbol257.specs.Elem.{gf257}
use Rattle.symbol257.proofs.Working.{working}
use Rattle.lists.proofs.Bools.{both}
use Rattle.layout.proofs.Facts.{size_pos}
use Rattle.range.specs.Range.{symbols_from}
use Rattle.share.specs.Many.{fed_refusal, fed_many}
use Rattle.share.proofs.Refusals.{symbols_range, tray_shareable, add_refused, add_done}
use Rattle.share.proofs.Parts.{fed_alone}
use Rattle.share257.proofs.feed_tray.Goals as goal

pub returns-then-ground-ne0-clause-buffer : goal.returns-then-ground-ne0-clause-buffer
returns-then-ground-ne0-clause-buffer c =
    let a = c.args in
    add_refused gf257 a.l a.count a.host.0 a.tray.0 a.symbols.now a.shares.now (λ e. c.if-ground-ne0.true (cc))

pub counts_of-n-requires : goal.counts_of-n-requires
counts_of-n-requires c =
    let a = c.args in
    (tray_shareable working a.l a.count a.host.0 a.tray.0 a.symbols.now a.shares.now (cc)).adm.cabinet

pub runs_of-r-requires : goal.runs_of-r-requires
runs_of-r-requires c =
    let a = c.args in
    let p = tray_shareable working a.l a.count a.host.0 a.tray.0 a.symbols.now a.shares.now (cc) in
    (p.adm.cabinet, rw c.number-h.ensures p.host_in, c.counts_of-n.ensures)

pub feed-requires : goal.feed-requires
feed-requires c =
    let a = c.args in
    let p = tray_shareable working a.l a.count a.host.0 a.tray.0 a.symbols.now a.shares.now (cc) in
    let q = both (symbols_from gf257 a.symbols.now 0 (length a.symbols.now)) (symbols_from gf257 a.shares.now 0 (length a.shares.now)) p.symbols_so in (
      record {
        adm = p.adm;
        long = omega (arith, p.long);
        room = p.room_long;
        host_in = rw c.number-h.ensures p.host_in;
        some = p.some;
        few = omega (arith, p.few);
        some_trays = omega arith;
        at_once = omega arith;
        given = symbols_range gf257 a.symbols.now q.0;
        held = symbols_range gf257 a.shares.now q.1;
      },
      c.runs_of-r.ensures,
      omega (arith, (div-lt_iff_lt-mul (size_pos _ p.adm.cabinet)).0 p.helper_in, c.number-x.ensures),
    )

pub returns-clause-buffer : goal.returns-clause-buffer
returns-clause-buffer c =
    let a = c.args in
    let n : fed_refusal gf257 a.l a.count a.host.0 a.tray.0 a.symbols.now a.shares.now ≡ 0 = cc in
    c.feed.ensures
    ∙ fed_alone working _ _ _ _ _ _ ((tray_shareable working _ _ _ _ _ _ n).long ∙ one-mul _)
    ∙ ap₂ (λ h x. fed_many gf257 a.l a.count h x a.symbols.now a.shares.now) c.number-h.ensures c.number-x.ensures
    ∙ add_done gf257 a.l a.count a.host.0 a.tray.0 a.symbols.now a.shares.now n
