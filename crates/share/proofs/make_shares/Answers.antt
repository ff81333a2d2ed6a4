use Rattle.std.proofs.Common.{arith, sym, ap, ◌∙◌, ◌≡◌, length, true}
use Rattle.symbol.specs.Elem.{gf256}
use Rattle.symbol.proofs.Working.{working}
use Rattle.layout.specs.Layout.{admissible}
use Rattle.share.specs.Many.{shares_refusal, shares_of}
use Rattle.layout.proofs.Facts.{admissible_facts}
use Rattle.share.proofs.Refusals.{symbols_range, rack_grounds_lem, rack_ground_1, rack_shareable, buffer_refused, buffer_done}
use Rattle.share.proofs.make_shares.Goals as goal

pub returns-then-not-admitted : goal.returns-then-not-admitted
returns-then-not-admitted c =
    let a = c.args in
    let g = rack_ground_1 working a.l a.count a.host.0 a.helper.0 a.rack.now (length a.out.now) (cc) in
    record { answer = g; buffer = buffer_refused gf256 a.l a.count a.host.0 a.helper.0 a.rack.now a.out.now (λ e. omega (arith, g, e)) }

pub counts_of-n-requires : goal.counts_of-n-requires
counts_of-n-requires c =
    let h : admissible gf256.order c.args.l ≡ true = cc in
    (admissible_facts gf256.order _ h).cabinet

pub refusal-ground-requires : goal.refusal-ground-requires
refusal-ground-requires c = ((cc), c.counts_of-n.ensures)

pub returns-then-ground-ne0 : goal.returns-then-ground-ne0
returns-then-ground-ne0 c =
    let a = c.args in
    let e : c.refusal-ground.result ≡ shares_refusal gf256 a.l a.count a.host.0 a.helper.0 a.rack.now (length a.out.now) =
    cc (rack_grounds_lem working a.l a.count a.host.0 a.helper.0 a.rack.now (length a.out.now)) in
    record { answer = e; buffer = buffer_refused gf256 a.l a.count a.host.0 a.helper.0 a.rack.now a.out.now (λ z. c.if-ground-ne0.true (e ∙ z)) }

pub gather-requires : goal.gather-requires
gather-requires c =
    let a = c.args in
    let z : shares_refusal gf256 a.l a.count a.host.0 a.helper.0 a.rack.now (length a.out.now) ≡ 0 =
    cc (rack_grounds_lem working a.l a.count a.host.0 a.helper.0 a.rack.now (length a.out.now)) in
    let p = rack_shareable working _ _ _ _ _ _ z in (
      record {
        adm = p.adm;
        long = p.long;
        room = p.room_long;
        host_in = rw c.number-h.ensures p.host_in;
        helper_in = rw c.number-i.ensures p.helper_in;
        some = p.some;
        few = p.few;
        given = symbols_range gf256 _ p.symbols_so;
      },
      c.counts_of-n.ensures,
    )

pub returns : goal.returns
returns c =
    let a = c.args in
    let z : shares_refusal gf256 a.l a.count a.host.0 a.helper.0 a.rack.now (length a.out.now) ≡ 0 =
    cc (rack_grounds_lem working a.l a.count a.host.0 a.helper.0 a.rack.now (length a.out.now)) in
    record {
      answer = sym z;
      buffer = c.gather.ensures ∙ ap (λ h. shares_of gf256 a.l a.count h a.rack.now) c.number-h.ensures
          ∙ buffer_done gf256 a.l a.count a.host.0 a.helper.0 a.rack.now a.out.now z;
    }
