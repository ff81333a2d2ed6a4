use Rattle.std.proofs.Common.{arith, sym, ap, ◌∙◌, ◌*◌}
use Rattle.symbol.specs.Elem.{gf256}
use Rattle.layout.proofs.Facts.{admissible_facts}
use Rattle.share.proofs.Refusals.{ground_0, ground_2, ground_3, ground_3_symbols, ground_6, ground_12}
use Rattle.share.proofs.refusal.Goals as goal

pub returns-then-given-lent : goal.returns-then-given-lent
returns-then-given-lent c =
    ground_2 _ _ _ _ _ _ _ _ _ c.requires.0 (λ g r. c.if-given-lent.true (g ∙ ap (λ n. c.args.lent * n) (sym c.requires.1.layers_are)))

pub returns-then-room-count : goal.returns-then-room-count
returns-then-room-count c =
    ground_2 _ _ _ _ _ _ _ _ _ c.requires.0 (λ g r. c.if-room-count.true (r ∙ ap (λ n. c.args.count * n) (sym c.requires.1.groups_are)))

pub returns-then-b-host : goal.returns-then-b-host
returns-then-b-host c = ground_3 _ _ _ _ _ _ _ _ _ c.requires.0 (cc) (cc) (λ p q. omega arith)

pub returns-then-b-helper : goal.returns-then-b-helper
returns-then-b-helper c = ground_3 _ _ _ _ _ _ _ _ _ c.requires.0 (cc) (cc) (λ p q. omega arith)

pub returns-then-not-looked : goal.returns-then-not-looked
returns-then-not-looked c =
    ground_3_symbols _ _ _ _ _ _ _ _ _ c.requires.0 (cc) (cc) (omega arith) (omega arith) (cc)

pub lost_count_fits-requires : goal.lost_count_fits-requires
lost_count_fits-requires c = (admissible_facts gf256.order _ c.requires.0).cabinet

pub returns-then-not-lost_count_fits : goal.returns-then-not-lost_count_fits
returns-then-not-lost_count_fits c =
    ground_12 _ _ _ _ _ _ _ _ _ c.requires.0 (cc) (cc) (omega arith) (omega arith) (cc) (cc)

pub returns-then-host-helper : goal.returns-then-host-helper
returns-then-host-helper c =
    ground_6 _ _ _ _ _ _ _ _ _ c.requires.0 (cc) (cc) (omega arith) (omega arith) (cc) (cc) c.if-host-helper.true

pub returns : goal.returns
returns c =
    ground_0 _ _ _ _ _ _ _ _ _ c.requires.0 (cc) (cc) (omega arith) (omega arith) (cc) (cc) c.if-host-helper.false
