use Rattle.std.proofs.Common.{◌≡◌, true}
use Rattle.lists.specs.Lists.{all_below}
use Rattle.layout.specs.Layout.{trays}
use Rattle.repair.proofs.Refusals.{stop_3, stop_4, pass_4}
use Rattle.repair.proofs.number_refusal.Goals as goal

pub returns-then-not-all_below : goal.returns-then-not-all_below
returns-then-not-all_below c = stop_3 _ _ _ _ _ _ _ _ (λ p q r y. cc)

pub returns-then-not-one_rack : goal.returns-then-not-one_rack
returns-then-not-one_rack c = stop_3 _ _ _ _ _ _ _ _ (λ p q r y. cc)

pub returns-then-not-all_below-2 : goal.returns-then-not-all_below-2
returns-then-not-all_below-2 c = stop_3 _ _ _ _ _ _ _ _ (λ p q r y. cc)

pub piece_symbols-requires : goal.piece_symbols-requires
piece_symbols-requires c =
    let s = c.requires in
    let p : all_below c.args.lost.now (trays c.args.l) ≡ true = cc in
    (s.0, p, s.1, s.2)

pub returns-then-not-piece_symbols : goal.returns-then-not-piece_symbols
returns-then-not-piece_symbols c = stop_3 _ _ _ _ _ _ _ _ (λ p q r y. cc)

pub returns-then-not-strictly_rising : goal.returns-then-not-strictly_rising
returns-then-not-strictly_rising c = stop_4 _ _ _ _ _ _ _ _ (cc) (cc) (cc) (cc) (λ p q. cc)

pub returns-then-not-strictly_rising-2 : goal.returns-then-not-strictly_rising-2
returns-then-not-strictly_rising-2 c = stop_4 _ _ _ _ _ _ _ _ (cc) (cc) (cc) (cc) (λ p q. cc)

pub returns : goal.returns
returns c = pass_4 _ _ _ _ _ _ _ _ (cc) (cc) (cc) (cc) (cc) (cc)
