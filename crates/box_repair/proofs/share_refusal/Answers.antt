use Rattle.std.proofs.Common.{arith, sym}
use Rattle.box_repair.proofs.Grounds.{share_2, share_host, share_helper, share_values, share_6, share_0}
use Rattle.box_repair.proofs.share_refusal.Goals as goal

pub returns-then-vs-ne-SIZE : goal.returns-then-vs-ne-SIZE
returns-then-vs-ne-SIZE c = share_2 _ _ _ _ (λ p q. c.if-vs-ne-SIZE.true p)

pub returns-then-room-ne1 : goal.returns-then-room-ne1
returns-then-room-ne1 c = share_2 _ _ _ _ (λ p q. c.if-room-ne1.true q)

pub returns-then-host-ge-RACKS : goal.returns-then-host-ge-RACKS
returns-then-host-ge-RACKS c = share_host _ _ _ _ c.if-vs-ne-SIZE.false c.if-room-ne1.false (omega arith)

pub returns-then-helper-ge-RACKS : goal.returns-then-helper-ge-RACKS
returns-then-helper-ge-RACKS c = share_helper _ _ _ _ c.if-vs-ne-SIZE.false c.if-room-ne1.false (omega arith) (omega arith)

pub returns-then-not-all_symbols : goal.returns-then-not-all_symbols
returns-then-not-all_symbols c =
    share_values _ _ _ _ c.if-vs-ne-SIZE.false c.if-room-ne1.false (omega arith) (omega arith) (sym c.if-not-all_symbols.ensures)

pub returns-then-host-helper : goal.returns-then-host-helper
returns-then-host-helper c =
    share_6 _ _ _ _ c.if-vs-ne-SIZE.false c.if-room-ne1.false (omega arith) (omega arith) (sym c.if-not-all_symbols.ensures)
    c.if-host-helper.true

pub returns : goal.returns
returns c =
    share_0 _ _ _ _ c.if-vs-ne-SIZE.false c.if-room-ne1.false (omega arith) (omega arith) (sym c.if-not-all_symbols.ensures)
    c.if-host-helper.false
