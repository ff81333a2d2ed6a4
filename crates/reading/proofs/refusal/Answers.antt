use Rattle.std.proofs.Common.{◌≡◌, true}
use Rattle.symbol.specs.Elem.{gf256}
use Rattle.layout.specs.Layout.{Cabinet}
use Rattle.reading.specs.Inner.{in_range}
use Rattle.reading.proofs.Ranges.{range_facts}
use Rattle.reading.proofs.Grounds.{cabinet_so, ground_1, ground_2_codeword, ground_2_spare, ground_3, ground_13, ground_0}
use Rattle.reading.proofs.refusal.Goals as goal

pub returns-then-not-admitted_with : goal.returns-then-not-admitted_with
returns-then-not-admitted_with c = search ground_1

pub layer_count-total-requires : goal.layer_count-total-requires
layer_count-total-requires c = search (cabinet_so gf256.order)

pub tray_count-requires : goal.tray_count-requires
tray_count-requires c = search (cabinet_so gf256.order)

pub returns-then-codeword-tray_count : goal.returns-then-codeword-tray_count
returns-then-codeword-tray_count c = search ground_2_codeword

pub returns-then-spare-total : goal.returns-then-spare-total
returns-then-spare-total c = search ground_2_spare

pub in_range-requires : goal.in_range-requires
in_range-requires c = search (cabinet_so gf256.order)

pub returns-then-not-in_range : goal.returns-then-not-in_range
returns-then-not-in_range c = search ground_3

pub is_available-requires : goal.is_available-requires
is_available-requires c =
    let a = c.args in
    let k : Cabinet a.l = search (cabinet_so gf256.order) in
    let r : in_range a.l a.lost a.done a.tray a.first a.end ≡ true = cc in
    range_facts _ _ _ _ _ _ k r

pub returns-then-not-is_available : goal.returns-then-not-is_available
returns-then-not-is_available c = search ground_13

pub returns : goal.returns
returns c = search ground_0
