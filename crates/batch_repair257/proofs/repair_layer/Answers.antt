-- Made by tools/twin.py from crates/batch_repair/proofs/repair_layer/Answers.antt.
use Rattle.std.proofs.Common.{◌*◌, ap, refl, arith}
use Rattle.symbol257.proofs.Working.{working}
use Rattle.lists.proofs.Numbers.{mul_below}
use Rattle.layout.specs.Layout.{tray_limit}
use Rattle.layout.proofs.Numbers.{digits_small}
use Rattle.layout.proofs.Facts.{bounds}
use Rattle.batch_repair.proofs.Rows.{host_in, groups_in, total_in, start_in, layer_in, layer_room, adding, lessening, layer_repaired}
use Rattle.batch_repair257.proofs.repair_layer.Goals as goal

pub overflow_mul-groups : goal.overflow_mul-groups
overflow_mul-groups c =
    let a = c.args in
    omega (arith, groups_in a.l a.many a.x a.card.now a.shares.now a.host.now a.p a.spare.now c.requires.0 _ c.group_count.ensures)

pub overflow_mul-total : goal.overflow_mul-total
overflow_mul-total c =
    let a = c.args in
    omega (arith, total_in a.l a.many a.x a.card.now a.shares.now a.host.now a.p a.spare.now c.requires.0 _ c.layer_count.ensures)

pub nonzero_div-x : goal.nonzero_div-x
nonzero_div-x c = (bounds _ c.requires.0.wide.adm).size_low

pub layer_of-requires : goal.layer_of-requires
layer_of-requires c =
    let a = c.args in
    let p = c.requires in
    record {
      adm = p.0.wide.adm;
      host_in = host_in a.l a.many a.x a.card.now a.shares.now a.host.now a.p a.spare.now p.0;
      group_in =
          p.0.group_in;
      digit_in = p.1;
    }

pub overflow_mul-to : goal.overflow_mul-to
overflow_mul-to c =
    let a = c.args in
    omega (arith, layer_in a.l a.many a.x a.card.now a.shares.now a.host.now a.p a.spare.now c.requires.0 _ c.layer_of.ensures.1)

pub fill-requires : goal.fill-requires
fill-requires c =
    let a = c.args in
    layer_room a.l a.many a.x a.card.now a.shares.now a.host.now a.p a.spare.now c.requires.0 _ c.layer_of.ensures.1 a.spare.now refl

pub overflow_mul-b : goal.overflow_mul-b
overflow_mul-b c =
    let p = c.requires in
    let b = bounds _ p.0.wide.adm in
    record {
      fits = mul_below tray_limit tray_limit (omega (arith, digits_small _ p.0.wide.adm, p.1)) (omega (
        arith,
        p.0.wide.adm.helpers_high,
      )) tt;
    }

pub overflow_mul-p : goal.overflow_mul-p
overflow_mul-p c =
    let a = c.args in
    omega (arith, start_in a.l a.many a.x a.card.now a.shares.now a.host.now a.p a.spare.now c.requires.0)

pub add_rows-requires : goal.add_rows-requires
add_rows-requires c =
    let a = c.args in
    adding a.l a.many a.x a.card.now a.shares.now a.host.now a.p a.spare.now c.requires.0 _ c.layer_of.ensures.1 a.b _ _ _ _
    c.requires.1 (ap (λ n. n * a.many) c.group_count.ensures) refl refl c.fill.ensures

pub nonzero_rem-x : goal.nonzero_rem-x
nonzero_rem-x c = (bounds _ c.requires.0.wide.adm).size_low

pub subtract_rack-requires : goal.subtract_rack-requires
subtract_rack-requires c =
    let a = c.args in
    lessening a.l a.many a.x a.card.now a.shares.now a.host.now a.p a.spare.now c.requires.0 _ c.layer_of.ensures.1 working a.b _ _ _ _ _
    c.layer_of.ensures.0 (ap (λ n. n * a.many) c.group_count.ensures) refl refl c.fill.ensures c.add_rows.ensures _
    (ap (λ n. n * a.many) c.layer_count.ensures)

pub returns : goal.returns
returns c =
    let a = c.args in
    layer_repaired a.l a.many a.x a.card.now a.shares.now a.host.now a.p a.spare.now c.requires.0 _ c.layer_of.ensures.1 working a.b _
    _ _ _ _
    c.layer_of.ensures.0 (ap (λ n. n * a.many) c.group_count.ensures) refl refl c.fill.ensures c.add_rows.ensures _ _
    (ap (λ n. n * a.many) c.layer_count.ensures) c.subtract_rack.ensures
