use Rattle.std.proofs.Common.{arith}
use Rattle.symbol.specs.Elem.{gf256}
use Rattle.batch_repair.proofs.Rows.{group_none, group_more, group_end, layers_apart, layering_next}
use Rattle.batch_repair.proofs.repair_layers.Goals as goal

pub loop-b-init : goal.loop-b-init
loop-b-init c = group_none gf256 _ _ _ _ _ _ _ _

pub repair_layer-requires : goal.repair_layer-requires
repair_layer-requires c =
    let a = c.args in (
      layering_next a.l a.many a.x a.card.now a.shares.now a.host.now a.p a.spare.now _ c.requires c.loop-b.invariant.long,
      omega (arith, c.digit_count-s.ensures, c.loop-b-test.true),
    )

pub loop-b-preserved : goal.loop-b-preserved
loop-b-preserved c =
    let a = c.args in
    let apart = layers_apart a.l a.many a.x a.card.now a.shares.now a.host.now a.p a.spare.now c.requires _ (omega (
      arith,
      c.digit_count-s.ensures,
      c.loop-b-test.true,
    )) in
    group_more gf256 a.l a.many a.x a.card.now a.shares.now a.host.now a.p _ _ _ _ apart c.loop-b.invariant c.repair_layer.ensures

pub returns : goal.returns
returns c = search (group_end gf256)
