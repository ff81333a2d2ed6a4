use Rattle.std.proofs.Common.{arith, ap, ◌≡◌, ◌*◌, ◌+◌}
use Rattle.std.proofs.Common.{refl}
use Rattle.symbol.proofs.Working.{working}
use Rattle.symbol.specs.Elem.{gf256}
use Rattle.layout.proofs.Facts.{bounds}
use Rattle.layout.specs.Layout.{layers}
use Rattle.share.proofs.Parts.{feeding_one, rested_none, rested_more, rested_end}
use Rattle.share.proofs.add_rest.Goals as goal

pub loop-k-init : goal.loop-k-init
loop-k-init c = rested_none working _ _ _ _ _ _ _ c.requires.0.held

pub cell-requires : goal.cell-requires
cell-requires c =
    let p = c.requires.0 in
    let a = p.adm.cabinet in
    let b = bounds _ a in
    let e = c.layer_count-total.ensures in
    (omega (arith, a.layers_high), omega (arith, p.at_once), omega (arith, b.layers_low))

pub add_later-requires : goal.add_later-requires
add_later-requires c =
    let a = c.args in
    let e : c.cell.result ≡ c.loop-k.k * layers a.l = omega (arith, c.cell.ensures, ap (λ n. c.loop-k.k * n) c.layer_count-total.ensures) in
    let d = c.loop-k.invariant in (
      feeding_one gf256 a.l a.count a.h a.symbols.now a.at a.m a.shares.now c.requires.0 c.loop-k.k _ _ (omega arith) (ap (λ n. a.at + n) e) d.same d.range,
      c.requires.1,
    )

pub loop-k-preserved : goal.loop-k-preserved
loop-k-preserved c =
    let a = c.args in
    let e : c.cell.result ≡ c.loop-k.k * layers a.l = omega (arith, c.cell.ensures, ap (λ n. c.loop-k.k * n) c.layer_count-total.ensures) in
    rested_more working a.l a.count a.h a.x a.symbols.now a.at a.shares.now c.loop-k.k _ _ c.loop-k.shares _ c.requires.0.room (ap (λ n. a.at + n) e) refl
    c.loop-k.invariant c.add_later.ensures

pub returns : goal.returns
returns c = search (rested_end working)
