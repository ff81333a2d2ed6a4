use Rattle.std.proofs.Common.{ℕ, ◌≡◌, ◌+◌, ◌*◌, ◌/◌, ◌<◌, ◌≤◌, Bool, true, [], ◌∷◌, refl, sym, arith}
use Rattle.std.proofs.Math.Nat.{div-add-mod'}
use Rattle.symbol.specs.Elem.{gf256}
use Rattle.lists.specs.Lists.{all}
use Rattle.layout.specs.Layout.{layers}
use Rattle.layout.proofs.Facts.{bounds}
use Rattle.batch_parts.specs.Parts.{part}
use Rattle.seen.specs.Seen.{sound_symbols}
use Rattle.seen.specs.Inner.{tray_symbols}
use Rattle.batch_repair.proofs.Symbols.{host_in, tray_is, places_so, total_in, unit_below, groups_below, start_in, hosts_false}
use Rattle.batch_repair.proofs.Symbols.{hosts_true}
use Rattle.batch_repair.proofs.hosts_symbols.Goals as goal
use Rattle.batch_repair.proofs.hosts_symbols.Goals.{After-block_width}

sound : (c : After-block_width) (i : ℕ) (r : Bool) →
    let a = c.args in
    i < a.l.size →
    r ≡ tray_symbols gf256 (a.x ∷ []) (a.x / a.l.size * a.l.size + i) a.host.now (i * (c.layer_count.result * a.many))
    c.digit_count-s.result (c.block_width.result * a.many) (a.first * a.many) (a.count * a.many) →
    r ≡ all (λ q. sound_symbols gf256 a.l (a.x ∷ []) (a.x / a.l.size) (part a.many q a.host.now) a.first a.count i) a.many
sound c i r h e =
    let a = c.args in
    tray_is gf256 a.l a.many a.x a.host.now a.first a.count c.requires i _ _ _ _ _ r h
    c.layer_count.ensures c.digit_count-s.ensures c.block_width.ensures refl refl e

pub nonzero_div-h : goal.nonzero_div-h
nonzero_div-h c = (bounds _ c.requires.adm).size_low

pub overflow_mul-total : goal.overflow_mul-total
overflow_mul-total c =
    let a = c.args in
    let e : c.layer_count.result ≤ layers a.l = omega (arith, c.layer_count.ensures) in
    omega (arith, total_in gf256 a.l a.many a.x a.host.now a.first a.count c.requires _ e)

pub block_width-requires : goal.block_width-requires
block_width-requires c =
    let a = c.args in
    (c.requires.adm, omega (arith, host_in gf256 a.l a.many a.x a.host.now a.first a.count c.requires))

pub overflow_mul-unit : goal.overflow_mul-unit
overflow_mul-unit c =
    let a = c.args in
    omega (
      arith,
      total_in gf256 a.l a.many a.x a.host.now a.first a.count c.requires _ (unit_below gf256 a.l a.many a.x a.host.now
          a.first a.count c.requires _ c.block_width.ensures),
    )

pub overflow_mul-h : goal.overflow_mul-h
overflow_mul-h c =
    let a = c.args in
    let p = c.requires in
    omega (arith, div-add-mod' a.x a.l.size, p.lost_in, p.adm.trays_high)

pub overflow_add-h : goal.overflow_add-h
overflow_add-h c =
    let a = c.args in
    let p = c.requires in
    omega (arith, div-add-mod' a.x a.l.size, p.lost_in, p.adm.trays_high, (bounds _ p.adm).size_high, c.loop-g-test.true)

pub overflow_mul-g : goal.overflow_mul-g
overflow_mul-g c =
    let a = c.args in
    omega (arith, start_in gf256 a.l a.many a.x a.host.now a.first a.count c.requires _ _ c.loop-g-test.true c.layer_count.ensures)

pub overflow_mul-first : goal.overflow_mul-first
overflow_mul-first c =
    let a = c.args in
    omega (
      arith,
      total_in gf256 a.l a.many a.x a.host.now a.first a.count c.requires _ (groups_below gf256 a.l a.many a.x a.host.now
          a.first a.count c.requires a.first (omega arith)),
    )

pub overflow_mul-count : goal.overflow_mul-count
overflow_mul-count c =
    let a = c.args in
    omega (
      arith,
      total_in gf256 a.l a.many a.x a.host.now a.first a.count c.requires _ (groups_below gf256 a.l a.many a.x a.host.now
          a.first a.count c.requires a.count (omega arith)),
    )

pub tray_symbols-requires : goal.tray_symbols-requires
tray_symbols-requires c =
    let a = c.args in
    places_so gf256 a.l a.many a.x a.host.now a.first a.count c.requires _ _ _ _ _ _ c.loop-g-test.true
    c.layer_count.ensures c.digit_count-s.ensures c.block_width.ensures refl refl

pub returns-then-not-tray_symbols : goal.returns-then-not-tray_symbols
returns-then-not-tray_symbols c =
    hosts_false gf256 _ _ _ _ _ _ c.requires _ _ c.loop-g-test.true
    (sound (goal.at.returns-then-not-tray_symbols c).After-block_width _ _ c.loop-g-test.true c.tray_symbols.ensures)
    c.if-not-tray_symbols.true

pub returns : goal.returns
returns c =
    hosts_true gf256 _ _ _ _ _ _ c.requires _ (omega arith)
    (λ i h. sym (sound (goal.at.returns c).After-block_width i true (omega arith) (sym (c.loop-g.invariant i h))))
