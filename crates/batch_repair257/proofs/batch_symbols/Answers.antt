-- Made by tools/twin.py from crates/batch_repair/proofs/batch_symbols/Answers.antt.
use Rattle.std.proofs.Common.{arith}
use Rattle.symbol257.specs.Elem.{gf257}
use Rattle.batch_repair.proofs.Symbols.{batch_none, batch_left, batch_false, batch_told, batch_looking, shares_in, rows_room, rows_long}
use Rattle.batch_repair257.proofs.batch_symbols.Goals as goal

pub returns-then-many-eq0 : goal.returns-then-many-eq0
returns-then-many-eq0 c = search (batch_none gf257)

pub returns-then-total-first : goal.returns-then-total-first
returns-then-total-first c = search (batch_left gf257)

pub overflow_mul-total : goal.overflow_mul-total
overflow_mul-total c =
    let a = c.args in
    omega (
      arith,
      shares_in gf257 a.l a.many a.x a.shares.now a.host.now a.first a.budget c.requires c.group_count-total.result (omega
          (arith, c.group_count-total.ensures)),
    )

pub overflow_mul-first : goal.overflow_mul-first
overflow_mul-first c =
    let a = c.args in
    omega (
      arith,
      shares_in gf257 a.l a.many a.x a.shares.now a.host.now a.first a.budget c.requires a.first (omega (
        arith,
        c.group_count-total.ensures,
        c.if-total-first.false,
      )),
    )

pub overflow_mul-count : goal.overflow_mul-count
overflow_mul-count c =
    let a = c.args in
    let few = c.smaller-count.ensures in
    omega (
      arith,
      shares_in gf257 a.l a.many a.x a.shares.now a.host.now a.first a.budget c.requires c.smaller-count.result (omega
          (arith, c.group_count-total.ensures, c.if-total-first.false, few)),
    )

pub rows_are_symbols-requires : goal.rows_are_symbols-requires
rows_are_symbols-requires c =
    let a = c.args in (
      rows_room gf257 a.l a.many a.x a.shares.now a.host.now a.first a.budget _ _ (omega (
        arith,
        c.if-total-first.false,
        c.smaller-count.ensures,
      )),
      rows_long gf257 a.l a.many a.x a.shares.now a.host.now a.first a.budget c.requires _
          c.group_count-total.ensures,
    )

pub returns-then-not-rows_are_symbols : goal.returns-then-not-rows_are_symbols
returns-then-not-rows_are_symbols c = search (batch_false gf257)

pub hosts_symbols-requires : goal.hosts_symbols-requires
hosts_symbols-requires c = search (batch_looking gf257)

pub returns : goal.returns
returns c = search (batch_told gf257)
