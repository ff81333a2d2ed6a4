use Rattle.std.proofs.Common.{arith, sym, refl}
use Rattle.symbol.proofs.Working.{working}
use Rattle.restore.proofs.Says.{says_true, says_false}
use Rattle.locating.proofs.Located.{none_more, first_found, first_none}
use Rattle.locating.proofs.first_located.Goals as goal

pub is_located-requires : goal.is_located-requires
is_located-requires c = let p = c.requires in (p.0, rw (sym p.0.many) (omega arith), p.1, p.2, omega (arith, p.3))

pub returns-then-is_located : goal.returns-then-is_located
returns-then-is_located c =
    let a = c.args in
    first_found working a.l a.h a.helpers.now a.zeroth.now a.first.now c.requires.0 _ (omega arith)
    (says_true c.is_located.result c.if-is_located.true c.is_located.ensures)

pub loop-k-preserved : goal.loop-k-preserved
loop-k-preserved c =
    let a = c.args in
    none_more working a.l a.h a.helpers.now a.zeroth.now a.first.now c.requires.0 _ c.loop-k.invariant
    (says_false c.is_located.result c.if-is_located.false c.is_located.ensures)

pub returns : goal.returns
returns c =
    let a = c.args in
    first_none working a.l a.h a.helpers.now a.zeroth.now a.first.now c.requires.0 _ _ (omega arith) refl c.loop-k.invariant
