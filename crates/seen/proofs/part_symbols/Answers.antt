use Rattle.std.proofs.Common.{arith}
use Rattle.seen.proofs.Groups.{groups_none, part_false, part_true}
use Rattle.seen.proofs.Places.{run_in}
use Rattle.seen.proofs.part_symbols.Goals as goal

pub returns-then-w-eq0 : goal.returns-then-w-eq0
returns-then-w-eq0 g c = search groups_none

pub overflow_mul-block-in-loop-a : goal.overflow_mul-block-in-loop-a
overflow_mul-block-in-loop-a g c =
    let p = c.requires in
    omega (arith, run_in _ _ _ _ _ _ p.0 p.1 c.if-w-eq0.false c.loop-a.a (omega arith))

pub overflow_add-at : goal.overflow_add-at
overflow_add-at g c =
    let p = c.requires in
    omega (arith, run_in _ _ _ _ _ _ p.0 p.1 c.if-w-eq0.false c.loop-a.a (omega arith))

pub overflow_add-at-in-loop-a : goal.overflow_add-at-in-loop-a
overflow_add-at-in-loop-a g c =
    let p = c.requires in
    omega (arith, run_in _ _ _ _ _ _ p.0 p.1 c.if-w-eq0.false c.loop-a.a (omega arith))

pub are_symbols-requires : goal.are_symbols-requires
are_symbols-requires g c =
    let p = c.requires in
    run_in _ _ _ _ _ _ p.0 p.1 c.if-w-eq0.false c.loop-a.a (omega arith)

pub returns-then-not-are_symbols : goal.returns-then-not-are_symbols
returns-then-not-are_symbols g c = search part_false

pub returns : goal.returns
returns g c = search part_true
