use Rattle.std.proofs.Common.{arith}
use Rattle.kernel.proofs.Periods.{repeated_one, repeated_more, repeat_room, repeat_before}
use Rattle.kernel.proofs.extend.Goals as goal

pub loop-c-init : goal.loop-c-init
loop-c-init g c = record { some = omega arith; within = omega arith; done = repeated_one _ _ }

pub repeat-requires : goal.repeat-requires
repeat-requires g c =
    let a = c.args in (
      repeat_before a.period c.loop-c.c c.smaller-m.result a.count c.smaller-m.ensures,
      repeat_room a.period c.loop-c.c c.smaller-m.result a.count a.row.now c.loop-c.row c.requires.0 c.loop-c.auto.row c.smaller-m.ensures c.loop-c-test.true,
    )

pub loop-c-preserved : goal.loop-c-preserved
loop-c-preserved g c = record {
  some = omega arith;
  within = omega arith;
  done = repeated_more _ _ _ c.args.count _ _ _ c.smaller-m.ensures c.loop-c.invariant.done c.repeat.ensures;
}
