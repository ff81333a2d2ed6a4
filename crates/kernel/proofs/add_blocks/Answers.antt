use Rattle.std.proofs.Common.{arith}
use Rattle.kernel.proofs.Apart.{next_part, part_on, block_told, block_next}
use Rattle.kernel.proofs.add_blocks.Goals as goal

-- what the block of a turn is told
pub add_block-requires : goal.add_block-requires
add_block-requires g c =
    let w = g.met.N.FieldNumber.numbers in
    let a = c.args in
    let p = c.requires in
    (block_told g.N.FieldNumber.field (g.N.FieldNumber.codes a.out.now) (g.N.FieldNumber.codes c.loop-j.out) (g.N.FieldNumber.codes a.src.now) a.to a.len a.from a.gap a.n a.far a.m c.loop-j.j a.width p.0 c.loop-j.invariant.done (next_part c.loop-j.j a.len a.width p.2 c.loop-j.invariant.whole p.1 c.loop-j-test.true), p.1.narrow)

pub overflow_add-j : goal.overflow_add-j
overflow_add-j g c =
    let a = c.args in
    let p = c.requires in
    omega (arith, (next_part c.loop-j.j a.len a.width p.2 c.loop-j.invariant.whole p.1 c.loop-j-test.true))

pub loop-j-preserved : goal.loop-j-preserved
loop-j-preserved g c =
    let a = c.args in
    let p = c.requires in
    record {
      within = (next_part c.loop-j.j a.len a.width p.2 c.loop-j.invariant.whole p.1 c.loop-j-test.true);
      whole = part_on _ _ p.2 c.loop-j.invariant.whole;
      done = block_next g.N.FieldNumber.field _ _ _ _ a.len _ _ _ _ _ _ _ _ c.loop-j.invariant.done c.add_block.ensures;
    }
