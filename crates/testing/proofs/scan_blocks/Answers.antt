use Rattle.std.proofs.Common.{◌/◌, arith, rules}
use Rattle.testing.proofs.Blocks.{sound_none, sound_more, sound_end, first_bad}
use Rattle.testing.proofs.Room.{width_some, block_at, count_all, room_here, whole_word}
use Rattle.testing.proofs.scan_blocks.Goals as goal

pub nonzero_div-q-end : goal.nonzero_div-q-end
nonzero_div-q-end g c = search width_some

pub loop-q-init : goal.loop-q-init
loop-q-init g c = sound_none g.met.N.FieldNumber.working _ _ _

pub first_broken-p-requires : goal.first_broken-p-requires
first_broken-p-requires g c = (search block_at, search whole_word, search rules, search rules, search room_here)

pub returns-then-p-w : goal.returns-then-p-w
returns-then-p-w g c =
    let a = c.args in
    let w = c.block_width-w in
    let p = c.first_broken-p in
    let q = c.loop-q in
    let inside = (block_at a.l a.e w.result a.total _ c.requires.0 c.requires.1 w.ensures q.q c.loop-q-test.true).inside in
    rw c.of.ensures
    (first_bad g.met.N.FieldNumber.working a.l _ w.result q.q p.result.column p.result.check q.invariant p.ensures (omega arith) inside)

pub loop-q-preserved : goal.loop-q-preserved
loop-q-preserved g c = search (sound_more g.met.N.FieldNumber.working)

pub returns : goal.returns
returns g c =
    let a = c.args in
    let w = c.block_width-w in
    let q = c.loop-q in
    let all = count_all a.l a.e w.result a.total _ c.requires.0 c.requires.1 w.ensures in
    sound_end g.met.N.FieldNumber.working a.l _ w.result q.q (a.total / w.result) q.invariant (omega arith) (omega arith) all
