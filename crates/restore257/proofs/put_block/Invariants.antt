-- Made by tools/twin.py from crates/restore/proofs/put_block/Invariants.antt.
use Rattle.restore.specs.Inner.{PutBlock}
use Rattle.restore257.proofs.put_block.Given as goal

-- the first k rows are written
abbrev pub invariant-loop-k : goal.invariant-loop-k
invariant-loop-k l = PutBlock l.total l.w l.first l.es l.found l.fn.c l.c l.k
