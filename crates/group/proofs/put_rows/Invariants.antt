use Rattle.group.specs.Inner.{PutRows}
use Rattle.group.proofs.put_rows.Given as goal

abbrev pub invariant-loop-i : goal.invariant-loop-i
invariant-loop-i l = PutRows l.total l.w l.start l.run l.stride l.found l.initial.spare l.spare l.i
