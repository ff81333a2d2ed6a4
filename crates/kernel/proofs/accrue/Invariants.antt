use Rattle.kernel.specs.Inner.{Standing, accrued, stepped}
use Rattle.kernel.proofs.accrue.Given as goal

abbrev pub invariant-loop-j : goal.invariant-loop-j
invariant-loop-j g l = let n = g.N.FieldNumber in record {
  added : Standing n.field (accrued n.field (n.codes l.fn.out) l.to (n.codes l.fn.cur) (n.codes l.by)) (n.codes l.fn.out) (n.codes l.out) l.to l.j;
  stepped : Standing n.field (stepped n.field (n.codes l.fn.cur) (n.codes l.by)) (n.codes l.fn.cur) (n.codes l.cur) 0 l.j;
}
