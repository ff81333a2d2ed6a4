use Rattle.kernel.specs.Inner.{Run, shifted, copied}
use Rattle.kernel.proofs.shift.Given as goal

abbrev pub invariant-loop-j : goal.invariant-loop-j
invariant-loop-j g l = let n = g.N.FieldNumber in record {
  written : Run (shifted n.field (n.codes l.fn.out) l.to (n.codes l.fn.carry) (n.codes l.by) l.at) (n.codes l.fn.out) (n.codes l.out) l.to l.j;
  carried : Run (copied (n.codes l.fn.out) l.to) (n.codes l.fn.carry) (n.codes l.carry) 0 l.j;
}
