use Rattle.kernel.specs.Inner.{Run, added_product}
use Rattle.kernel.proofs.add_product.Given as goal

abbrev pub invariant-loop-j : goal.invariant-loop-j
invariant-loop-j g l = let n = g.N.FieldNumber in Run (added_product n.field (n.codes l.fn.out) l.to (n.codes l.src) l.from (n.codes l.by) l.at) (n.codes l.fn.out) (n.codes l.out) l.to l.j
