use Rattle.std.proofs.Common.{◌≡◌, ◌+◌, ◌*◌, ◌≤◌}
use Rattle.kernel.specs.Inner.{apart}
use Rattle.kernel.proofs.gather_apart.Given as goal

abbrev pub invariant-loop-b : goal.invariant-loop-b
invariant-loop-b g l = let n = g.N.FieldNumber in let f = n.field in record {
  gathered : f.coding.elem (n.code l.sum) ≡ f.ops.add (f.coding.elem (n.code l.fn.v)) (apart f (n.codes l.src) l.at l.gap l.b);
  low : n.code l.sum ≤ n.code l.fn.v + l.b * f.coding.size;
}
