use Rattle.std.proofs.Common.{◌≡◌, ◌+◌, ◌*◌, ◌≤◌}
use Rattle.kernel.specs.Inner.{grid}
use Rattle.kernel.proofs.gather_grid.Given as goal

abbrev pub invariant-loop-g : goal.invariant-loop-g
invariant-loop-g g l = let n = g.N.FieldNumber in let f = n.field in record {
  gathered : f.coding.elem (n.code l.sum) ≡ f.ops.add (f.coding.elem (n.code l.fn.v)) (grid f (n.codes l.src) l.at l.gap l.n l.far l.g);
  low : n.code l.sum ≤ n.code l.fn.v + l.g * l.n * f.coding.size;
}
