use Rattle.std.proofs.Common.{◌≡◌, ℕ, ◌+◌, ◌*◌, ◌<◌, get_or}
use Rattle.algebra.specs.Plain.{reduced}
use Rattle.testing.proofs.first_in.Given as goal

-- the columns before j hold zeros alone, and nothing is found
abbrev pub invariant-layers : goal.invariant-layers
invariant-layers g l = let n = g.N.FieldNumber in record {
  zeros : (i : ℕ) → i < l.j → (v : ℕ) → v < l.r → reduced n.field (get_or (n.codes l.sums) (v * l.w + i) 0) ≡ 0;
  none : l.found.column ≡ l.w;
}

-- so do the rows above t of column j
abbrev pub invariant-loop-t : goal.invariant-loop-t
invariant-loop-t g l = let n = g.N.FieldNumber in record {
  zeros : (v : ℕ) → v < l.t → reduced n.field (get_or (n.codes l.sums) (v * l.w + l.j) 0) ≡ 0;
  none : l.found.column ≡ l.w;
}
