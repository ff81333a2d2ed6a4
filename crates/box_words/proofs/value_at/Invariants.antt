use Rattle.std.proofs.Common.{◌≡◌}
use Rattle.algebra.specs.Sum.{pow}
use Rattle.nibble.specs.Elem.{elem, ops}
use Rattle.box_words.proofs.SumLoops.{Sums, term}
use Rattle.box_words.proofs.value_at.Given as goal

-- the terms before are added up, and the power is the next one
abbrev pub invariant-loop-coefficient : goal.invariant-loop-coefficient
invariant-loop-coefficient l = record {
  sums : Sums (term l.d l.q) l.coefficient-index l.sum;
  power_is : elem l.power ≡ pow ops (elem l.q) l.coefficient-index;
}
