use Rattle.std.proofs.Common.{arith}
use Rattle.layout.proofs.Parts.{known_parts, known_layer}
use Rattle.layout.proofs.layer_of.Goals as goal

pub nonzero_div-result : goal.nonzero_div-result
nonzero_div-result c = (known_parts _ _ _ _ c.digit_count-s.ensures c.capped_power-q.ensures _ _ c.requires).q_low

pub nonzero_rem-result : goal.nonzero_rem-result
nonzero_rem-result c = (known_parts _ _ _ _ c.digit_count-s.ensures c.capped_power-q.ensures _ _ c.requires).q_low

pub overflow_add-result-2 : goal.overflow_add-result-2
overflow_add-result-2 c = omega (arith, known_parts _ _ _ _ c.digit_count-s.ensures c.capped_power-q.ensures _ _ c.requires)

pub returns : goal.returns
returns c = known_layer _ _ _ _ c.digit_count-s.ensures c.capped_power-q.ensures _ _ c.requires
