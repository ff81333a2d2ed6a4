use Rattle.std.proofs.Common.{arith}
use Rattle.layout.proofs.Parts.{known_groups, known_group}
use Rattle.layout.proofs.group_of.Goals as goal

pub nonzero_rem-result : goal.nonzero_rem-result
nonzero_rem-result c = (known_groups _ _ _ _ c.digit_count-s.ensures c.capped_power-q.ensures _ c.requires).q_low

pub overflow_mul-result : goal.overflow_mul-result
overflow_mul-result c = omega (arith, known_groups _ _ _ _ c.digit_count-s.ensures c.capped_power-q.ensures _ c.requires)

pub nonzero_div-result : goal.nonzero_div-result
nonzero_div-result c = (known_groups _ _ _ _ c.digit_count-s.ensures c.capped_power-q.ensures _ c.requires).above_low

pub returns : goal.returns
returns c = known_group _ _ _ _ c.digit_count-s.ensures c.capped_power-q.ensures _ c.requires
