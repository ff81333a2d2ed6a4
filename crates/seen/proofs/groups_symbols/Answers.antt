use Rattle.std.proofs.Common.{arith, rules}
use Rattle.seen.proofs.Groups.{head_false, rest_told, whole_false}
use Rattle.seen.proofs.Places.{parts, places_less}
use Rattle.seen.proofs.groups_symbols.Goals as goal

pub overflow_sub-last-2 : goal.overflow_sub-last-2
overflow_sub-last-2 g c = (parts _ _ _ _ _ _ c.requires (omega arith)).runs_ordered

pub returns-then-not-part_symbols : goal.returns-then-not-part_symbols
returns-then-not-part_symbols g c =
    let p = c.requires in
    head_false _ _ _ _ _ _ _ p.unit_pos p.digits_pos (omega arith) _ c.part_symbols-2.ensures (search rules)

pub returns-then-not-are_symbols : goal.returns-then-not-are_symbols
returns-then-not-are_symbols g c =
    let p = c.requires in
    whole_false _ _ _ _ _ _ _ p.unit_pos p.digits_pos (omega arith) _ c.are_symbols.ensures (search rules)

pub part_symbols-requires-3 : goal.part_symbols-requires-3
part_symbols-requires-3 g c =
    let k = parts _ _ _ _ _ _ c.requires (omega arith) in
    (places_less _ _ _ _ _ _ c.requires (omega arith), k.rest_small)

pub returns : goal.returns
returns g c =
    let p = c.requires in
    rest_told _ _ _ _ _ _ _ p.unit_pos p.digits_pos (omega arith) _ _ _ c.part_symbols-2.ensures (search rules)
    c.are_symbols.ensures (search rules) c.part_symbols-3.ensures
