use Rattle.std.proofs.Common.{sym, ◌∙◌}
use Rattle.field.proofs.Numbers.{codes_length}
use Rattle.syndrome.proofs.Whole.{none_listed}
use Rattle.testing.proofs.Blocks.{first_of}
use Rattle.testing.proofs.first_broken.Goals as goal

pub sum_kept-requires : goal.sum_kept-requires
sum_kept-requires g c =
    let a = c.args in
    let p = c.requires in
    (p.0, p.4, sym (codes_length g.met.N.FieldNumber.numbers a.c.now) ∙ p.1.long, none_listed a.l a.none.now p.3)

pub returns : goal.returns
returns g c =
    let a = c.args in
    let p = c.requires in
    first_of g.met.N.FieldNumber.working a.l a.w a.first a.r _ a.none.now _ _ _ p.3 p.2 c.sum_kept.ensures c.first_in.ensures
