-- `by_halving` meets its contract; the goals that are not here are found.
-- Assumes nothing.
use Rattle.std.proofs.Common.{ap, ◌∙◌, ◌+◌, ◌*◌, ◌/◌, ◌^◌, min}
use lib.Dec.{lit<}
use Rattle.lists.proofs.Powers.{cap_square, cap_odd, first_power, half_even, half_odd}
use Rattle.layout.specs.Layout.{layer_limit}
use Rattle.layout.proofs.power.+by_halving.Goals as goal

pub returns-then-e-eq1 : goal.returns-then-e-eq1
returns-then-e-eq1 t c = c.capped.ensures ∙ ap (λ x. min x (layer_limit + 1)) (first_power c.args.base c.args.e c.if-e-eq1.true)

pub returns-then-e-eq0-2 : goal.returns-then-e-eq0-2
returns-then-e-eq0-2 t c =
    let a = c.args in
    c.capped-then-e-eq0-2.ensures ∙ ap (λ x. min (x * x) (layer_limit + 1)) c.by_halving-root.ensures ∙ cap_square (layer_limit + 1) (lit< tt) (a.base ^ (a.e / 2))
    ∙ ap (λ x. min x (layer_limit + 1)) (half_even a.base a.e c.if-e-eq0-2.true)

pub returns : goal.returns
returns t c =
    let a = c.args in
    c.capped-2.ensures ∙ ap (λ x. min (x * x * a.base) (layer_limit + 1)) c.by_halving-root.ensures ∙ cap_odd (layer_limit + 1) (lit< tt) (a.base ^ (a.e / 2)) a.base
    ∙ ap (λ x. min x (layer_limit + 1)) (half_odd a.base a.e c.if-e-eq0-2.false)
