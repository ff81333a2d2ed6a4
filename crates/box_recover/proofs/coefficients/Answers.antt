use Rattle.std.proofs.Common.{arith, rules}
use Rattle.lists.proofs.Loops.{upto_more}
use Rattle.box_recover.proofs.Steps.{coefficient_number, coefficient_number_lem, coefficients_are}
use Rattle.box_recover.proofs.coefficients.Goals as goal

pub loop-j-preserved : goal.loop-j-preserved
loop-j-preserved c =
    upto_more (coefficient_number c.args.word.now) c.loop-j.invariant (omega arith)
    (coefficient_number_lem c.args.word.now c.loop-j.j _ c.coefficient.ensures)

pub returns : goal.returns
returns c = coefficients_are c.args.word.now _ _ c.loop-j.j (search rules) (omega (arith, c.loop-j.invariant.same)) c.loop-j.invariant
