use Rattle.std.proofs.Common.{arith, rules}
use Rattle.lists.proofs.Loops.{upto_more}
use Rattle.box_words.proofs.Answers.{symbol_of, symbol_is, word_is}
use Rattle.box_words.proofs.write_word.Goals as goal

pub loop-x-preserved : goal.loop-x-preserved
loop-x-preserved c =
    let given = c.args.given.now in
    upto_more (symbol_of given) c.loop-x.invariant (omega arith)
    (symbol_is given c.all_points-points.result c.loop-x.x _ (search rules) c.all_points-points.ensures c.value_at.ensures)

pub returns : goal.returns
returns c = word_is _ _ _ c.loop-x.x (search rules) (omega (arith, c.loop-x.invariant.same)) c.loop-x.invariant
