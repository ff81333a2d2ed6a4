use Rattle.std.proofs.Common.{rules}
use Rattle.margin.proofs.Grounds.{refused_answer, given_length, given_dimension, given_answer}
use Rattle.margin.proofs.margin.Goals as goal

pub returns-then-refusal-ne0 : goal.returns-then-refusal-ne0
returns-then-refusal-ne0 c = search refused_answer

pub live_count-requires : goal.live_count-requires
live_count-requires c = search given_length

pub difference-requires : goal.difference-requires
difference-requires c = (search rules, search given_dimension)

pub returns : goal.returns
returns c = search given_answer
