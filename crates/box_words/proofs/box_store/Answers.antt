use Rattle.std.proofs.Common.{sym, ◌∙◌}
use Rattle.box_words.proofs.Answers.{storable, kept, written}
use Rattle.box_words.proofs.box_store.Goals as goal

pub returns-then-ground-ne0-clause-buffer : goal.returns-then-ground-ne0-clause-buffer
returns-then-ground-ne0-clause-buffer c = kept c.args.given.now c.args.out.now _ c.refusal-ground.ensures c.if-ground-ne0.true

pub write_word-requires : goal.write_word-requires
write_word-requires c = let p = storable _ _ (sym c.refusal-ground.ensures ∙ c.if-ground-ne0.false) in (p.given_long, p.room_long)

pub returns-clause-buffer : goal.returns-clause-buffer
returns-clause-buffer c = written _ _ _ (sym c.refusal-ground.ensures ∙ c.if-ground-ne0.false) c.write_word.ensures
