use Rattle.image.specs.Image.{edition1}
use Rattle.image.proofs.Editions.{proper1}
use Rattle.image.proofs.WriteGrounds.{write_answer, not_written}
use Rattle.image.proofs.Copies.{copy_cabinet, copy_done, copy_symbols, header_fits, symbols_fit, all_written}
use Rattle.image.proofs.write.Goals as goal

pub returns-then-refusal-ne0-clause-answer : goal.returns-then-refusal-ne0-clause-answer
returns-then-refusal-ne0-clause-answer c = search write_answer

pub returns-then-refusal-ne0-clause-buffer : goal.returns-then-refusal-ne0-clause-buffer
returns-then-refusal-ne0-clause-buffer c = search not_written

pub head-h-requires : goal.head-h-requires
head-h-requires c = search (copy_cabinet, proper1)

pub copy_bytes-requires : goal.copy_bytes-requires
copy_bytes-requires c = search (header_fits, proper1)

pub write_symbols-requires : goal.write_symbols-requires
write_symbols-requires c = (search (symbols_fit edition1, proper1), search (copy_symbols edition1, proper1))

pub returns-clause-answer : goal.returns-clause-answer
returns-clause-answer c = search (copy_done, proper1)

pub returns-clause-buffer : goal.returns-clause-buffer
returns-clause-buffer c = search (all_written, proper1)
