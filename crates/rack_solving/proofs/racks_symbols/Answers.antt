use Rattle.rack_solving.proofs.Symbols.{racks_more, bytes_of}
use Rattle.rack_solving.proofs.racks_symbols.Goals as goal

pub loop-i-preserved : goal.loop-i-preserved
loop-i-preserved c = record { done = search racks_more; bytes = search bytes_of }
