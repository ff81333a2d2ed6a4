use Rattle.std.proofs.Common.{◌≡◌}
use Rattle.symbol.specs.Elem.{gf256}
use Rattle.scrub.specs.Scrub.{bad_layer, after}
use Rattle.scrub.specs.Inner.{Ahead}
use Rattle.scrub.proofs.look.look_blocks.Given as goal

-- the layers still to go lead to the same record
abbrev pub invariant-loop-left : goal.invariant-loop-left
invariant-loop-left l = record {
  ahead : Ahead l.l l.total l.c l.seen l.left;
  to_go : after (bad_layer gf256 l.l l.c) l.seen l.left ≡ after (bad_layer gf256 l.l l.c) l.fn.walk l.fn.count;
}

abbrev pub decreases-loop-left : goal.decreases-loop-left
decreases-loop-left l = l.left
