use Rattle.std.proofs.Common.{◌≡◌}
use Rattle.weigh.proofs.Bits.{upper}
use Rattle.weigh.proofs.mixed.Given as goal

abbrev pub invariant-loop-k : goal.invariant-loop-k
invariant-loop-k l = l.v ≡ upper l.a l.b l.c l.d l.p l.q l.r l.s l.k
