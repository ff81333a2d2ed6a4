use Rattle.std.proofs.Common.{sym}
use Rattle.syndrome.proofs.Sums.{kept_listed, kept_of}
use Rattle.syndrome.proofs.kept_terms.Goals as goal

pub returns-then-not-is_absent : goal.returns-then-not-is_absent
returns-then-not-is_absent g c = search (kept_listed g.met.N.FieldNumber.working, sym c.if-not-is_absent.ensures)

pub returns : goal.returns
returns g c = search (kept_of g.met.N.FieldNumber.working, sym c.if-not-is_absent.ensures)
