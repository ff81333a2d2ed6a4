use Rattle.std.proofs.Common.{arith}
use Rattle.std.proofs.lemmas.Bool.Decides.{Decides-eqb}
use Rattle.std.proofs.lemmas.Slice.Eq.{slice_eq-Decides}
use Rattle.cards.proofs.Compare.{alike_told}
use Rattle.cards.proofs.alike.Goals as goal

pub returns : goal.returns
returns c =
    let a = c.args in
    alike_told a.a.now a.b.now a.len _ (omega arith) (omega arith) (slice_eq-Decides Decides-eqb _ _ _ c.eq.ensures)
