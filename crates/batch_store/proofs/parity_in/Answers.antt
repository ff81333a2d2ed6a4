use Rattle.std.proofs.Common.{ℕ, ◌+◌, sym, ap, ◌∙◌, subst, arith}
use Rattle.symbol.specs.Elem.{gf256}
use Rattle.lists.specs.Lists.{table}
use Rattle.layout.proofs.Facts.{dimension_in}
use Rattle.batch_restore.specs.Inner.{Restoring, Restored}
use Rattle.batch_store.proofs.Answers.{parity_told}
use Rattle.batch_store.proofs.parity_in.Goals as goal

pub trays_from-requires : goal.trays_from-requires
trays_from-requires c = let a = c.requires.0.adm in (omega (arith, dimension_in _ a), omega arith)

pub restore-requires : goal.restore-requires
restore-requires c =
    let listed = c.trays_from.ensures ∙ ap (table (λ (i : ℕ). c.args.l.dimension + i)) c.requires.1 in
    subst (λ es. Restoring c.args.l c.args.many es c.args.out.now) (sym listed) (parity_told c.args.l c.args.many c.args.out.now
    c.requires.0)

pub returns : goal.returns
returns c =
    let listed = c.trays_from.ensures ∙ ap (table (λ (i : ℕ). c.args.l.dimension + i)) c.requires.1 in
    subst (λ es. Restored gf256 c.args.l c.args.many es c.args.out.now c.restore.new.c) listed c.restore.ensures
