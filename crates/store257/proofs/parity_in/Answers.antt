-- Made by tools/twin.py from crates/store/proofs/parity_in/Answers.antt.
use Rattle.std.proofs.Common.{ℕ, ◌+◌, sym, ap, ◌∙◌, subst, arith}
use Rattle.symbol257.specs.Elem.{gf257}
use Rattle.lists.specs.Lists.{table}
use Rattle.layout.specs.Layout.{layers}
use Rattle.layout.proofs.Facts.{dimension_in}
use Rattle.restore.specs.Inner.{Erasing, RestoredTo}
use Rattle.store.proofs.Trays.{parity_told}
use Rattle.store257.proofs.parity_in.Goals as goal

pub count_from-requires : goal.count_from-requires
count_from-requires c = let a = c.requires.0.adm in (omega (arith, dimension_in _ a), omega arith)

pub restore-requires : goal.restore-requires
restore-requires c =
    let listed = c.count_from.ensures ∙ ap (table (λ (i : ℕ). c.args.l.dimension + i)) c.requires.1 in
    subst (λ es. Erasing c.args.l c.layer_count.result es c.args.out.now) (sym listed)
    (parity_told c.args.l _ c.args.out.now c.requires.0 c.layer_count.ensures)

pub returns : goal.returns
returns c =
    let listed = c.count_from.ensures ∙ ap (table (λ (i : ℕ). c.args.l.dimension + i)) c.requires.1 in
    subst (λ es. RestoredTo gf257 c.args.l es c.args.out.now (layers c.args.l) c.restore.new.c) listed c.restore.ensures
