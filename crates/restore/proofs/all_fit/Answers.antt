use Rattle.std.proofs.Common.{◌∙◌}
use Rattle.symbol.proofs.Working.{working}
use Rattle.restore.proofs.Fits.{fit_all}
use Rattle.restore.proofs.all_fit.Goals as goal

pub returns-then-es-check_count : goal.returns-then-es-check_count
returns-then-es-check_count c =
    let a = c.args in fit_all working a.l a.total a.es.now a.c.now c.requires.0 c.requires.1 (c.if-es-check_count.true ∙ c.check_count.ensures)
