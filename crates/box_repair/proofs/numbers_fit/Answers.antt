use Rattle.std.proofs.Common.{arith, sym}
use Rattle.box_repair.proofs.Grounds.{fit_lost, fit_helpers, fit_shares, fit_rack}
use Rattle.box_repair.proofs.numbers_fit.Goals as goal

pub returns-then-lost : goal.returns-then-lost
returns-then-lost c = fit_lost _ _ _ _ (omega arith)

pub returns-then-not-all_below : goal.returns-then-not-all_below
returns-then-not-all_below c = fit_helpers _ _ _ _ (omega arith) (sym c.if-not-all_below.ensures)

pub returns-then-not-all_symbols : goal.returns-then-not-all_symbols
returns-then-not-all_symbols c = fit_shares _ _ _ _ (omega arith) (sym c.if-not-all_below.ensures) (sym c.if-not-all_symbols.ensures)

pub returns : goal.returns
returns c = fit_rack _ _ _ _ (omega arith) (sym c.if-not-all_below.ensures) _ (sym c.if-not-all_symbols.ensures) c.others_below.ensures
