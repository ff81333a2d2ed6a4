use Rattle.std.proofs.Common.{arith}
use Rattle.symbol.proofs.Working.{working}
use Rattle.locating.proofs.Blocks.{groups_in}
use Rattle.locating.proofs.Located.{found_so}
use Rattle.locating.proofs.locate_in.Goals as goal

pub pointed-requires : goal.pointed-requires
pointed-requires c =
    let a = c.args in
    let p = c.requires in (
      p.0.chosen,
      groups_in a.l a.zeroth.now c.all_residues.new.zeroth p.0.chosen.adm p.1.zeroth_long c.all_residues.auto.zeroth,
      groups_in a.l a.first.now c.all_residues.new.first p.0.chosen.adm p.1.first_long c.all_residues.auto.first,
      omega (arith, c.all_residues.auto.row, p.1.row_long),
    )

pub returns : goal.returns
returns c = let a = c.args in found_so working a.l a.h a.helpers.now a.shares.now _ _ c.all_residues.ensures _ c.pointed.ensures
