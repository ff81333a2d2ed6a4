-- Made by tools/twin.py from crates/locating/proofs/residues/keep_block/Answers.antt.
use Rattle.symbol257.proofs.Working.{working}
use Rattle.locating.proofs.Blocks.{kept_more}
use Rattle.locating257.proofs.residues.keep_block.Goals as goal

pub returns : goal.returns
returns c =
    let a = c.args in
    kept_more working a.l a.h a.helpers.now a.shares.now a.at a.w _ _ _ _ _ c.requires.1 c.block_residues.ensures c.copy.ensures c.copy-2.ensures
