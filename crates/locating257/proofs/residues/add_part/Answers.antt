-- Made by tools/twin.py from crates/locating/proofs/residues/add_part/Answers.antt.
use Rattle.symbol257.proofs.Working.{working}
use Rattle.locating.proofs.Parts.{sharing_of, part_added}
use Rattle.locating257.proofs.residues.add_part.Goals as goal

pub share_gaps-requires : goal.share_gaps-requires
share_gaps-requires c =
    let a = c.args in
    let p = c.requires in
    sharing_of working a.l a.h a.w a.first a.helpers.now a.shares.now a.sides.now a.points.now a.cur.now a.prod.now a.row.now p.0 a.k _ _ p.1
    c.own_points.auto.points c.own_points.ensures

pub returns-clause-part : goal.returns-clause-part
returns-clause-part c =
    let a = c.args in
    part_added working a.l a.h a.w a.first a.helpers.now a.shares.now a.k _ _ _ _ _ c.own_points.ensures c.share_gaps.ensures c.add_terms.ensures
