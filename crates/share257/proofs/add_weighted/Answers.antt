-- Made by tools/twin.py from crates/share/proofs/add_weighted/Answers.antt.
use Rattle.std.proofs.Common.{arith, ◌∙◌}
use Rattle.std.proofs.Common.{refl}
use Rattle.symbol257.proofs.Working.{working}
use Rattle.layout.proofs.Facts.{bounds}
use Rattle.share.proofs.Sums.{groups_pos}
use Rattle.share.proofs.Parts.{weight_in, added_none, added_more, added_end}
use Rattle.share257.proofs.add_weighted.Goals as goal

pub loop-m-init : goal.loop-m-init
loop-m-init c = record { same = refl; added = λ h symbols e. added_none working _ _ _ _ _ }

pub cell-to-requires : goal.cell-to-requires
cell-to-requires c =
    let p = c.requires in
    let b = bounds _ p.adm in
    let e = c.group_count-total.ensures in
    (omega arith, omega (arith, p.few), omega (arith, groups_pos _ p.adm))

pub add_multiple-requires : goal.add_multiple-requires
add_multiple-requires c =
    let a = c.args in
    let p = c.requires in (
      weight_in a.l a.count c.loop-m.m _ _ a.sums.now a.shares.now c.loop-m.shares p c.group_count-total.ensures c.cell-to.ensures (omega arith)
          c.loop-m.invariant.same,
      omega (arith, p.long, c.group_count-total.ensures),
    )

pub loop-m-preserved : goal.loop-m-preserved
loop-m-preserved c = record {
  same = c.add_multiple.ensures.long ∙ c.loop-m.invariant.same;
  added = λ h symbols e.
      let a = c.args in
      added_more working a.l h a.x c.loop-m.m _ _ _ symbols a.shares.now a.sums.now c.loop-m.shares _ (omega arith) c.group_count-total.ensures
      c.cell-to.ensures c.place_power-weight.ensures e c.add_multiple.ensures (c.loop-m.invariant.added h symbols e);
}

pub returns : goal.returns
returns c h symbols e =
    let a = c.args in
    added_end working a.l h a.x c.loop-m.m a.count symbols a.shares.now c.loop-m.shares (c.loop-m.invariant.added h symbols e) (omega arith) (omega arith)
