-- Made by tools/twin.py from crates/correcting/proofs/left/leave_shares/Answers.antt.
use Rattle.correcting.proofs.Lists.{front_in, shares_left}
use Rattle.correcting257.proofs.left.leave_shares.Goals as goal

pub copy-requires : goal.copy-requires
copy-requires c =
    let a = c.args in
    let p = c.requires in
    front_in a.k a.n a.each a.shares.now a.out.now p.0 p.2 p.3

pub returns : goal.returns
returns c =
    let a = c.args in
    let p = c.requires in
    shares_left a.k a.n a.each a.shares.now a.out.now p.0 p.2 p.3 _ _ c.copy.ensures c.copy-2.ensures
