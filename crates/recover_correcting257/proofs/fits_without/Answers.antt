-- Made by tools/twin.py from crates/recover_correcting/proofs/fits_without/Answers.antt.
use Rattle.std.proofs.Common.{rules}
use Rattle.symbol257.specs.Elem.{gf257}
use Rattle.recover_correcting.proofs.Trials.{tried_listed, try_told, tried_so}
use Rattle.recover_correcting257.proofs.fits_without.Goals as goal

pub returns-then-not-is_absent : goal.returns-then-not-is_absent
returns-then-not-is_absent c = search (rules, tried_listed)

pub all_fit-requires : goal.all_fit-requires
all_fit-requires c =
    let p = c.requires in
    try_told gf257 _ _ _ _ _ _ _ p.0 p.1 p.2 _ c.is_absent.ensures c.if-not-is_absent.false c.put_last.ensures

pub returns : goal.returns
returns c = search (rules, tried_so)
