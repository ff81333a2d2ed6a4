-- Made by tools/twin.py from crates/share/proofs/add_sums/Answers.antt.
use Rattle.symbol257.proofs.Working.{working}
use Rattle.symbol257.specs.Elem.{gf257}
use Rattle.share.proofs.Sums.{runs_of, summed}
use Rattle.share257.proofs.add_sums.Goals as goal

pub add_short-requires : goal.add_short-requires
add_short-requires c =
    let a = c.args in
    let p = c.requires in
    runs_of a.l a.h a.r.digits a.r.length a.r.count a.r.layers p.0.adm.cabinet p.0.host_in p.1 gf257 a.symbols.now a.at a.m a.sums.now p.0

pub add_long-requires : goal.add_long-requires
add_long-requires c =
    let a = c.args in
    let p = c.requires in
    runs_of a.l a.h a.r.digits a.r.length a.r.count a.r.layers p.0.adm.cabinet p.0.host_in p.1 gf257 a.symbols.now a.at a.m a.sums.now p.0

pub returns-then-run-lt-SHORT : goal.returns-then-run-lt-SHORT
returns-then-run-lt-SHORT c =
    let a = c.args in
    let p = c.requires in
    summed a.l a.h a.r.digits a.r.length a.r.count a.r.layers p.0.adm.cabinet p.0.host_in p.1 working p.0.adm a.symbols.now a.at a.m
    a.sums.now _ p.0.some_trays c.add_short.ensures

pub returns : goal.returns
returns c =
    let a = c.args in
    let p = c.requires in
    summed a.l a.h a.r.digits a.r.length a.r.count a.r.layers p.0.adm.cabinet p.0.host_in p.1 working p.0.adm a.symbols.now a.at a.m
    a.sums.now _ p.0.some_trays c.add_long.ensures
