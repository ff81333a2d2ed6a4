use Rattle.std.proofs.Common.{◌≡◌, ◌+◌, true, false, arith, rules}
use Rattle.std.proofs.lemmas.Iterator.{cases_from_all, YieldsList-from_range}
use Rattle.lists.specs.Lists.{absent}
use Rattle.rack_checks.proofs.Numbers.{kept_all}
use Rattle.rack_checks.proofs.all_kept.Goals as goal

pub returns : goal.returns
returns c = λ e.
    let es = c.args.es.now in
    let cases =
    cases_from_all _ _ _ (λ y. absent es y ≡ true) (λ y. absent es y ≡ false) c.all.ensures.ran
    (YieldsList-from_range c.args.x (c.args.x + c.args.n) c.args.n (cc) (omega arith)) (λ y q k. search rules) (λ y q k. search rules) in
    kept_all es c.args.x c.args.n _ _ cases e
