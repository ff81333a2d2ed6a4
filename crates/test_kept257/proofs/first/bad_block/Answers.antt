-- Made by tools/twin.py from crates/test_kept/proofs/first/bad_block/Answers.antt.
use Rattle.std.proofs.Common.{◌≡◌, ◌+◌, ◌-◌, ◌*◌, subst, arith, rules}
use Rattle.symbol257.specs.Elem.{gf257}
use Rattle.test_kept.specs.Inner.{FirstUnfit}
use Rattle.test_kept.proofs.Blocks.{wide_at, fit_more, last_unfit}
use Rattle.test_kept257.proofs.first.bad_block.Goals as goal

pub fits-requires : goal.fits-requires
fits-requires c = (wide_at _ _ _ _ c.args.count c.requires.0 c.loop-q.q (omega arith), search rules)

pub loop-q-preserved : goal.loop-q-preserved
loop-q-preserved c = fit_more gf257 _ _ _ _ _ _ _ c.loop-q.invariant c.fits.ensures c.if-not-fits.false

pub returns : goal.returns
returns c =
    let a = c.args in
    let e : c.loop-q.q ≡ a.count - 1 = omega arith in
    subst (λ n. FirstUnfit gf257 a.l a.w a.from a.count a.es.now a.c.now (a.from + n * a.w)) e
    (last_unfit gf257 a.l a.w a.from a.es.now a.c.now a.count c.loop-q.q c.loop-q.invariant (omega arith) c.requires.2 (omega arith))
