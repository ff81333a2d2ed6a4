use Rattle.std.proofs.Common.{ℕ, ◌≡◌, List, subst}
use Rattle.symbol.proofs.Working.{working}
use Rattle.batch_kernel.specs.Ready.{Ready}
use Rattle.batch_restore.proofs.Rows.{ks_few, ks_pointing, es_pointing, n_fits, count_fits, count_low, rest_fits, zeros_in, lanes_few}
use Rattle.batch_restore.proofs.Rows.{factors_told, count_few, prepare_picks, prepare_g, weights_of}
use Rattle.batch_restore.proofs.layer_factors.Goals as goal

ready_as : (picks : List ℕ) (wide a b : ℕ) → a ≡ b → Ready picks wide a → Ready picks wide b
ready_as picks wide a b e r = subst (λ (n : ℕ). Ready picks wide n) e r

pub eights-count-requires : goal.eights-count-requires
eights-count-requires c = search ks_few

pub list_points-requires : goal.list_points-requires
list_points-requires c = search ks_pointing

pub list_points-requires-2 : goal.list_points-requires-2
list_points-requires-2 c = search es_pointing

pub overflow_mul-n : goal.overflow_mul-n
overflow_mul-n c = search n_fits

pub overflow_mul-count : goal.overflow_mul-count
overflow_mul-count c = search count_fits

pub overflow_sub-count : goal.overflow_sub-count
overflow_sub-count c = search count_low

pub overflow_mul-count-2 : goal.overflow_mul-count-2
overflow_mul-count-2 c = search rest_fits

pub fill-requires : goal.fill-requires
fill-requires c = search zeros_in

pub factors-requires : goal.factors-requires
factors-requires c = (search factors_told, search lanes_few)

pub prepare-requires : goal.prepare-requires
prepare-requires c = (search count_few, search prepare_picks, search prepare_g)

pub returns : goal.returns
returns c =
    let a = c.args in
    record {
      ready = search ready_as;
      layer_weights = weights_of a.l a.es.now a.ks.now c.requires.0 a.wide c.eights-count.result c.requires.1 c.eights-count.ensures
          working a.j
          _ _ _ _ _ _ _ _ c.list_points.ensures c.list_points-2.ensures c.fill.ensures c.factors.ensures c.prepare.ensures.weighs;
    }
