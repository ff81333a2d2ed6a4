-- Made by tools/twin.py from crates/batch_restore/proofs/sum_block/Answers.antt.
use Rattle.std.proofs.Common.{ℕ, ◌*◌, ◌≤◌, subst}
use Rattle.symbol257.proofs.Working.{working}
use Rattle.batch_restore.proofs.Rows.{sums_few, eight_fits, eight_most, sums_places, sums_some, sums_first, zeros_long, zeros_most}
use Rattle.batch_restore.proofs.Rows.{last_long, last_in, last_whole, last_again, T-laid, T-eights, T-done}
use Rattle.batch_kernel.specs.Wide.{Ready}
use Rattle.batch_restore257.proofs.sum_block.Goals as goal

pub eights-n-requires : goal.eights-n-requires
eights-n-requires c = search sums_few

pub overflow_mul-n : goal.overflow_mul-n
overflow_mul-n c = search eight_fits

pub slice_bounds-at-end : goal.slice_bounds-at-end
slice_bounds-at-end c = search eight_most

pub slice_bounds-places-end : goal.slice_bounds-places-end
slice_bounds-places-end c = zeros_long (c.eights-n.result * 8) (search eight_most)

pub places-requires : goal.places-requires
places-requires c =
    (search sums_some, search sums_few, zeros_most (c.eights-n.result * 8) (search eight_most), search sums_first, search sums_places)

pub slice_bounds-at-end-2 : goal.slice_bounds-at-end-2
slice_bounds-at-end-2 c = last_in (c.eights-n.result * 8) (search eight_most) c.places.new.at c.places.ensures.long

pub slice_bounds-sum_rows-end : goal.slice_bounds-sum_rows-end
slice_bounds-sum_rows-end c = last_again (c.eights-n.result * 8) (search eight_most) c.places.new.at c.places.ensures.long

pub sum_rows-requires : goal.sum_rows-requires
sum_rows-requires c =
    let n = c.eights-n.result * 8 in let small : n ≤ 64 = search eight_most in let last = c.places.new.at in
    let p = c.places.ensures in let a = c.args in let e = last_whole n small last p.long in (
      T-laid _ _ _ _ _ _ _ _ _ c.requires.0 c.eights-n.result c.eights-n.ensures last _ _ _ (zeros_long n small) (last_long n small last
          p.long) p e,
      subst (λ (y : ℕ). Ready a.picks.now a.wide y) (T-eights _ _ _ _ _ _ _ _ _ c.requires.0 c.eights-n.result
          c.eights-n.ensures last _ _ _ (zeros_long n small) (last_long n small last p.long) p e) c.requires.1,
    )

pub returns : goal.returns
returns c =
    let n = c.eights-n.result * 8 in let small : n ≤ 64 = search eight_most in let last = c.places.new.at in
    let p = c.places.ensures in T-done _ _ _ _ _ _ _ _ _ c.requires.0 c.eights-n.result c.eights-n.ensures last _ _ _ (zeros_long n
    small) (last_long n small last p.long) p (last_whole n small last p.long) working _ _ c.sum_rows.ensures c.requires.2
