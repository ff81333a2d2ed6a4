-- The worked examples hold: one claim over the whole table.
-- Assumes nothing.
use mathlib.Core.Path.{refl}
use lib.Dec.{lit<}
use lib.ListN.{drop}
use Rattle.algebra.specs.Below.{below}
use Rattle.lists.specs.Lists.{table, all, all_below}
use Rattle.algebra.specs.Sum.{sum, pow}
use Rattle.symbol.specs.Arithmetic.{◌⊕◌}
use Rattle.nibble.specs.Arithmetic.{muly, shift_add, ◌⊗◌, power, ypow}
use Rattle.nibble.specs.Elem.{ops}
use Rattle.box_words.specs.Box.{points, point, value, word_of}
use Rattle.box_words.specs.Store.{store_refusal}
use Rattle.box_repair.specs.Examples.{AllHold, examples}
use Rattle.box_repair.specs.Inner.{sum_of}
use Rattle.box_repair.proofs.Tops.{top_is}

pub worked_examples : AllHold examples
unfolding store_refusal all_below all word_of value point points table sum pow ops below ypow power ◌⊗◌ shift_add muly ◌⊕◌ sum_of
worked_examples =
    ((refl, refl), ((refl, refl), ((refl, refl), equal)))
  where
    unlike : AllHold (drop 7 examples)
    unlike = unfold sum_of sum ops below ypow power ◌⊗◌ shift_add muly ◌⊕◌ in
        (top_is 0 (lit< tt) _ 0 refl, (top_is 1 (lit< tt) _ 1 refl, (top_is 2 (lit< tt) _ 6 refl, (top_is 3 (lit< tt) _ 7 refl, tt))))

    equal : AllHold (drop 3 examples)
    equal = unfold sum_of sum ops below ◌⊕◌ in (top_is 0 (lit< tt) _ 3 refl, (top_is 1 (lit< tt) _ 3 refl, (top_is 2 (lit< tt) _ 3 refl, (top_is 3 (lit< tt) _ 3 refl, unlike))))
