-- Made by tools/twin.py from crates/gather/proofs/tray/copy_tray/Answers.antt.
use Rattle.std.proofs.Common.{arith}
use Rattle.image.specs.Image.{edition2}
use Rattle.gather.proofs.Taking.{place_in, tray_copied}
use Rattle.gather257.proofs.tray.copy_tray.Goals as goal

pub overflow_mul-from : goal.overflow_mul-from
overflow_mul-from c =
    let a = c.args in
    let h = place_in edition2 a.l a.images.now a.place _ c.image_length-size.ensures c.requires.read in
    omega arith

pub slice_bounds-copy_part-end : goal.slice_bounds-copy_part-end
slice_bounds-copy_part-end c =
    let a = c.args in
    let h = place_in edition2 a.l a.images.now a.place _ c.image_length-size.ensures c.requires.read in
    omega arith

pub returns : goal.returns
returns c = search tray_copied
