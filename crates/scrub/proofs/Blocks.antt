-- Looking at block after block.
-- Assumes nothing.
use mathlib.Core.Path.{◌≡◌, ap, ◌∙◌}
use mathlib.Core.List.{List}
use Prim.Native.Nat.{ℕ, ◌+◌, ◌-◌}
use native.Mathlib.Omega.{arith}
use Rattle.algebra.specs.Shape.{Field}
use Rattle.layout.specs.declared.Layout.{Layout}
use Rattle.blocks.specs.Inner.{Allowed}
use Rattle.scrub.specs.declared.Walk.{Walk}
use Rattle.scrub.specs.Scrub.{bad_layer, after}
use Rattle.scrub.specs.Inner.{Ahead}
use Rattle.scrub.proofs.Layers.{after_next, after_high, after_on}

-- ---- a block of w layers more: what is to go, and that it leads to the same record
pub more : {A : Type 0} (f : Field A) (l : Layout) (total : ℕ) (c : List ℕ) (walk : Walk) (count : ℕ) (seen s : Walk) (p left r w : ℕ) → Allowed p left r w → s ≡ after (bad_layer f l c) seen w →
    Ahead l total c seen left → after (bad_layer f l c) seen left ≡ after (bad_layer f l c) walk count →
    Ahead l total c s (left - w) × (after (bad_layer f l c) s (left - w) ≡ after (bad_layer f l c) walk count)
more f l total c walk count seen s p left r w a e q k =
    let t = a.within in
    let n : w + (left - w) ≡ left = omega arith in
    rw e (
      record {
        scannable = q.scannable;
        room = rw (after_next (bad_layer f l c) seen w) (omega (arith, q.room));
        bad_in = after_high (bad_layer f l c) seen w q.bad_in;
      },
      after_on (bad_layer f l c) seen w (left - w) ∙ ap (after (bad_layer f l c) seen) n ∙ k,
    )
