-- Made by tools/twin.py from crates/share/proofs/add_weighted/Invariants.antt.
use Rattle.symbol257.specs.Elem.{gf257}
use Rattle.std.proofs.Common.{◌≡◌, ℕ, ◌<◌, List, length, get_or}
use Rattle.layout.specs.Layout.{groups}
use Rattle.share.specs.Inner.{sum_at, Added}
use Rattle.share257.proofs.add_weighted.Given as goal

abbrev pub invariant-loop-m : goal.invariant-loop-m
invariant-loop-m l = record {
  same : length l.shares ≡ length l.initial.shares;
  added : (h : ℕ) (symbols : List ℕ) → ((p : ℕ) → p < groups l.l → gf257.coding.elem (get_or l.sums p 0) ≡ sum_at gf257 l.l h symbols p) →
      Added gf257 l.l h l.x symbols l.initial.shares l.shares l.m;
}
