use Rattle.symbol.specs.Elem.{gf256}
use Rattle.std.proofs.Common.{◌≡◌, ℕ, ◌<◌, List, length, get_or}
use Rattle.layout.specs.Layout.{groups}
use Rattle.share.specs.Inner.{sum_at, Added}
use Rattle.share.proofs.add_weighted.Given as goal

abbrev pub invariant-loop-m : goal.invariant-loop-m
invariant-loop-m l = record {
  same : length l.shares ≡ length l.initial.shares;
  added : (h : ℕ) (symbols : List ℕ) → ((p : ℕ) → p < groups l.l → gf256.coding.elem (get_or l.sums p 0) ≡ sum_at gf256 l.l h symbols p) →
      Added gf256 l.l h l.x symbols l.initial.shares l.shares l.m;
}
