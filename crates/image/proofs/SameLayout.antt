-- Layouts with the same five numbers are the same.
-- Assumes nothing.
use mathlib.Core.Path.{◌≡◌, ap}
use mathlib.Core.Bool.{true}
use lib.Dec.{eqb}
use borrow.Author.Tests.{eq-eqb, eqb-true}
use Rattle.lists.proofs.Bools.{both}
use Rattle.layout.specs.declared.Layout.{Layout}
use Rattle.image.specs.Image.{same_layout}

module _ (l m : Layout) where
  pub same_facts : same_layout l m ≡ true → l ≡ m
  unfolding same_layout
  same_facts h =
      let h4 = both _ (eqb l.errors m.errors) h in
      let h3 = both _ (eqb l.helpers m.helpers) h4.0 in
      let h2 = both _ (eqb l.dimension m.dimension) h3.0 in
      let h1 = both (eqb l.racks m.racks) (eqb l.size m.size) h2.0 in
      λ i. record {
        racks = eqb-true l.racks m.racks h1.0 i;
        size = eqb-true l.size m.size h1.1 i;
        dimension = eqb-true l.dimension m.dimension h2.1 i;
        helpers = eqb-true l.helpers m.helpers h3.1 i;
        errors = eqb-true l.errors m.errors h4.1 i;
      }

  pub same_self : l ≡ m → same_layout l m ≡ true
  unfolding same_layout
  same_self e =
      simp (
        eq-eqb _ _ (ap (λ (x : Layout). x.racks) e),
        eq-eqb _ _ (ap (λ (x : Layout). x.size) e),
        eq-eqb _ _ (ap (λ (x : Layout). x.dimension) e),
        eq-eqb _ _ (ap (λ (x : Layout). x.helpers) e),
        eq-eqb _ _ (ap (λ (x : Layout). x.errors) e),
      )
