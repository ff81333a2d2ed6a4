-- Which helper the residues point to, and what that says of the shares.
-- Assumes nothing.
use mathlib.Core.Path.{◌≡◌, sym, ap, ◌∙◌, subst}
use mathlib.Core.Bool.{Bool, true, false, ◌&&◌, false≢true}
use mathlib.Core.List.{List}
use Prim.Native.Nat.{ℕ, ◌+◌, ◌<◌, ◌≤◌}
use native.Mathlib.Decide.{ℕ_discrete}
use native.Mathlib.Omega.{arith}
use mir.Val.{Fits}
use mir.Syntax.{w64}
use lib.ListN.{length}
use Rattle.lists.proofs.Bools.{both, and_true}
use Rattle.algebra.specs.Shape.{Field}
use Rattle.algebra.specs.Plain.{Working}
use Rattle.algebra.specs.Locate.{Clean, Located}
use Rattle.kernel.specs.Inner.{all_zero}
use Rattle.kernel.proofs.Runs.{zero_all, zero_from}
use Rattle.layout.specs.declared.Layout.{Layout}
use Rattle.layout.specs.Layout.{groups, parity_racks}
use Rattle.layout.proofs.Facts.{bounds}
use Rattle.codeword.specs.Codeword.{shape_of}
use Rattle.rule.specs.Rule.{shared_symbol}
use Rattle.sums.specs.Inner.{helper_at, Chosen}
use Rattle.locating.specs.Inner.{point_of, residue_of, Kept, PointsAt, AllZero, FirstAt, PointedTo, Found}

module _ {A : Type 0} {f : Field A} (W : Working f) where
  open f use {ops}
  open f.coding use {elem}

  module _ (l : Layout) (h : ℕ) (helpers zeroth first : List ℕ) (ch : Chosen l h helpers) where
    -- none of the helpers below k
    abbrev pub NoneTo : ℕ → Type 0
    NoneTo n = (k : ℕ) → k < n → ¬ (PointsAt f l h helpers zeroth first k (groups l))

    pub none_more : (n : ℕ) → NoneTo n → ¬ (PointsAt f l h helpers zeroth first n (groups l)) → NoneTo (n + 1)
    none_more n g d k q = go (ℕ_discrete k n)
      where
        go : Dec (k ≡ n) → ¬ (PointsAt f l h helpers zeroth first k (groups l))
        go (yes e) = subst (λ y. ¬ (PointsAt f l h helpers zeroth first y (groups l))) (sym e) d
        go (no e) = g k (omega arith)

    pub first_found : (k : ℕ) → k < length helpers → PointsAt f l h helpers zeroth first k (groups l) → FirstAt f l h helpers zeroth first k
    first_found k q g = let m = ch.many in record { not_all = λ e. omega arith; high = omega arith; helper = λ w. g; none = λ e. absurd (omega arith) }

    pub first_none : (k n : ℕ) → n ≤ k → n ≡ length helpers → NoneTo k → FirstAt f l h helpers zeroth first (n + 1)
    first_none k n q e g =
        let m = ch.many in
        record { not_all = λ z. omega arith; high = omega arith; helper = λ w. absurd (omega arith); none = λ z i r. g i (omega arith) }

    module _ (total : ℕ) (et : total ≡ groups l) where
      pub pointed_clean : (b : Bool) → b ≡ (all_zero f zeroth total && all_zero f first total) → b ≡ true → PointedTo f l h helpers zeroth first (length helpers)
      pointed_clean b e t =
          let m = ch.many in
          let two = both (all_zero f zeroth total) (all_zero f first total) (sym e ∙ t) in
          record {
            high = omega arith;
            clean = λ z p q. (zero_all f zeroth total W two.0 p (omega arith), zero_all f first total W two.1 p (omega arith));
            dirty = λ d. absurd (d m);
            helper = λ w. absurd (omega arith);
            none = λ z. absurd (omega arith);
          }

      pub pointed_dirty : (b : Bool) → b ≡ (all_zero f zeroth total && all_zero f first total) → b ≡ false →
          (r : ℕ) → FirstAt f l h helpers zeroth first r → PointedTo f l h helpers zeroth first r
      pointed_dirty b e t r g = record {
        high = g.high;
        clean = λ z. absurd (g.not_all z);
        dirty = λ d a. false≢true (sym t ∙ e ∙ and_true _ _ (sym (zero_from f zeroth total W (λ p q. (a p (omega arith)).0)))
            (sym (zero_from f first total W (λ p q. (a p (omega arith)).1))));
        helper = g.helper;
        none = g.none;
      }

  -- in the algebra's terms
  module _ (l : Layout) (h : ℕ) (helpers shares zeroth first : List ℕ) (k : Kept f l h helpers shares (groups l) zeroth first) where
    located_is : (r : ℕ) → PointsAt f l h helpers zeroth first r (groups l) → Located (shape_of f l) h (helper_at helpers) l.helpers (parity_racks l) (groups l) r (shared_symbol f l shares)
    unfolding residue_of point_of
    located_is r g = record { at = λ p q. sym (k.first_at p q) ∙ g p q ∙ ap (ops.mul (point_of f l h helpers p r)) (k.zeroth_at p q) }

    is_located : (r : ℕ) → Located (shape_of f l) h (helper_at helpers) l.helpers (parity_racks l) (groups l) r (shared_symbol f l shares) → PointsAt f l h helpers zeroth first r (groups l)
    unfolding residue_of point_of
    is_located r g p q = k.first_at p q ∙ g.at p q ∙ ap (ops.mul (point_of f l h helpers p r)) (sym (k.zeroth_at p q))

    clean_is : AllZero f l zeroth first → Clean (shape_of f l) h (helper_at helpers) l.helpers (parity_racks l) (groups l) (shared_symbol f l shares)
    unfolding residue_of
    clean_is g = record { at = λ p w q v. go p q w v (ℕ_discrete w 0) }
      where
        go : (p : ℕ) → p < groups l → (w : ℕ) → w < 2 → Dec (w ≡ 0) → residue_of f l h helpers shares p w ≡ ops.zero
        go p q w v (yes e) = ap (residue_of f l h helpers shares p) e ∙ sym (k.zeroth_at p q) ∙ (g p q).0
        go p q w v (no e) = ap (residue_of f l h helpers shares p) (last w v e) ∙ sym (k.first_at p q) ∙ (g p q).1
          where
            last : (w : ℕ) → w < 2 → ¬ (w ≡ 0) → w ≡ 1
            last w v e = omega arith

    is_clean : Clean (shape_of f l) h (helper_at helpers) l.helpers (parity_racks l) (groups l) (shared_symbol f l shares) → AllZero f l zeroth first
    unfolding residue_of
    is_clean g p q = (k.zeroth_at p q ∙ g.at p 0 q (omega arith), k.first_at p q ∙ g.at p 1 q (omega arith))

    pub found_so : (r : ℕ) → PointedTo f l h helpers zeroth first r → Found f l h helpers shares r
    found_so r s = record {
      high = s.high;
      clean = λ e. clean_is (s.clean e);
      dirty = λ d g. s.dirty d (is_clean g);
      helper = λ q. located_is r (s.helper q);
      none = λ e i q g. s.none e i q (is_located i g);
    }
