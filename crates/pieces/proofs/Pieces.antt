-- A piece of one block more.
-- Assumes nothing.
use mathlib.Core.Path.{◌≡◌, refl, sym, ap, subst, fun_ext, ◌∙◌}
use mathlib.Core.List.{List}
use Prim.Native.Nat.{ℕ, ◌+◌, ◌*◌, ◌<◌, ◌≤◌}
use native.Mathlib.Decide.{dec_lt}
use native.Mathlib.Omega.{arith}
use lib.ListN.{length, get_or}
use Rattle.algebra.specs.Lagrange.{check}
use Rattle.algebra.specs.Shape.{Field}
use Rattle.algebra.specs.Points.{place}
use Rattle.algebra.proofs.Erasure.{fill_values}
use Rattle.layout.specs.declared.Layout.{Layout}
use Rattle.layout.specs.Layout.{layers}
use Rattle.codeword.specs.Codeword.{shape_of}
use Rattle.rule.specs.Rule.{group_at}
use Rattle.rule.specs.Lost.{first_lost, lost_place, with_spare, Ruled, Piece}
use Rattle.pieces.specs.Inner.{Piecing}

module _ {A : Type 0} (f : Field A) (l : Layout) (lost helpers shares host : List ℕ) where
  -- what the rule fixed stays so where the layers of its group stay
  pub ruled_kept : (p : ℕ) (old new : List ℕ) → ((i : ℕ) → i < length lost → (j : ℕ) → j < layers l → group_at l (first_lost l lost) j ≡ p →
      get_or new (i * layers l + j) 0 ≡ get_or old (i * layers l + j) 0) →
      Ruled f l lost helpers shares host p old → Ruled f l lost helpers shares host p new
  unfolding with_spare
  ruled_kept p old new same r = record {
    sums = r.sums;
    solution = r.solution;
    holds = λ j h e m hm.
        ap (λ y. check f.ops (place (shape_of f l)) l.size y m)
        (fun_ext (λ g. fill_values (lost_place l lost) _ _ _ (length lost) g (λ i k. ap f.coding.elem (same i k j h e)))) ∙ r.holds j h e m hm;
    symbols = λ i k j h e. subst (λ n. n < f.coding.size) (sym (same i k j h e)) (r.symbols i k j h e);
  }

  pub piece_none : (first : ℕ) (old : List ℕ) → Piece f l lost helpers shares host first 0 old old
  piece_none first old = record { long = refl; done = λ p h k. absurd (omega arith); kept = λ i k j h out. refl }

  pub piece_more : (first k w : ℕ) (old mid new : List ℕ) → Piece f l lost helpers shares host first k old mid → Piece f l lost helpers shares host (first + k) w mid new →
      Piece f l lost helpers shares host first (k + w) old new
  piece_more first k w old mid new q m = record {
    long = m.long ∙ q.long;
    done = λ p h g. go p h g (dec_lt p (first + k));
    kept = λ i t j h out. m.kept i t j h (λ z. out (omega arith, omega arith)) ∙ q.kept i t j h (λ z. out (omega arith, omega arith));
  }
    where
      go : (p : ℕ) → first ≤ p → p < first + (k + w) → Dec (p < first + k) → Ruled f l lost helpers shares host p new
      go p h g (yes b) = ruled_kept p mid new (λ i t j y e. m.kept i t j y (λ z. omega arith)) (q.done p h b)
      go p h g (no d) = m.done p (omega arith) (omega arith)

-- what the next block is told
pub piecing_next : (N : ℕ) (l : Layout) (lost helpers shares host : List ℕ) (first count k w : ℕ) (old spare : List ℕ) →
    Piecing N l lost helpers shares host first count old → k + w ≤ count →
    length spare ≡ length old → Piecing N l lost helpers shares host (first + k) w spare
piecing_next N l lost helpers shares host first count k w old spare q h e = record {
  adm = q.adm;
  losses = q.losses;
  shares_long = q.shares_long;
  host_long = q.host_long;
  spare_long = e ∙ q.spare_long;
  within = let t = q.within in omega arith;
}
