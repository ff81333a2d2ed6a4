-- The sixteen sums of four rows.
-- Assumes nothing.
use mathlib.Core.Path.{◌≡◌, refl, sym, ap, ap₂, ◌∙◌, subst}
use mathlib.Core.List.{List}
use Prim.Native.Nat.{ℕ, ◌+◌, ◌-◌, ◌*◌, ◌/◌, ◌%◌, ◌<◌, ◌≤◌}
use native.Mathlib.Decide.{dec_lt, ℕ_discrete}
use native.Mathlib.Omega.{arith}
use lib.ListN.{length, get_or, set, length-set}
use lib.Seq.{get_or-set_same, get_or-set_other}
use Rattle.algebra.specs.Shape.{Field}
use Rattle.algebra.specs.Plain.{plus, Working}
use Rattle.algebra.proofs.Ring.{add_zero as plus-zero}
use Rattle.algebra.proofs.Plain.{laws, elem_plus, elem_zero}
use Rattle.batch_kernel.specs.Inner.{two_of, sum_of, Spots, Tabled}

module _ {A : Type 0} (f : Field A) (g : ℕ → A) (was : List ℕ) (to : ℕ) where
  spots_none : Spots f g was was to 0
  spots_none = record { long = refl; done = λ s h. absurd (omega arith); other = λ i d. refl }

  spots_more : (is : List ℕ) (n v i : ℕ) → Spots f g was is to n → i ≡ to + n * 128 → i < length was → f.coding.elem v ≡ g n → Spots f g was (set is i v) to (n + 1)
  spots_more is n v i r place h e = record {
    long = length-set is i v ∙ r.long;
    done = λ s l. go s l (ℕ_discrete s n);
    other = λ k d. get_or-set_other is i k v 0 (λ q. d n (omega arith) (omega arith)) ∙ r.other k (λ s l. d s (omega arith));
  }
    where
      inside : i < length is
      inside = let q = r.long in omega arith

      go : (s : ℕ) → s < n + 1 → Dec (s ≡ n) → f.coding.elem (get_or (set is i v) (to + s * 128) 0) ≡ g s
      go s l (yes q) = subst (λ (y : ℕ). f.coding.elem (get_or (set is i v) (to + y * 128) 0) ≡ g y) (sym q) (subst (λ (y : ℕ). f.coding.elem (get_or (set is i v) y 0) ≡ g n) place (ap f.coding.elem (get_or-set_same is i v 0 inside) ∙ e))
      go s l (no q) = ap f.coding.elem (get_or-set_other is i (to + s * 128) v 0 (λ p. q (omega arith))) ∙ r.done s (omega arith)

  pub spots_append : (h : ℕ → A) (mid is : List ℕ) (n m there : ℕ) → Spots f g was mid to n → Spots f h mid is there m → there ≡ to + n * 128 → ((s : ℕ) → s < m → h s ≡ g (n + s)) → Spots f g was is to (n + m)
  spots_append h mid is n m there r t place same = record {
    long = t.long ∙ r.long;
    done = λ s l. go s l (dec_lt s n);
    other = λ k d. t.other k (λ s l q. d (n + s) (omega arith) (omega arith)) ∙ r.other k (λ s l. d s (omega arith));
  }
    where
      go : (s : ℕ) → s < n + m → Dec (s < n) → f.coding.elem (get_or is (to + s * 128) 0) ≡ g s
      go s l (yes q) = ap f.coding.elem (t.other (to + s * 128) (λ v k p. omega arith)) ∙ r.done s q
      go s l (no q) =
          let spot : to + s * 128 ≡ there + (s - n) * 128 = omega arith in
          let index : n + (s - n) ≡ s = omega arith in
          ap (λ (y : ℕ). f.coding.elem (get_or is y 0)) spot ∙ t.done (s - n) (omega arith) ∙ same (s - n) (omega arith) ∙ ap g index

module _ {A : Type 0} {f : Field A} (W : Working f) where
  pub quarter_done : (tab : List ℕ) (to a b v p q r s : ℕ) → to + 384 < length tab → p ≡ plus f v a → q ≡ plus f v b → s ≡ plus f r b → r ≡ plus f v a →
      Spots f (λ n. f.ops.add (f.coding.elem v) (two_of f (f.coding.elem a) (f.coding.elem b) n)) tab (set (set (set (set tab to v) (to + 128) p) (to + 256) q) (to + 384) s) to 4
  unfolding two_of
  quarter_done tab to a b v p q r s h ep eq es er =
      spots_more f g tab to _ 3 s (to + 384) (spots_more f g tab to _ 2 q (to + 256) (spots_more f g tab to _ 1 p (to + 128) (spots_more f g tab to tab 0 v to (spots_none f g tab to)
      (omega arith) (omega arith) (sym (plus-zero f.ops (laws W) (f.coding.elem v)))) (omega arith) (omega arith) (ap f.coding.elem ep ∙ elem_plus W v a)) (omega arith) (omega arith)
      (ap f.coding.elem eq ∙ elem_plus W v b)) (omega arith) (omega arith)
      (ap f.coding.elem es ∙ elem_plus W r b ∙ ap (λ x. f.ops.add x (f.coding.elem b)) (ap f.coding.elem er ∙ elem_plus W v a) ∙ (laws W).add_assoc _ _ _)
    where
      g : ℕ → A
      g n = f.ops.add (f.coding.elem v) (two_of f (f.coding.elem a) (f.coding.elem b) n)

  -- a quarter is its part of all
  quarter_part : (a b c d : A) (n s v : ℕ) → s < 4 → f.coding.elem v ≡ two_of f c d n → f.ops.add (f.coding.elem v) (two_of f a b s) ≡ sum_of f a b c d (n * 4 + s)
  unfolding sum_of
  quarter_part a b c d n s v h e =
      let up : (n * 4 + s) / 4 ≡ n = omega arith in
      let down : (n * 4 + s) % 4 ≡ s = omega arith in
      ap₂ f.ops.add (e ∙ ap (two_of f c d) (sym up)) (ap (two_of f a b) (sym down))

  pub sixteen_done : (t0 t1 t2 t3 t4 : List ℕ) (to a b c d v : ℕ) → v ≡ plus f c d →
      Spots f (λ n. f.ops.add (f.coding.elem 0) (two_of f (f.coding.elem a) (f.coding.elem b) n)) t0 t1 to 4 →
      Spots f (λ n. f.ops.add (f.coding.elem c) (two_of f (f.coding.elem a) (f.coding.elem b) n)) t1 t2 (to + 512) 4 →
      Spots f (λ n. f.ops.add (f.coding.elem d) (two_of f (f.coding.elem a) (f.coding.elem b) n)) t2 t3 (to + 1024) 4 →
      Spots f (λ n. f.ops.add (f.coding.elem v) (two_of f (f.coding.elem a) (f.coding.elem b) n)) t3 t4 (to + 1536) 4 →
      Spots f (sum_of f (f.coding.elem a) (f.coding.elem b) (f.coding.elem c) (f.coding.elem d)) t0 t4 to 16
  unfolding two_of
  sixteen_done t0 t1 t2 t3 t4 to a b c d v e q0 q1 q2 q3 =
      spots_append f g t0 to _ t3 t4 12 4 (to + 1536) (spots_append f g t0 to _ t2 t3 8 4 (to + 1024) (spots_append f g t0 to _ t1 t2 4 4 (to + 512) (spots_append f g t0 to _ t0 t1 0 4 to (spots_none f g t0 to)
      q0 (omega arith) (λ s h. quarter_part _ _ _ _ 0 s 0 h (elem_zero W))) q1 (omega arith) (λ s h. quarter_part _ _ _ _ 1 s c h refl)) q2 (omega arith) (λ s h. quarter_part _ _ _ _ 2 s d h refl))
      q3 (omega arith) (λ s h. quarter_part _ _ _ _ 3 s v h (ap f.coding.elem e ∙ elem_plus W c d))
    where
      g : ℕ → A
      g = sum_of f (f.coding.elem a) (f.coding.elem b) (f.coding.elem c) (f.coding.elem d)

module _ {A : Type 0} (f : Field A) (src : List ℕ) (p0 p1 p2 p3 to : ℕ) (was : List ℕ) where
  pub tabled_more : (is next : List ℕ) (j w : ℕ) → j < w → w ≤ 128 → Tabled f src p0 p1 p2 p3 to j was is →
      Spots f (sum_of f (f.coding.elem (get_or src (p0 + j) 0)) (f.coding.elem (get_or src (p1 + j) 0)) (f.coding.elem (get_or src (p2 + j) 0)) (f.coding.elem (get_or src (p3 + j) 0))) is next (to + j) 16 →
      Tabled f src p0 p1 p2 p3 to (j + 1) was next
  tabled_more is next j w h narrow t r = record {
    long = r.long ∙ t.long;
    done = λ s i k l. go s i k l (ℕ_discrete i j);
    low = λ i k. r.other i (λ s l q. omega arith) ∙ t.low i k;
  }
    where
      go : (s i : ℕ) → s < 16 → i < j + 1 → Dec (i ≡ j) → f.coding.elem (get_or next (to + s * 128 + i) 0) ≡
          sum_of f (f.coding.elem (get_or src (p0 + i) 0)) (f.coding.elem (get_or src (p1 + i) 0)) (f.coding.elem (get_or src (p2 + i) 0)) (f.coding.elem (get_or src (p3 + i) 0)) s
      go s i k l (yes q) =
          subst (λ (y : ℕ). f.coding.elem (get_or next (to + s * 128 + y) 0) ≡
          sum_of f (f.coding.elem (get_or src (p0 + y) 0)) (f.coding.elem (get_or src (p1 + y) 0)) (f.coding.elem (get_or src (p2 + y) 0)) (f.coding.elem (get_or src (p3 + y) 0)) s) (sym q)
          (let spot : to + s * 128 + j ≡ to + j + s * 128 = omega arith in ap (λ (y : ℕ). f.coding.elem (get_or next y 0)) spot ∙ r.done s k)
      go s i k l (no q) = ap f.coding.elem (r.other (to + s * 128 + i) (λ v p e. omega arith)) ∙ t.done s i k (omega arith)
