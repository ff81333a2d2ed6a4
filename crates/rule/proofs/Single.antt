-- For one lost tray the rule for several is document 01's, so that with e = 1 the bytes are those of document 01: the lost symbol is the host rack sum less the
-- rack's other symbols.
-- Assumes nothing.
use mathlib.Core.Path.{◌≡◌, refl, sym, ◌∙◌, ap, ap₂, subst}
use mathlib.Core.Bool.{Bool, true, false}
use mathlib.Core.List.{List, [], ◌∷◌}
use Prim.Native.Nat.{ℕ, ◌+◌, ◌*◌, ◌/◌, ◌%◌, ◌<◌}
use native.Mathlib.Nat.{mod-lt, zero-mul, one-mul}
use native.Mathlib.Omega.{arith}
use lib.Dec.{eqb}
use lib.ListN.{length, get_or}
use lib.Seq.{ext_get_or}
use Rattle.algebra.specs.Field.{Ops, Laws}
use Rattle.algebra.specs.Lagrange.{check}
use Rattle.algebra.specs.Erasure.{choose, fill}
use Rattle.algebra.specs.Shape.{Field}
use Rattle.algebra.specs.Points.{place}
use Rattle.algebra.specs.Cabinet.{Solution}
use Rattle.algebra.proofs.Ring.{ring}
use Rattle.algebra.proofs.Sum.{sum_congr}
use Rattle.algebra.proofs.Cabinet.{choose_same}
use Rattle.layout.specs.declared.Layout.{Layout}
use Rattle.layout.specs.Layout.{trays, layers, groups, parity_racks}
use Rattle.codeword.specs.Codeword.{shape_of, Usable, Solvable}
use Rattle.codeword.proofs.Buffers.{layers_pos}
use Rattle.rule.specs.Rule.{tray_part, Helpers, group_at, shared_symbol, sound_sum, RuledOne}
use Rattle.rule.specs.Lost.{lost_place, lost_part, Losses, sent_symbol, with_spare, Ruled, Of}
use Rattle.rule.proofs.Racks.{tray_at, tray_long, no_weight, sum_out}
use Rattle.rule.proofs.Lost.{rule_one}
use Rattle.rule.proofs.Exact.{lost_at, lost_long, rule_exact}

choose_twice : {A : Type 0} (b : Bool) (z a c : A) → choose b z (choose b a c) ≡ choose b z c
unfolding choose
choose_twice true z a c = refl
choose_twice false z a c = refl

less : {A : Type 0} (o : Ops A) (L : Laws o) (a b s : A) → o.add a b ≡ s → a ≡ o.add s (o.neg b)
less o L a b s e = back ∙ ap (λ y. o.add y (o.neg b)) e
  where
    back : a ≡ o.add (o.add a b) (o.neg b)
    back = simp (ring, L)

back : {A : Type 0} (o : Ops A) (L : Laws o) (s b : A) → o.add (o.add s (o.neg b)) b ≡ s
back o L s b = simp (ring, L)

-- the only lost tray's symbols lie first
pub front : (n j : ℕ) → 0 * n + j ≡ j
front n j = omega (arith, zero-mul n)

pub zero_is : (m : ℕ) → m < 1 → 0 ≡ m
zero_is m k = omega arith

module _ {A : Type 0} (f : Field A) (l : Layout) (ok : Usable f l) (x : ℕ) where
  -- one lost tray's share symbols lie as document 01 says
  pub sent_is : (shares : List ℕ) (p k : ℕ) → sent_symbol f l 1 shares 0 p k ≡ shared_symbol f l shares p k
  unfolding sent_symbol shared_symbol
  sent_is shares p k = ap (λ n. f.coding.elem (get_or shares (n * groups l + p) 0)) (omega arith)

  with_spare_sum : (spare host : List ℕ) (j : ℕ) → check f.ops (place (shape_of f l)) l.size (with_spare f l (x ∷ []) spare host j) 0 ≡
      f.ops.add (f.coding.elem (get_or spare j 0)) (sound_sum f l x host j)
  unfolding check with_spare fill lost_place sound_sum
  with_spare_sum spare host j =
      sum_congr f.ops l.size _ _ (λ g h. no_weight f.ops ok.field.laws _ _)
      ∙ sum_out f.ops ok.field.laws l.size (x % l.size) _ (mod-lt x ok.fits.some_places)
      ∙ ap₂ f.ops.add (choose_same (x % l.size) (x % l.size) _ _ refl ∙ ap (λ n. f.coding.elem (get_or spare n 0)) (front (layers l) j))
      (sum_congr f.ops l.size _ _ (λ g h. choose_twice (eqb g (x % l.size)) _ _ _))

  -- what the rule for several fixes for one tray is what document 01's rule fixes, and back
  pub one_lost : (helpers shares host : List ℕ) (p : ℕ) (spare : List ℕ) → Ruled f l (x ∷ []) helpers shares host p spare → RuledOne f l x helpers shares host p spare
  one_lost helpers shares host p spare r = record {
    sums = r.sums 0;
    solution = record { given = λ k h. (r.solution 0 (omega arith)).given k h ∙ sent_is shares p k; checks = (r.solution 0 (omega arith)).checks };
    holds = λ j h e.
        sym (ok.field.coded.val_elem _ (subst (λ n. get_or spare n 0 < f.coding.size) (front (layers l) j) (r.symbols 0 (omega arith) j h e)))
        ∙ ap f.coding.val (less f.ops ok.field.laws _ _ _ (sym (with_spare_sum spare host j) ∙ r.holds j h e 0 (omega arith)));
  }

  pub lost_one : (helpers shares host : List ℕ) (p : ℕ) (spare : List ℕ) → RuledOne f l x helpers shares host p spare → Ruled f l (x ∷ []) helpers shares host p spare
  lost_one helpers shares host p spare r = record {
    sums = λ m. r.sums;
    solution = λ m k. subst (λ n. Solution (shape_of f l) n (x / l.size) p (λ k. get_or helpers k 0) l.helpers (parity_racks l) (sent_symbol f l 1 shares n p) r.sums) (zero_is m k)
        (record { given = λ k h. r.solution.given k h ∙ sym (sent_is shares p k); checks = r.solution.checks });
    holds = λ j h e m k. subst (λ n. check f.ops (place (shape_of f l)) l.size (with_spare f l (x ∷ []) spare host j) n ≡ r.sums (x / l.size) j) (zero_is m k)
        (with_spare_sum spare host j ∙ ap (λ y. f.ops.add y (sound_sum f l x host j)) (ap f.coding.elem (r.holds j h e) ∙ ok.field.coded.elem_val _)
        ∙ back f.ops ok.field.laws _ _);
    symbols = λ i k j h e. subst (λ n. get_or spare (n * layers l + j) 0 < f.coding.size) (zero_is i k)
        (subst (λ n. get_or spare n 0 < f.coding.size) (sym (front (layers l) j)) (subst (λ n. n < f.coding.size) (sym (r.holds j h e)) (ok.field.coded.val_below _)));
  }

module _ {A : Type 0} (f : Field A) (l : Layout) (ok : Solvable f l) (x : ℕ) (helpers : List ℕ) (help : Helpers l x helpers) where
  -- one lost tray is never too many
  pub one_loss : Losses l (x ∷ []) helpers
  one_loss = record {
    some = omega arith;
    few = omega (arith, mod-lt l.dimension ok.usable.fits.some_places);
    one_rack_lem = λ i k. ap (λ n. get_or (x ∷ []) n 0 / l.size) (sym (zero_is i k));
    rising = λ i k. absurd (omega arith);
    help = help;
  }

  -- with e = 1 the bytes are those of document 01
  pub one_same : (shares host : List ℕ) (p : ℕ) → p < groups l → (spare spare' : List ℕ) →
      Ruled f l (x ∷ []) helpers shares host p spare → RuledOne f l x helpers shares host p spare' →
      (j : ℕ) → j < layers l → group_at l x j ≡ p → get_or spare j 0 ≡ get_or spare' j 0
  one_same shares host p inside spare spare' r s j h e =
      let one = rule_one f l ok (x ∷ []) helpers one_loss shares host in
      subst (λ n. get_or spare n 0 ≡ get_or spare' n 0) (front (layers l) j)
      (one.only p inside spare r 0 (omega arith) j h e ∙ sym (one.only p inside spare' (lost_one f l ok.usable x helpers shares host p spare' s) 0 (omega arith) j h e))

  -- the lost part of a codeword is the lost tray
  pub one_part : (c : List ℕ) → length c ≡ trays l * layers l → lost_part l (x ∷ []) c ≡ tray_part l c x
  one_part c long =
      ext_get_or 0 (lost_part l (x ∷ []) c) (tray_part l c x)
      (lost_long l (x ∷ []) c ∙ one-mul (layers l) ∙ sym (tray_long l c (trays l) x (layers_pos f l ok.usable) long help.lost_in))
      (λ j h.
      let k : j < layers l = rw (lost_long l (x ∷ []) c ∙ one-mul (layers l)) at h in
      ap (λ n. get_or (lost_part l (x ∷ []) c) n 0) (sym (front (layers l) j)) ∙ lost_at l (x ∷ []) c 0 j (omega arith) k ∙ sym (tray_at l c x j k))

  -- on a codeword's shares and sound trays the rule gives the codeword's lost tray
  pub one_exact : (shares host c : List ℕ) → Of f l (x ∷ []) helpers shares host c → (p : ℕ) → p < groups l → (spare : List ℕ) → RuledOne f l x helpers shares host p spare →
      (j : ℕ) → j < layers l → group_at l x j ≡ p → get_or spare j 0 ≡ get_or (tray_part l c x) j 0
  one_exact shares host c of p inside spare r j h e =
      subst (λ n. get_or spare n 0 ≡ get_or (lost_part l (x ∷ []) c) n 0) (front (layers l) j)
      (rule_exact f l ok (x ∷ []) helpers one_loss shares host c of p inside spare (lost_one f l ok.usable x helpers shares host p spare r) 0 (omega arith) j h e)
      ∙ ap (λ t. get_or t j 0) (one_part c of.codeword.long)
