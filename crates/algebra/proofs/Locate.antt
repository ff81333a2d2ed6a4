-- With two helpers more than a repair needs, one wrong share is found: the checks of a group hold exactly when its two residues are zero, changing one helper's
-- share makes them hold exactly when the second residue is the helper's point times the first, and there is only one such change.
-- Assumes nothing.
use mathlib.Core.Path.{◌≡◌, refl, sym, ◌∙◌, ap, ap₂, subst}
use Prim.Native.Nat.{ℕ, ◌+◌, ◌-◌, ◌*◌, ◌^◌, ◌<◌}
use native.Mathlib.Decide.{ℕ_discrete, dec_lt}
use native.Mathlib.Omega.{arith}
use Rattle.algebra.specs.Sum.{pow}
use Rattle.algebra.specs.Erasure.{Places}
use Rattle.algebra.specs.Shape.{Shape, Fits}
use Rattle.algebra.specs.Points.{rack_sum}
use Rattle.algebra.specs.Layers.{digit, layer_of}
use Rattle.algebra.specs.Cabinet.{Rising, Codeword, share_symbol, Helping, Solution}
use Rattle.algebra.specs.Group.{free, group_point, group_word}
use Rattle.algebra.specs.Repair.{helper_place}
use Rattle.algebra.specs.Consistent.{Consistent, AlikeBut, Uncorrectable}
use Rattle.algebra.specs.Locate.{helper_point, unknown_point, gap, residue_at, Clean, Located, corrected}
use Rattle.algebra.proofs.Ring.{ring, mul_zero, one_mul, eq_of_sub, no_zero_divisor, mul_cancel, mul_inv_left}
use Rattle.algebra.proofs.Pow.{pow_zero, pow_one}
use Rattle.algebra.proofs.Layers.{digit_below}
use Rattle.algebra.proofs.Free.{free_places, free_other, cover}
use Rattle.algebra.proofs.Group.{group_distinct}
use Rattle.algebra.proofs.Repair.{helpers_rising, rising_places}
use Rattle.algebra.proofs.Cabinet.{choose_same, choose_other, witness, group_solution, group_meets, group_shares, solved_to, solution_word, solution_sent, codeword_solution}
use Rattle.algebra.proofs.Residue.{gaps_not, meets_residue, residue_meets, residue_changed}

-- m unknowns and m + 2 checks
module _ {A : Type 0} (sh : Shape A) (fits : Fits sh) (h : ℕ) (helper : ℕ → ℕ) (d m : ℕ) (helping : Helping sh h helper d m) where
  open sh use {ops as o, racks as B, size as u, digits as s}
  open fits use {laws as L, some_digits as pos}
  open helping use {host_in as host, rising, other, total}
  open sh.ops use {add as ◌⊕◌, mul as ◌⊗◌, neg, inv, zero as 𝟘, one as 𝟙}

  infixl 60 ◌⊕◌
  infixl 70 ◌⊗◌
  K : ℕ → ℕ
  K = helper_place s h helper

  K-rising : Rising K d (s + (B - 1))
  unfolding K
  K-rising = helpers_rising s B h helper d host rising other

  K-places : Places K d (s + (B - 1))
  K-places = rising_places K d (s + (B - 1)) K-rising

  U-places : Places (free K d) m (s + (B - 1))
  U-places = subst (λ n. Places (free K d) m n) total (free_places K m d)

  covered : (P : Type 0) (x : ℕ) → x < s + (B - 1) → ((k : ℕ) → k < d → x ≡ K k → P) → ((i : ℕ) → i < m → x ≡ free K d i → P) → P
  covered P x l = cover K P m d x (subst (λ n. Rising K d n) (sym total) K-rising) (omega arith)

  plain : (x a : A) → pow o x 0 ⊗ a ≡ a
  plain x a = ap (λ e. e ⊗ a) (pow_zero o x) ∙ one_mul o L a

  module _ (p : ℕ) (group : p < sh.digits ^ (sh.racks - 1)) where
    below : (i : ℕ) → i < B → digit s (layer_of s h p 0) i < s
    below i l = digit_below s pos (layer_of s h p 0) i

    -- the points of the helpers and of the unknowns differ
    pub helpers_apart : (j k : ℕ) → j < d → k < d → helper_point sh h helper d m p j ≡ helper_point sh h helper d m p k → j ≡ k
    unfolding helper_point K
    helpers_apart j k hj hk e =
        K-places.apart j k hj hk ((group_distinct sh fits h host (digit s (layer_of s h p 0)) below).apart (K j) (K k) (K-places.inside j hj) (K-places.inside k hk) e)

    pub gap_not_zero : (k : ℕ) → k < d → ¬ (gap sh h helper d m p k ≡ 𝟘)
    unfolding gap helper_point unknown_point K
    gap_not_zero k l = gaps_not o L _ m _ (λ i q e. free_other K d (s + (B - 1)) i K-rising k l (sym (
        (group_distinct sh fits h host (digit s (layer_of s h p 0)) below).apart (K k) (free K d i) (K-places.inside k l) (U-places.inside i q) e)))

    -- the checks hold exactly when both residues are zero
    pub residue_zero : (share : ℕ → A) (ρ : ℕ → ℕ → A) → Solution sh 0 h p helper d (m + 2) share ρ → (w : ℕ) → w < 2 → residue_at sh h helper d m p share w ≡ 𝟘
    unfolding residue_at helper_point unknown_point K
    residue_zero share ρ sol w l =
        meets_residue o L (group_point sh h (digit s (layer_of s h p 0))) (s + (B - 1)) K d (free K d) m K-places covered share
        (group_word sh h (digit s (layer_of s h p 0)) 0 (λ b i. ρ i (layer_of s h p b)))
        (λ k q. solution_sent sh fits h host p group 0 helper d (m + 2) share ρ sol k q (other k q) ∙ plain _ (share k))
        (solution_word sh fits h host p group 0 helper d (m + 2) share ρ sol) w l

    -- the rack sums by the first m checks
    pub sums_of : (ℕ → A) → ℕ → ℕ → A
    sums_of share = witness sh fits h host p group 0 helper d m helping share

    pub zero_residue : (share : ℕ → A) → residue_at sh h helper d m p share 0 ≡ 𝟘 → residue_at sh h helper d m p share 1 ≡ 𝟘 →
        Solution sh 0 h p helper d (m + 2) share (sums_of share)
    unfolding residue_at helper_point unknown_point K sums_of
    zero_residue share e f = solved_to sh fits h host p group 0 helper d m helping share (m + 2)
        (residue_meets o L (group_point sh h (digit s (layer_of s h p 0))) (s + (B - 1)) K d (free K d) m K-places covered share
        (group_solution sh fits h host p group 0 helper d m helping share)
        (λ k q. group_shares sh fits h host p group 0 helper d m helping share k q ∙ plain _ (share k))
        (group_meets sh fits h host p group 0 helper d m helping share) e f)

    -- a changed share in the residues
    changed : (v v' : ℕ → A) (k : ℕ) → k < d → ((i : ℕ) → i < d → ¬ (i ≡ k) → v i ≡ v' i) → (w : ℕ) →
        residue_at sh h helper d m p v' w ≡ residue_at sh h helper d m p v w ⊕ pow o (helper_point sh h helper d m p k) w ⊗ (gap sh h helper d m p k ⊗ (v' k ⊕ neg (v k)))
    unfolding residue_at gap
    changed v v' k l alike w = residue_changed o L (helper_point sh h helper d m p) d (unknown_point sh h helper d m p) m v v' k l alike w

  opposite : (r e : A) → r ⊕ e ≡ 𝟘 → e ≡ neg r
  opposite r e z = start r e ∙ ap (λ y. neg r ⊕ y) z ∙ end (neg r)
    where
      start : (r e : A) → e ≡ neg r ⊕ (r ⊕ e)
      start r e = simp (ring, L)

      end : (a : A) → a ⊕ 𝟘 ≡ a
      end a = simp (ring, L)

  from_opposite : (r x a : A) → r ⊕ x ⊗ neg a ≡ 𝟘 → r ≡ x ⊗ a
  from_opposite r x a z = eq_of_sub o L r (x ⊗ a) (ap (λ e. r ⊕ e) (same x a) ∙ z)
    where
      same : (x a : A) → neg (x ⊗ a) ≡ x ⊗ neg a
      same x a = simp (ring, L)

  cancelled : (x a : A) → x ⊗ a ⊕ x ⊗ neg a ≡ 𝟘
  cancelled x a = simp (ring, L)

  gone : (a : A) → a ⊕ neg a ≡ 𝟘
  gone a = simp (ring, L)

  moved : (a b : A) → a ⊕ neg b ⊕ neg a ≡ neg b
  moved a b = simp (ring, L)

  out : (g y : A) → g ⊗ neg y ≡ neg (g ⊗ y)
  out g y = simp (ring, L)

  two_points : (x y r t : A) → t ≡ x ⊗ r → t ≡ y ⊗ r → (x ⊕ neg y) ⊗ r ≡ 𝟘
  two_points x y r t e f = apart x y r ∙ ap (λ z. z ⊕ neg (y ⊗ r)) (sym e ∙ f) ∙ gone (y ⊗ r)
    where
      apart : (x y r : A) → (x ⊕ neg y) ⊗ r ≡ x ⊗ r ⊕ neg (y ⊗ r)
      apart x y r = simp (ring, L)

  -- over all groups
  module _ (G : ℕ) (within : (p : ℕ) → p < G → p < sh.digits ^ (sh.racks - 1)) where
    pub consistent_clean : (share : ℕ → ℕ → A) → Consistent sh h helper d (m + 2) G share → Clean sh h helper d m G share
    consistent_clean share g = record { at = λ p w l k. residue_zero p (within p l) (share p) (g.sums p) (g.solution p l) w k }

    pub clean_consistent : (share : ℕ → ℕ → A) → Clean sh h helper d m G share → Consistent sh h helper d (m + 2) G share
    clean_consistent share g = record {
      sums = λ p. pick p (dec_lt p G) (share p);
      solution = λ p l. go p l (dec_lt p G);
    }
      where
        pick : (p : ℕ) → Dec (p < G) → (ℕ → A) → ℕ → ℕ → A
        pick p (yes l) v = sums_of p (within p l) v
        pick p (no l) v = λ i j. 𝟘

        go : (p : ℕ) → p < G → (l : Dec (p < G)) → Solution sh 0 h p helper d (m + 2) (share p) (pick p l (share p))
        go p k (yes l) = zero_residue p (within p l) (share p) (g.at p 0 l (omega arith)) (g.at p 1 l (omega arith))
        go p k (no l) = absurd (l k)

    module _ (share share' : ℕ → ℕ → A) (k : ℕ) (inside : k < d) (alike : AlikeBut sh h helper d (m + 2) G k share share') (good : Consistent sh h helper d (m + 2) G share') where
      -- the change is the residue 0 over the product at the point
      pub change_is : (p : ℕ) → p < G → gap sh h helper d m p k ⊗ (share' p k ⊕ neg (share p k)) ≡ neg (residue_at sh h helper d m p (share p) 0)
      change_is p l = opposite _ _ (
          ap (λ e. residue_at sh h helper d m p (share p) 0 ⊕ e) (sym (plain _ _))
          ∙ sym (changed p (within p l) (share p) (share' p) k inside (λ i q e. alike.at p i l q e) 0)
          ∙ (consistent_clean share' good).at p 0 l (omega arith))

      pub consistent_located : Located sh h helper d m G k share
      consistent_located = record {
        at = λ p l. from_opposite _ _ _ (
            ap (λ e. residue_at sh h helper d m p (share p) 1 ⊕ helper_point sh h helper d m p k ⊗ e) (sym (change_is p l))
            ∙ ap (λ x. residue_at sh h helper d m p (share p) 1 ⊕ x ⊗ (gap sh h helper d m p k ⊗ (share' p k ⊕ neg (share p k)))) (sym (pow_one o L (helper_point sh h helper d m p k)))
            ∙ sym (changed p (within p l) (share p) (share' p) k inside (λ i q e. alike.at p i l q e) 1)
            ∙ (consistent_clean share' good).at p 1 l (omega arith));
      }

    corrected_at : (k : ℕ) (share : ℕ → ℕ → A) (p : ℕ) →
        corrected sh h helper d m G k share p k ≡ share p k ⊕ neg (inv (gap sh h helper d m p k) ⊗ residue_at sh h helper d m p (share p) 0)
    unfolding corrected
    corrected_at k share p = choose_same k k _ _ refl

    corrected_else : (k : ℕ) (share : ℕ → ℕ → A) (p i : ℕ) → ¬ (i ≡ k) → corrected sh h helper d m G k share p i ≡ share p i
    unfolding corrected
    corrected_else k share p i e = choose_other i k _ _ e

    pub corrected_alike : (k : ℕ) (share : ℕ → ℕ → A) → AlikeBut sh h helper d (m + 2) G k share (corrected sh h helper d m G k share)
    corrected_alike k share = record { at = λ p i l q e. sym (corrected_else k share p i e) }

    -- where the residues point to a helper, changing its share makes the checks hold
    pub located_consistent : (k : ℕ) (share : ℕ → ℕ → A) → k < d → Located sh h helper d m G k share → Consistent sh h helper d (m + 2) G (corrected sh h helper d m G k share)
    located_consistent k share inside found = clean_consistent (corrected sh h helper d m G k share) (record { at = λ p w l q. go p l w q (ℕ_discrete w 0) })
      where
        g : ℕ → A
        g p = gap sh h helper d m p k

        r : ℕ → ℕ → A
        r p w = residue_at sh h helper d m p (share p) w

        less : (p : ℕ) → p < G → g p ⊗ (corrected sh h helper d m G k share p k ⊕ neg (share p k)) ≡ neg (r p 0)
        less p l =
            ap (λ e. g p ⊗ e) (ap (λ e. e ⊕ neg (share p k)) (corrected_at k share p) ∙ moved (share p k) (inv (g p) ⊗ r p 0))
            ∙ out (g p) (inv (g p) ⊗ r p 0) ∙ ap neg (mul_inv_left o L (g p) (r p 0) (gap_not_zero p (within p l) k inside))

        now : (p : ℕ) → p < G → (w : ℕ) → residue_at sh h helper d m p (corrected sh h helper d m G k share p) w ≡ r p w ⊕ pow o (helper_point sh h helper d m p k) w ⊗ neg (r p 0)
        now p l w =
            changed p (within p l) (share p) (corrected sh h helper d m G k share p) k inside (λ i q e. sym (corrected_else k share p i e)) w
            ∙ ap (λ e. r p w ⊕ pow o (helper_point sh h helper d m p k) w ⊗ e) (less p l)

        go : (p : ℕ) → p < G → (w : ℕ) → w < 2 → Dec (w ≡ 0) → residue_at sh h helper d m p (corrected sh h helper d m G k share p) w ≡ 𝟘
        go p l w q (yes e) =
            ap (residue_at sh h helper d m p (corrected sh h helper d m G k share p)) e ∙ now p l 0
            ∙ ap (λ x. r p 0 ⊕ x) (plain _ (neg (r p 0))) ∙ gone (r p 0)
        go p l w q (no e) =
            ap (residue_at sh h helper d m p (corrected sh h helper d m G k share p)) (last w q e) ∙ now p l 1
            ∙ ap₂ (λ x y. x ⊕ y ⊗ neg (r p 0)) (found.at p l) (pow_one o L (helper_point sh h helper d m p k))
            ∙ cancelled (helper_point sh h helper d m p k) (r p 0)
          where
            last : (w : ℕ) → w < 2 → ¬ (w ≡ 0) → w ≡ 1
            last w q e = omega arith

    -- they cannot point to two, unless the checks hold
    pub two_located : (share : ℕ → ℕ → A) (j k : ℕ) → j < d → k < d → ¬ (j ≡ k) → Located sh h helper d m G j share → Located sh h helper d m G k share → Clean sh h helper d m G share
    two_located share j k hj hk differ a b = record { at = λ p w l q. go p l w q (ℕ_discrete w 0) }
      where
        first : (p : ℕ) → p < G → residue_at sh h helper d m p (share p) 0 ≡ 𝟘
        first p l =
            no_zero_divisor o L (helper_point sh h helper d m p j ⊕ neg (helper_point sh h helper d m p k)) (residue_at sh h helper d m p (share p) 0)
            (λ e. differ (helpers_apart p (within p l) j k hj hk (eq_of_sub o L _ _ e)))
            (two_points _ _ _ _ (a.at p l) (b.at p l))

        go : (p : ℕ) → p < G → (w : ℕ) → w < 2 → Dec (w ≡ 0) → residue_at sh h helper d m p (share p) w ≡ 𝟘
        go p l w q (yes e) = ap (residue_at sh h helper d m p (share p)) e ∙ first p l
        go p l w q (no e) =
            ap (residue_at sh h helper d m p (share p)) (last w q e) ∙ a.at p l ∙ ap (λ x. helper_point sh h helper d m p j ⊗ x) (first p l) ∙ mul_zero o L _
          where
            last : (w : ℕ) → w < 2 → ¬ (w ≡ 0) → w ≡ 1
            last w q e = omega arith

    cancel_sub : (g a b c : A) → ¬ (g ≡ 𝟘) → g ⊗ (a ⊕ neg c) ≡ g ⊗ (b ⊕ neg c) → a ≡ b
    cancel_sub g a b c n e = back a c ∙ ap (λ y. y ⊕ c) (mul_cancel o L g (a ⊕ neg c) (b ⊕ neg c) n e) ∙ sym (back b c)
      where
        back : (a c : A) → a ≡ a ⊕ neg c ⊕ c
        back a c = simp (ring, L)

    -- changes of one helper's share that make the checks hold are the same
    same_helper : (share one two : ℕ → ℕ → A) (k : ℕ) → k < d → AlikeBut sh h helper d (m + 2) G k share one → AlikeBut sh h helper d (m + 2) G k share two →
        Consistent sh h helper d (m + 2) G one → Consistent sh h helper d (m + 2) G two → (p i : ℕ) → p < G → i < d → one p i ≡ two p i
    same_helper share one two k inside a b f g p i l q = go (ℕ_discrete i k)
      where
        go : Dec (i ≡ k) → one p i ≡ two p i
        go (yes e) =
            ap (one p) e
            ∙ cancel_sub (gap sh h helper d m p k) (one p k) (two p k) (share p k) (gap_not_zero p (within p l) k inside)
            (change_is share one k inside a f p l ∙ sym (change_is share two k inside b g p l))
            ∙ ap (two p) (sym e)
        go (no e) = sym (a.at p i l q e) ∙ b.at p i l q e

    -- shares for which the checks hold differ in at least three helpers' shares, or in none
    pub correction_unique : (share one two : ℕ → ℕ → A) (j k : ℕ) → j < d → k < d → AlikeBut sh h helper d (m + 2) G j share one → AlikeBut sh h helper d (m + 2) G k share two →
        Consistent sh h helper d (m + 2) G one → Consistent sh h helper d (m + 2) G two → (p i : ℕ) → p < G → i < d → one p i ≡ two p i
    correction_unique share one two j k hj hk a b f g p i l q = go (ℕ_discrete j k)
      where
        itself : (x : ℕ) → AlikeBut sh h helper d (m + 2) G x share share
        itself x = record { at = λ p i l q e. refl }

        go : Dec (j ≡ k) → one p i ≡ two p i
        go (yes e) = same_helper share one two j hj a (subst (λ x. AlikeBut sh h helper d (m + 2) G x share two) (sym e) b) f g p i l q
        go (no e) =
            let held = clean_consistent share (two_located share j k hj hk e (consistent_located share one j hj a f) (consistent_located share two k hk b g)) in
            same_helper share one share j hj a (itself j) f held p i l q ∙ same_helper share share two k hk (itself k) b held g p i l q

    -- no helper is pointed to: refusal 14
    pub uncorrectable : (share : ℕ → ℕ → A) → ¬ (Clean sh h helper d m G share) → ((k : ℕ) → k < d → ¬ (Located sh h helper d m G k share)) → Uncorrectable sh h helper d (m + 2) G share
    uncorrectable share dirty none = record {
      broken = λ g. dirty (consistent_clean share g);
      changed = λ k l share' alike g. none k l (consistent_located share share' k l alike g);
    }

    -- the checks hold for the shares of a codeword
    pub codeword_consistent : (r : ℕ) → ((w : ℕ) → w < m + 2 → u * w + 0 < r) → (c : ℕ → ℕ → A) → Codeword sh r c →
        Consistent sh h helper d (m + 2) G (λ p k. share_symbol sh 0 h c (helper k) p)
    codeword_consistent r enough c good = record {
      sums = λ p i j. rack_sum sh (λ x. c x j) 0 i;
      solution = λ p l. codeword_solution sh fits h host p (within p l) 0 helper d (m + 2) r enough c good;
    }
