-- The checks summed over a group have one solution for any shares, and the formula gives its host rack sums.
-- Assumes nothing.
use mathlib.Core.Path.{◌≡◌, refl, sym, ◌∙◌, ap, subst}
use Prim.Native.Nat.{ℕ, zero, suc, ◌+◌, ◌-◌, ◌/◌, ◌<◌}
use native.Mathlib.Nat.{mul-le-mul, le-mul_of_pos_right}
use native.Mathlib.Decide.{dec_lt}
use native.Mathlib.Omega.{arith}
use Rattle.algebra.specs.Field.{Ops, Laws}
use Rattle.algebra.specs.Sum.{sum, pow}
use Rattle.algebra.specs.Erasure.{Places, Meets, zeros, recover}
use Rattle.algebra.specs.Shape.{Shape, Fits}
use Rattle.algebra.specs.Points.{point, rack_check}
use Rattle.algebra.specs.Cabinet.{Rising, Helping}
use Rattle.algebra.specs.Group.{unskip, free, digits_at, group_point, group_word}
use Rattle.algebra.specs.Repair.{helper_place, known, host_sum}
use Rattle.algebra.proofs.Ring.{mul_inv_left, mul_cancel, zero_mul}
use Rattle.algebra.proofs.Pow.{pow_suc, pow_not_zero}
use Rattle.algebra.proofs.Erasure.{fill_at, fill_outside, fill_values, erased_congr, recovered, recovered_only}
use Rattle.algebra.proofs.Skip.{unskip_low, unskip_high, skip_unskip, join_low, join_add}
use Rattle.algebra.proofs.Free.{unskip_below, free_places, free_low, free_other, cover}
use Rattle.algebra.proofs.Group.{group_check, group_distinct}

-- the places of rising racks other than h are rising
unskip_up : (h x y : ℕ) → x < y → ¬ (x ≡ h) → ¬ (y ≡ h) → unskip h x < unskip h y
unskip_up h x y l a b = go (dec_lt x h) (dec_lt y h)
  where
    go : Dec (x < h) → Dec (y < h) → unskip h x < unskip h y
    go (yes p) (yes q) = rw (unskip_low h x p, unskip_low h y q) l
    go (yes p) (no q) = rw (unskip_low h x p, unskip_high h y (omega arith)) (omega arith)
    go (no p) (yes q) = absurd (omega arith)
    go (no p) (no q) = rw (unskip_high h x (omega arith), unskip_high h y (omega arith)) (omega arith)

pub helpers_rising : (s B h : ℕ) (helper : ℕ → ℕ) (d : ℕ) → h < B → Rising helper d B → ((k : ℕ) → k < d → ¬ (helper k ≡ h)) →
    Rising (helper_place s h helper) d (s + (B - 1))
unfolding helper_place
helpers_rising s B h helper d host r other = record {
  up = λ j k l m. omega (arith, unskip_up h (helper j) (helper k) (r.up j k l m) (other j (omega arith)) (other k m));
  inside = λ k l. omega (arith, unskip_below h (helper k) (B - 1) (omega arith) (omega (arith, r.inside k l)) (other k l));
}

rising_apart : (e : ℕ → ℕ) (d n : ℕ) → Rising e d n → (j k : ℕ) → j < d → k < d → e j ≡ e k → j ≡ k
rising_apart e d n r j k l m z = go (dec_lt j k) (dec_lt k j)
  where
    go : Dec (j < k) → Dec (k < j) → j ≡ k
    go (yes p) q = absurd (omega (arith, r.up j k p m, z))
    go (no p) (yes q) = absurd (omega (arith, r.up k j q l, z))
    go (no p) (no q) = omega arith

pub rising_places : (e : ℕ → ℕ) (d n : ℕ) → Rising e d n → Places e d n
rising_places e d n r = record { apart = rising_apart e d n r; inside = r.inside }

-- what has a power that is one is not zero
one_power : {A : Type 0} (o : Ops A) (L : Laws o) (z : A) (n : ℕ) → 0 < n → pow o z n ≡ o.one → ¬ (z ≡ o.zero)
one_power o L z zero l e f = absurd (omega arith)
one_power o L z (suc n) l e f = L.one_not_zero (sym e ∙ pow_suc o z n ∙ ap (λ x. o.mul x (pow o z n)) f ∙ zero_mul o L (pow o z n))

module _ {A : Type 0} (sh : Shape A) (fits : Fits sh) (h : ℕ) (a : ℕ → ℕ) (ha : (i : ℕ) → i < sh.racks → a i < sh.digits) (helper : ℕ → ℕ) (d R : ℕ)
    (helping : Helping sh h helper d R) where
  open sh use {ops as o, root as z, order as N, racks as B, size as u, digits as s}
  open fits use {laws as L, root, some_racks, some_places, some_digits, divides, room}
  open helping use {host_in as host, rising, other, total, few}
  open sh.ops use {add as ◌⊕◌, mul as ◌⊗◌, neg, inv, zero as 𝟘, one as 𝟙}

  infixl 60 ◌⊕◌
  infixl 70 ◌⊗◌
  K : ℕ → ℕ
  K = helper_place s h helper

  K-rising : Rising K d (s + (B - 1))
  unfolding K
  K-rising = helpers_rising s B h helper d host rising other

  unknown : Places (free K d) R (s + (B - 1))
  unknown = subst (λ n. Places (free K d) R n) total (free_places K R d)

  -- the rack sums worked out hang on the shares alone
  pub host_congr : (m : ℕ) (share share' : ℕ → A) → ((k : ℕ) → k < d → share k ≡ share' k) → (b : ℕ) →
      host_sum sh h a helper d R m share b ≡ host_sum sh h a helper d R m share' b
  unfolding host_sum known K
  host_congr m share share' same b = ap (λ x. inv (pow o (point sh h b 0) m) ⊗ x)
      (erased_congr o (group_point sh h a) (s + (B - 1)) (free K d) R unknown (zeros o) (zeros o) _ _ (λ t l. refl)
      (record { at = λ x l w. fill_values K _ _ _ d x (λ k p. ap (λ y. pow o (point sh (helper k) (a (helper k)) 0) m ⊗ y) (same k p)) }) b)

  root_not_zero : ¬ (z ≡ 𝟘)
  root_not_zero = one_power o L z N (omega (arith, mul-le-mul some_places some, divides)) root.full
    where
      some : 0 < N / u
      some = omega (arith, room, le-mul_of_pos_right B some_digits, some_racks)

  pub point_not_zero : (i b m : ℕ) → ¬ (pow o (point sh i b 0) m ≡ 𝟘)
  unfolding point
  point_not_zero i b m = pow_not_zero o L _ (pow_not_zero o L z root_not_zero _) m

  below_K : (b k : ℕ) → b < s → b < K k
  unfolding K helper_place
  below_K b k l = omega arith

  -- for any shares, the rack sums worked out are part of the one solution of the group's checks
  module _ (m : ℕ) (share : ℕ → A) where
    weighted : ℕ → A
    weighted k = pow o (point sh (helper k) (a (helper k)) 0) m ⊗ share k

    shared : ℕ → A
    shared = known sh h a helper d R m share

    pub solution : ℕ → A
    solution = recover o (group_point sh h a) (s + (B - 1)) (free (helper_place s h helper) d) R (zeros o) (known sh h a helper d R m share)

    pub solution_meets : Meets o (group_point sh h a) (s + (B - 1)) R (zeros o) solution
    unfolding solution K shared
    solution_meets = recovered o L (group_point sh h a) (s + (B - 1)) (free K d) R unknown (group_distinct sh fits h host a ha) (zeros o) shared

    shared_at : (k : ℕ) → k < d → shared (K k) ≡ weighted k
    unfolding shared known K weighted
    shared_at k l = fill_at K _ _ d (s + (B - 1)) (rising_places K d (s + (B - 1)) K-rising) k l

    pub solution_shares : (k : ℕ) → k < d → solution (helper_place s h helper k) ≡ pow o (point sh (helper k) (a (helper k)) 0) m ⊗ share k
    unfolding solution recover K weighted shared
    solution_shares k l = fill_outside (free K d) _ _ R (K k) (λ i p q. free_other K d (s + (B - 1)) i K-rising k l (sym q)) ∙ shared_at k l

    pub solution_host : (b : ℕ) → b < s → solution b ≡ pow o (point sh h b 0) m ⊗ host_sum sh h a helper d R m share b
    unfolding solution recover host_sum K
    solution_host b l =
        ap solution (sym (free_low K d b (λ k p. below_K b k l))) ∙ fill_at (free K d) _ _ R (s + (B - 1)) unknown b (omega arith)
        ∙ sym (mul_inv_left o L _ _ (point_not_zero h b m))

    pub solution_only : (y : ℕ → A) → Meets o (group_point sh h a) (s + (B - 1)) R (zeros o) y →
        ((k : ℕ) → k < d → y (helper_place s h helper k) ≡ pow o (point sh (helper k) (a (helper k)) 0) m ⊗ share k) → (x : ℕ) → x < s + (B - 1) → y x ≡ solution x
    unfolding solution K shared weighted
    solution_only y good same x l =
        recovered_only o L (group_point sh h a) (s + (B - 1)) (free K d) R unknown (group_distinct sh fits h host a ha) (zeros o) shared y
        (record {
          at = λ x l w. cover K (shared x ≡ y x) R d x (subst (λ n. Rising K d n) (sym total) K-rising) (omega arith)
              (λ k p e. ap shared e ∙ shared_at k p ∙ sym (same k p) ∙ ap y (sym e)) (λ i p e. absurd (w i p e));
        })
        good x l

  -- rack sums that meet the group's checks and add up to the shares have the host's sums worked out
  module _ (m : ℕ) (ρ : ℕ → ℕ → A) (share : ℕ → A) (good : (w : ℕ) → w < R → sum o s (λ b. rack_check sh (digits_at h a b) m (ρ b) w) ≡ 𝟘)
      (shares : (k : ℕ) → k < d → share k ≡ sum o s (λ b. ρ b (helper k))) where
    word_meets : Meets o (group_point sh h a) (s + (B - 1)) R (zeros o) (group_word sh h a m ρ)
    word_meets = record { at = λ w l. sym (group_check sh fits h host a ρ w m) ∙ good w l }

    word_shares : (k : ℕ) → k < d → group_word sh h a m ρ (helper_place s h helper k) ≡ pow o (point sh (helper k) (a (helper k)) 0) m ⊗ share k
    unfolding group_word helper_place
    word_shares k l =
        join_add s _ _ (unskip h (helper k))
        ∙ ap (λ i. pow o (point sh i (a i) 0) m ⊗ sum o s (λ b. ρ b i)) (skip_unskip h (helper k) (other k l))
        ∙ ap (λ x. pow o (point sh (helper k) (a (helper k)) 0) m ⊗ x) (sym (shares k l))

    -- the word of the group is the one solution
    pub word_only : (x : ℕ) → x < s + (B - 1) → group_word sh h a m ρ x ≡ solution m share x
    word_only = solution_only m share (group_word sh h a m ρ) word_meets word_shares

    word_host : (b : ℕ) → b < s → group_word sh h a m ρ b ≡ pow o (point sh h b 0) m ⊗ ρ b h
    unfolding group_word
    word_host b l = join_low s _ _ b l

    pub host_only : (b : ℕ) → b < s → ρ b h ≡ host_sum sh h a helper d R m share b
    host_only b l = mul_cancel o L _ _ _ (point_not_zero h b m) (sym (word_host b l) ∙ word_only b (omega arith) ∙ solution_host m share b l)
