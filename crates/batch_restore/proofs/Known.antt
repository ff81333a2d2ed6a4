-- The trays that are not listed: sums over all trays are sums over them, where the listed ones count nothing.
-- Assumes nothing.
use mathlib.Core.Path.{◌≡◌, refl, sym, ap, ◌∙◌, subst}
use mathlib.Core.List.{List}
use Prim.Native.Nat.{ℕ, zero, suc, ◌+◌, ◌-◌, ◌*◌, ◌<◌, ◌≤◌}
use native.Mathlib.Nat.{add-zero, add-suc}
use native.Mathlib.Numerals.{add-one}
use native.Mathlib.Omega.{arith}
use lib.ListN.{length, get_or}
use Rattle.lists.specs.Lists.{table}
use Rattle.lists.proofs.Tables.{table_length, table_at}
use Rattle.algebra.specs.Field.{Ops, Laws}
use Rattle.algebra.specs.Sum.{sum}
use Rattle.algebra.specs.Group.{skip, free}
use Rattle.algebra.specs.Shape.{Field}
use Rattle.algebra.specs.Cabinet.{Rising}
use Rattle.algebra.specs.Plain.{Working}
use Rattle.algebra.proofs.Plain.{laws}
use Rattle.algebra.proofs.Ring.{zero_add}
use Rattle.algebra.proofs.Sum.{sum_congr}
use Rattle.algebra.proofs.Skip.{skip_low, sum_skip}
use Rattle.algebra.proofs.Free.{free_below, free_other}
use Rattle.algebra.proofs.Repair.{rising_places}
use Rattle.layout.specs.declared.Layout.{Layout}
use Rattle.layout.specs.Layout.{trays, layers, tray_limit, Cabinet}
use Rattle.batch_restore.specs.Inner.{Complement, Lists, Job, Restoring}

-- ---- one after the other
module _ (h : ℕ → ℕ) (i : ℕ) where
  pub free_first : i ≡ free h 0 i
  unfolding free
  free_first = refl

  pub free_next : (d x y e : ℕ) → e ≡ h d → x ≡ free h d i → y ≡ skip e x → y ≡ free h (d + 1) i
  unfolding free
  free_next d x y e eh ex ey = ey ∙ ap (λ (a : ℕ). skip a x) eh ∙ ap (skip (h d)) ex ∙ ap (λ (n : ℕ). free h n i) (sym (add-one d))

  pub free_high : (d x : ℕ) → x ≡ free h d i → x < suc i + d
  free_high d x e = subst (λ (n : ℕ). n < suc i + d) (sym e) (free_below h (suc i) d i (omega arith))

module _ (es : List ℕ) (i d x : ℕ) (e : x ≡ free (λ k. get_or es k 0) d i) where
  pub other_low : length es ≤ tray_limit → i ≤ tray_limit → d < length es → x ≤ 2 * tray_limit
  other_low a b h = let q = free_high (λ k. get_or es k 0) i d x e in omega arith

  pub other_more : (y : ℕ) → y ≡ skip (get_or es d 0) x → y ≡ free (λ k. get_or es k 0) (d + 1) i
  other_more y q = free_next (λ k. get_or es k 0) i d x y (get_or es d 0) refl e q

  pub other_end : d ≤ length es → length es ≤ d → x ≡ free (λ k. get_or es k 0) (length es) i
  other_end h k = let z : d ≡ length es = omega arith in e ∙ ap (λ (n : ℕ). free (λ k. get_or es k 0) n i) z

module _ {A : Type 0} (o : Ops A) (L : Laws o) (h : ℕ → ℕ) where
  free_suc : (d i : ℕ) → free h (suc d) i ≡ skip (h d) (free h d i)
  unfolding free
  free_suc d i = refl

  pub free_sum : (d c : ℕ) → Rising h d (c + d) → (g : ℕ → A) → ((k : ℕ) → k < d → g (h k) ≡ o.zero) → sum o c (λ i. g (free h d i)) ≡ sum o (c + d) g
  free_sum zero c r g z = sum_congr o c _ _ (λ i l. ap g (sym (free_first h i))) ∙ ap (λ (n : ℕ). sum o n g) (sym (add-zero c))
  free_sum (suc d) c r g z =
      sum_congr o c _ _ (λ i l. ap g (free_suc d i))
      ∙ free_sum d c fewer (λ x. g (skip (h d) x)) (λ k l. ap g (skip_low (h d) (h k) (r.up k d l (omega arith))) ∙ z k (omega arith))
      ∙ sym (zero_add o L _) ∙ ap (λ a. o.add a (sum o (c + d) (λ x. g (skip (h d) x)))) (sym (z d (omega arith)))
      ∙ sym (sum_skip o L (c + d) (h d) g (subst (λ (n : ℕ). h d < n) (add-suc c d) (r.inside d (omega arith)))) ∙ ap (λ (n : ℕ). sum o n g) (sym (add-suc c d))
    where
      fewer : Rising h d (c + d)
      fewer = record {
        up = λ j k a b. r.up j k a (omega arith);
        inside = λ k l. let a = r.up k d l (omega arith) in let b = r.inside d (omega arith) in omega arith;
      }

-- ---- the list of all that are left
module _ (l : Layout) (m n : ℕ) (es c ks : List ℕ) (s : Restoring l m es c) (count : n + length es ≡ trays l) (is : ks ≡ table (free (λ k. get_or es k 0) (length es)) n) where
  ks_long : length ks ≡ n
  ks_long = ap length is ∙ table_length _ n

  ks_at : (t : ℕ) → t < length ks → get_or ks t 0 ≡ free (λ k. get_or es k 0) (length es) t
  ks_at t h = ap (λ (xs : List ℕ). get_or xs t 0) is ∙ table_at _ n t (let e = ks_long in omega arith)

  rising : Rising (λ k. get_or es k 0) (length es) (n + length es)
  rising = subst (λ (x : ℕ). Rising (λ k. get_or es k 0) (length es) x) (sym count) s.rising

  pub known_lists : Lists l es ks
  known_lists = record {
    adm = s.adm;
    es_in = s.rising.inside;
    es_apart = (rising_places (λ k. get_or es k 0) (length es) (trays l) s.rising).apart;
    ks_in = λ t h. subst (λ (x : ℕ). x < trays l) (sym (ks_at t h)) (subst (λ (x : ℕ). free (λ k. get_or es k 0) (length es) t < x) count
        (free_below (λ k. get_or es k 0) n (length es) t (let e = ks_long in omega arith)));
    kept = λ t k ht hk e. free_other (λ k. get_or es k 0) (length es) (trays l) t s.rising k hk (sym (ks_at t ht) ∙ e);
    total = let e = ks_long in omega arith;
    some = let e = ks_long in let a = s.few in let b = s.adm in omega arith;
  }

  pub known_job : Job l (layers l) m es ks c
  known_job = record { lists = known_lists; total_is = refl; long = s.long }

  pub known_complement : {A : Type 0} {f : Field A} → Working f → Complement f (trays l) es ks
  known_complement {f = f} W = record {
    sums = λ g z. sum_congr f.ops (length ks) _ _ (λ t h. ap g (ks_at t h)) ∙ ap (λ (x : ℕ). sum f.ops x (λ t. g (free (λ k. get_or es k 0) (length es) t))) ks_long
        ∙ free_sum f.ops (laws W) (λ k. get_or es k 0) (length es) n rising g z ∙ ap (λ (x : ℕ). sum f.ops x g) count;
  }

-- ---- numbers
module _ (l : Layout) (m : ℕ) (es c : List ℕ) (s : Restoring l m es c) where
  pub restoring_adm : Cabinet l
  restoring_adm = s.adm

  pub restoring_es : length es ≤ tray_limit
  restoring_es = let a = s.few in let b = s.adm in omega arith

  pub restoring_ks : (ks : List ℕ) → length ks + length es ≡ trays l → length ks ≤ tray_limit
  restoring_ks ks e = let b = s.adm in omega arith

  module _ (n : ℕ) (e : n ≡ trays l) where
    pub left_low : length es ≤ n
    left_low = let a = s.few in omega arith

    pub left_few : n - length es ≤ 64
    left_few = let b = s.adm in omega arith

    pub left_count : (k : ℕ) → k ≡ n - length es → k + length es ≡ trays l
    left_count k q = let a = s.few in omega arith
