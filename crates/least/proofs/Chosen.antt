-- The racks that are neither the host nor a helper left out: s helpers chosen, and every rack that does not help. The checks' r trays stand in these.
-- Assumes nothing.
use mathlib.Core.Path.{◌≡◌, sym, ◌∙◌, ap, ap₂, subst}
use mathlib.Core.List.{List}
use Prim.Native.Nat.{ℕ, ◌+◌, ◌-◌, ◌*◌, ◌/◌, ◌%◌, ◌≤◌, ◌<◌}
use native.Mathlib.Nat.{mod-lt, div-add-mod', div-lt_iff_lt-mul, zero-add}
use native.Mathlib.Decide.{dec_lt}
use native.Mathlib.Omega.{arith}
use lib.Arith.{digits_div}
use lib.ListN.{get_or}
use Rattle.lists.proofs.Numbers.{cell_in, cell_same}
use Rattle.algebra.specs.Erasure.{Places}
use Rattle.algebra.specs.Shape.{Field}
use Rattle.algebra.specs.Cabinet.{Rising}
use Rattle.algebra.specs.Group.{skip, unskip, free, join}
use Rattle.algebra.specs.Repair.{helper_place}
use Rattle.algebra.proofs.Skip.{skip_other, skip_below, skip_apart, unskip_skip, join_low, join_high}
use Rattle.algebra.proofs.Free.{free_apart, free_below, free_other}
use Rattle.algebra.proofs.Repair.{helpers_rising, rising_places}
use Rattle.layout.specs.declared.Layout.{Layout}
use Rattle.layout.specs.Layout.{trays, checks, digits, parity_racks}
use Rattle.layout.proofs.Numbers.{checks_fit}
use Rattle.codeword.specs.Codeword.{Solvable}
use Rattle.rule.specs.Rule.{Helpers}
use Rattle.rule.proofs.Rule.{host_in, helping}

module _ {A : Type 0} (f : Field A) (l : Layout) (ok : Solvable f l) (x : ℕ) (helpers : List ℕ) (help : Helpers l x helpers)
    (some : ℕ → ℕ) (chosen : Places some (digits l) l.helpers) where
  abbrev h : ℕ
  h = x / l.size

  helper : ℕ → ℕ
  helper k = get_or helpers k 0

  -- the helpers' places among the racks other than the host
  K : ℕ → ℕ
  K = helper_place 0 h helper

  K-is : (k : ℕ) → K k ≡ unskip h (helper k)
  unfolding K helper_place
  K-is k = omega arith

  K-rising : Rising K l.helpers (l.racks - 1)
  unfolding K helper
  K-rising = subst (λ n. Rising (helper_place 0 h helper) l.helpers n) (zero-add (l.racks - 1))
      (helpers_rising 0 l.racks h helper l.helpers (host_in f l ok x helpers help) (helping f l ok x helpers help).rising help.other)

  -- the j-th rack that is neither host nor helper
  idle : ℕ → ℕ
  idle j = skip h (free K l.helpers j)

  idle_below : (j : ℕ) → j + l.helpers < l.racks - 1 → idle j < l.racks
  unfolding idle
  idle_below j k = let b = skip_below h (free K l.helpers j) (l.racks - 1) (inner j k) in omega (arith, b)
    where
      inner : (j : ℕ) → j + l.helpers < l.racks - 1 → free K l.helpers j < l.racks - 1
      inner j k = let b = free_below K (l.racks - 1 - l.helpers) l.helpers j (omega arith) in omega (arith, b)

  idle_other : (j k : ℕ) → k < l.helpers → ¬ (idle j ≡ helper k)
  unfolding idle
  idle_other j k q e =
      free_other K l.helpers (l.racks - 1) j K-rising k q (sym (unskip_skip h (free K l.helpers j)) ∙ ap (unskip h) e ∙ sym (K-is k))

  helper_apart : (i k : ℕ) → i < l.helpers → k < l.helpers → helper i ≡ helper k → i ≡ k
  unfolding helper
  helper_apart = (rising_places helper l.helpers l.racks (helping f l ok x helpers help).rising).apart

  -- the chosen helpers, and then the idle racks
  rack : ℕ → ℕ
  rack = join (digits l) (λ i. helper (some i)) idle

  rack_low : (i : ℕ) → i < digits l → rack i ≡ helper (some i)
  unfolding rack
  rack_low i k = join_low (digits l) _ _ i k

  rack_high : (i : ℕ) → digits l ≤ i → rack i ≡ idle (i - digits l)
  unfolding rack
  rack_high i k = join_high (digits l) _ _ i k

  rack_below : (i : ℕ) → i < parity_racks l → rack i < l.racks
  unfolding helper
  rack_below i k = go (dec_lt i (digits l))
    where
      go : Dec (i < digits l) → rack i < l.racks
      go (yes p) = rw (rack_low i p) (help.inside (some i) (chosen.inside i p))
      go (no p) = rw (rack_high i (omega arith)) (idle_below (i - digits l) (let t = helping f l ok x helpers help in omega (arith, t.total, t.few)))

  rack_apart : (i j : ℕ) → rack i ≡ rack j → i ≡ j
  rack_apart i j e = go (dec_lt i (digits l)) (dec_lt j (digits l))
    where
      go : Dec (i < digits l) → Dec (j < digits l) → i ≡ j
      go (yes p) (yes q) = chosen.apart i j p q (helper_apart (some i) (some j) (chosen.inside i p) (chosen.inside j q) (sym (rack_low i p) ∙ e ∙ rack_low j q))
      go (yes p) (no q) = absurd (idle_other (j - digits l) (some i) (chosen.inside i p) (sym (rack_high j (omega arith)) ∙ sym e ∙ rack_low i p))
      go (no p) (yes q) = absurd (idle_other (i - digits l) (some j) (chosen.inside j q) (sym (rack_high i (omega arith)) ∙ e ∙ rack_low j q))
      go (no p) (no q) =
          let w = free_apart K l.helpers (i - digits l) (j - digits l) (skip_apart h _ _ (idles (sym (rack_high i (omega arith)) ∙ e ∙ rack_high j (omega arith)))) in
          omega arith
        where
          idles : idle (i - digits l) ≡ idle (j - digits l) → skip h (free K l.helpers (i - digits l)) ≡ skip h (free K l.helpers (j - digits l))
          idles q = unfold idle in q

  rack_host : (i : ℕ) → ¬ (rack i ≡ h)
  unfolding helper idle
  rack_host i e = go (dec_lt i (digits l))
    where
      go : Dec (i < digits l) → ⊥
      go (yes p) = help.other (some i) (chosen.inside i p) (sym (rack_low i p) ∙ e)
      go (no p) = skip_other h _ (sym (rack_high i (omega arith)) ∙ e)

  rack_left_out : (k : ℕ) → k < l.helpers → ((i : ℕ) → i < digits l → ¬ (k ≡ some i)) → (i : ℕ) → ¬ (rack i ≡ helper k)
  rack_left_out k hk out i e = go (dec_lt i (digits l))
    where
      go : Dec (i < digits l) → ⊥
      go (yes p) = out i p (helper_apart k (some i) hk (chosen.inside i p) (sym e ∙ rack_low i p))
      go (no p) = idle_other (i - digits l) k hk (sym (rack_high i (omega arith)) ∙ e)

  -- the t-th tray that the checks determine
  pub parity : ℕ → ℕ
  parity t = rack (t / l.size) * l.size + t % l.size

  parity_rack : (t : ℕ) → parity t / l.size ≡ rack (t / l.size)
  unfolding parity
  parity_rack t = digits_div (rack (t / l.size)) (mod-lt t ok.usable.fits.some_places)

  pub parity_places : Places parity (checks l) (trays l)
  unfolding parity
  parity_places = record {
    apart = λ t v ht hv e.
        let two = cell_same l.size (rack (t / l.size)) (rack (v / l.size)) (t % l.size) (v % l.size) (mod-lt t ok.usable.fits.some_places)
        (mod-lt v ok.usable.fits.some_places) e in
        sym (div-add-mod' t l.size) ∙ ap₂ (λ a b. a * l.size + b) (rack_apart _ _ two.0) two.1 ∙ div-add-mod' v l.size;
    inside = λ t ht.
        cell_in l.racks l.size (rack (t / l.size)) (t % l.size)
        (rack_below (t / l.size) ((div-lt_iff_lt-mul ok.usable.fits.some_places).1 (omega (arith, checks_fit l)))) (mod-lt t ok.usable.fits.some_places);
  }

  -- none of them stands in the host rack or in that of a helper left out
  pub parity_host : (y : ℕ) → y / l.size ≡ x / l.size → (t : ℕ) → ¬ (y ≡ parity t)
  parity_host y e t q = rack_host (t / l.size) (sym (parity_rack t) ∙ ap (λ z. z / l.size) (sym q) ∙ e)

  pub parity_left_out : (k : ℕ) → k < l.helpers → ((i : ℕ) → i < digits l → ¬ (k ≡ some i)) → (y : ℕ) → y / l.size ≡ get_or helpers k 0 → (t : ℕ) → ¬ (y ≡ parity t)
  unfolding helper
  parity_left_out k hk out y e t q = rack_left_out k hk out (t / l.size) (sym (parity_rack t) ∙ ap (λ z. z / l.size) (sym q) ∙ e)
