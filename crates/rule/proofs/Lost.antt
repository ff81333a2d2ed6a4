-- The rule of repair for several lost trays: for any shares, host and group it has exactly one outcome, and that hangs on the group's own symbols alone.
-- Assumes nothing.
use mathlib.Core.Path.{◌≡◌, sym, ◌∙◌, ap, ap₂, subst}
use mathlib.Core.List.{List}
use Prim.Native.Nat.{ℕ, ◌+◌, ◌*◌, ◌/◌, ◌%◌, ◌<◌}
use native.Mathlib.Nat.{mod-lt, div-add-mod'}
use native.Mathlib.Numerals.{add-one}
use native.Mathlib.Omega.{arith}
use lib.Arith.{digits_div, digits_mod}
use lib.ListN.{length, get_or}
use Rattle.lists.specs.Lists.{table}
use Rattle.lists.proofs.Numbers.{cell_in}
use Rattle.lists.proofs.Tables.{table_at, table_length}
use Rattle.algebra.specs.Erasure.{Places, recover}
use Rattle.algebra.specs.Shape.{Field}
use Rattle.algebra.specs.Points.{place}
use Rattle.algebra.specs.Layers.{digit, layer_of}
use Rattle.algebra.specs.Cabinet.{Solution}
use Rattle.algebra.specs.Repair.{host_sum}
use Rattle.algebra.proofs.Numbers.{rising_from}
use Rattle.algebra.proofs.Layers.{digit_below}
use Rattle.algebra.proofs.Erasure.{fill_at, fill_outside, fill_values, erased_congr, check_congr}
use Rattle.algebra.proofs.Repair.{rising_places, host_congr}
use Rattle.algebra.proofs.Cabinet.{lost_meets, lost_only}
use Rattle.layout.specs.declared.Layout.{Layout}
use Rattle.layout.specs.Layout.{trays, digits, layers, groups, parity_racks}
use Rattle.codeword.specs.Codeword.{shape_of, Solvable, symbol_at}
use Rattle.rule.specs.Rule.{group_at}
use Rattle.rule.specs.Lost.{first_lost, lost_place, Losses, sent_symbol, with_spare, Ruled, One, SoundAlike}
use Rattle.rule.specs.Inner.{layer_sum, lost_symbol}
use Rattle.rule.proofs.Rule.{host_in, helping, solution_sums, witness_sums, witness_solves}

module _ {A : Type 0} (f : Field A) (l : Layout) (ok : Solvable f l) (lost helpers : List ℕ) (given : Losses l lost helpers) where
  -- the host rack
  abbrev h : ℕ
  h = first_lost l lost / l.size

  -- the i-th lost tray is the one at its place of the host rack
  pub tray_is : (i : ℕ) → i < length lost → h * l.size + lost_place l lost i ≡ get_or lost i 0
  unfolding lost_place
  tray_is i k = ap (λ r. r * l.size + get_or lost i 0 % l.size) (sym (given.one_rack_lem i k)) ∙ div-add-mod' (get_or lost i 0) l.size

  pub lost_high : (i : ℕ) → i < length lost → get_or lost i 0 < trays l
  lost_high i k =
      subst (λ y. y < trays l) (tray_is i k)
      (cell_in l.racks l.size h (lost_place l lost i) (host_in f l ok (first_lost l lost) helpers given.help) (place_in i))
    where
      place_in : (i : ℕ) → lost_place l lost i < l.size
      place_in i = unfold lost_place in mod-lt (get_or lost i 0) ok.usable.fits.some_places

  -- the lost places are different places of the rack
  pub lost_places : Places (lost_place l lost) (length lost) l.size
  unfolding lost_place
  lost_places =
      let apart = rising_places (λ i. get_or lost i 0) (length lost) (trays l)
      (rising_from (λ i. get_or lost i 0) (length lost) (trays l)
      (λ i k. subst (λ n. get_or lost i 0 < get_or lost n 0) (add-one i) (given.rising i (omega (arith, add-one i)))) lost_high) in
      record {
        apart = λ i j p q e. apart.apart i j p q (sym (tray_is i p) ∙ ap (λ g. h * l.size + g) e ∙ tray_is j q);
        inside = λ i k. mod-lt (get_or lost i 0) ok.usable.fits.some_places;
      }

  module _ (shares host : List ℕ) where
    -- the host rack's symbols in layer j as the formula gives them
    whole : ℕ → ℕ → A
    whole j = recover f.ops (place (shape_of f l)) l.size (lost_place l lost) (length lost) (layer_sum f l lost helpers shares j) (λ g. symbol_at f l host g j)

    whole_lost : (j i : ℕ) → i < length lost → f.coding.val (whole j (lost_place l lost i)) ≡ lost_symbol f l lost helpers shares host i j
    unfolding whole recover lost_symbol
    whole_lost j i k = ap f.coding.val (fill_at (lost_place l lost) _ _ (length lost) l.size lost_places i k)

    module _ (p : ℕ) (inside : p < groups l) where
      -- every solution's host sums in a layer of the group are the formula's
      sums_are : (m j : ℕ) → group_at l (first_lost l lost) j ≡ p → (sums : ℕ → ℕ → A) →
          Solution (shape_of f l) m (first_lost l lost / l.size) p (λ k. get_or helpers k 0) l.helpers (parity_racks l) (sent_symbol f l (length lost) shares m p)
          sums → sums h j ≡ layer_sum f l lost helpers shares j m
      unfolding layer_sum
      sums_are m j e sums sol =
          solution_sums f l ok (first_lost l lost) helpers given.help p inside m (sent_symbol f l (length lost) shares m p) sums sol j e
          ∙ ap (λ q. host_sum (shape_of f l) h (digit (digits l) (layer_of (digits l) h q 0)) (λ k. get_or helpers k 0) l.helpers (parity_racks l) m (sent_symbol f l (length lost) shares m q)
          (digit (digits l) j h)) (sym e)

      -- what the rule fixes is what the formula gives
      pub ruled_is : (spare : List ℕ) → Ruled f l lost helpers shares host p spare → (i : ℕ) → i < length lost → (j : ℕ) → j < layers l → group_at l (first_lost l lost) j ≡ p →
          get_or spare (i * layers l + j) 0 ≡ lost_symbol f l lost helpers shares host i j
      unfolding with_spare whole
      ruled_is spare r i k j hj e =
          sym (ok.usable.field.coded.val_elem _ (r.symbols i k j hj e))
          ∙ ap f.coding.val (sym (fill_at (lost_place l lost) _ _ (length lost) l.size lost_places i k)
          ∙ lost_only (shape_of f l) ok.usable.fits (lost_place l lost) (length lost) lost_places (layer_sum f l lost helpers shares j)
          (λ g. symbol_at f l host g j) (with_spare f l lost spare host j)
          (record { at = λ g hg out. sym (fill_outside (lost_place l lost) _ _ (length lost) g out) })
          (record { at = λ m hm. r.holds j hj e m hm ∙ sums_are m j e (r.sums m) (r.solution m hm) })
          (lost_place l lost i) (lost_places.inside i k))
          ∙ whole_lost j i k

      -- and back: for any shares there is a solution
      pub is_ruled : (spare : List ℕ) →
          ((i : ℕ) → i < length lost → (j : ℕ) → j < layers l → group_at l (first_lost l lost) j ≡ p → get_or spare (i * layers l + j) 0 ≡ lost_symbol f l lost helpers shares host i j) →
          Ruled f l lost helpers shares host p spare
      unfolding with_spare recover lost_symbol
      is_ruled spare at = record {
        sums = λ m. witness_sums f l ok (first_lost l lost) helpers given.help p inside m (sent_symbol f l (length lost) shares m p);
        solution = λ m hm. witness_solves f l ok (first_lost l lost) helpers given.help p inside m (sent_symbol f l (length lost) shares m p);
        holds = λ j hj e m hm.
            check_congr f.ops ok.usable.field.laws (place (shape_of f l)) l.size (lost_place l lost) _ _ m
            (λ g hg. fill_values (lost_place l lost) _ _ _ (length lost) g (λ i k. ap f.coding.elem (at i k j hj e) ∙ ok.usable.field.coded.elem_val _))
            ∙ (lost_meets (shape_of f l) ok.usable.fits (lost_place l lost) (length lost) lost_places (layer_sum f l lost helpers shares j) (λ g. symbol_at f l host g j)).at m hm
            ∙ sym (sums_are m j e _ (witness_solves f l ok (first_lost l lost) helpers given.help p inside m (sent_symbol f l (length lost) shares m p)));
        symbols = λ i k j hj e. subst (λ n. n < f.coding.size) (sym (at i k j hj e)) (ok.usable.field.coded.val_below _);
      }

    -- for any shares, host rack and group there is exactly one outcome
    pub rule_one : One f l lost helpers shares host
    rule_one = record {
      outcome = table cell (length lost * layers l);
      long = table_length _ (length lost * layers l);
      ruled = λ p hp. is_ruled p hp _ (λ i k j hj e. outcome_at i k j hj);
      only = λ p hp spare r i k j hj e. ruled_is p hp spare r i k j hj e ∙ sym (outcome_at i k j hj);
    }
      where
        cell : ℕ → ℕ
        cell n = lost_symbol f l lost helpers shares host (n / layers l) (n % layers l)

        outcome_at : (i : ℕ) → i < length lost → (j : ℕ) → j < layers l → get_or (table cell (length lost * layers l)) (i * layers l + j) 0 ≡ lost_symbol f l lost helpers shares host i j
        outcome_at i k j hj =
            table_at cell (length lost * layers l) (i * layers l + j) (cell_in (length lost) (layers l) i j k hj)
            ∙ ap₂ (lost_symbol f l lost helpers shares host) (digits_div i hj) (digits_mod i hj)

  -- the formula hangs on the group's e·d share symbols and the sound symbols of the layer alone
  lost_congr : (shares shares' host host' : List ℕ) (i j : ℕ) → i < length lost →
      ((m k : ℕ) → m < length lost → k < l.helpers → sent_symbol f l (length lost) shares m (group_at l (first_lost l lost) j) k
      ≡ sent_symbol f l (length lost) shares' m (group_at l (first_lost l lost) j) k) →
      SoundAlike f l lost j host host' → lost_symbol f l lost helpers shares host i j ≡ lost_symbol f l lost helpers shares' host' i j
  unfolding lost_symbol layer_sum
  lost_congr shares shares' host host' i j k alike sound =
      ap f.coding.val (erased_congr f.ops (place (shape_of f l)) l.size (lost_place l lost) (length lost) lost_places _ _ _ _
      (λ m hm. host_congr (shape_of f l) ok.usable.fits h _ (λ q b. digit_below (digits l) ok.usable.fits.some_digits _ q) (λ k. get_or helpers k 0) l.helpers (parity_racks l)
      (helping f l ok (first_lost l lost) helpers given.help) m _ _ (λ k hk. alike m k hm hk) _)
      (record { at = λ g hg out. sound g hg out }) i)

  -- what is written hangs only on the e·d share symbols of the group and the sound host symbols at its layers
  pub ruled_same : (p : ℕ) → p < groups l → (shares shares' host host' spare spare' : List ℕ) →
      Ruled f l lost helpers shares host p spare → Ruled f l lost helpers shares' host' p spare' →
      ((m k : ℕ) → m < length lost → k < l.helpers → sent_symbol f l (length lost) shares m p k ≡ sent_symbol f l (length lost) shares' m p k) →
      ((j : ℕ) → j < layers l → group_at l (first_lost l lost) j ≡ p → SoundAlike f l lost j host host') →
      (i : ℕ) → i < length lost → (j : ℕ) → j < layers l → group_at l (first_lost l lost) j ≡ p → get_or spare (i * layers l + j) 0 ≡ get_or spare' (i * layers l + j) 0
  ruled_same p inside shares shares' host host' spare spare' one two alike sound i k j hj e =
      ruled_is shares host p inside spare one i k j hj e
      ∙ lost_congr shares shares' host host' i j k
      (λ m n hm hn. subst (λ q. sent_symbol f l (length lost) shares m q n ≡ sent_symbol f l (length lost) shares' m q n) (sym e) (alike m n hm hn)) (sound j hj e)
      ∙ sym (ruled_is shares' host' p inside spare' two i k j hj e)
