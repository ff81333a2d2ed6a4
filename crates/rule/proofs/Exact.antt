-- On a codeword's shares and sound trays the rule gives the codeword's lost trays.
-- Assumes nothing.
use mathlib.Core.Path.{◌≡◌, refl, sym, ◌∙◌, ap, ap₂, subst}
use mathlib.Core.List.{List}
use Prim.Native.Nat.{ℕ, ◌+◌, ◌*◌, ◌/◌, ◌%◌, ◌<◌}
use native.Mathlib.Nat.{div-add-mod', div-lt_iff_lt-mul, mod-lt}
use native.Mathlib.Omega.{arith}
use lib.Arith.{digits_div, digits_mod}
use lib.ListN.{length, get_or}
use lib.Seq.{ext_get_or}
use Rattle.lists.proofs.Numbers.{cell_in}
use Rattle.lists.proofs.Tables.{table_at, table_length}
use Rattle.algebra.specs.Shape.{Field}
use Rattle.algebra.specs.Points.{place, rack_sum}
use Rattle.algebra.proofs.Erasure.{fill_same, check_congr}
use Rattle.algebra.proofs.Cabinet.{codeword_solution, sums_check}
use Rattle.layout.specs.declared.Layout.{Layout}
use Rattle.layout.specs.Layout.{trays, checks, layers, groups, parity_racks}
use Rattle.codeword.specs.Codeword.{shape_of, symbol_at, Solvable}
use Rattle.codeword.proofs.Buffers.{to_word, layers_pos}
use Rattle.rule.specs.Rule.{group_at}
use Rattle.rule.specs.Lost.{first_lost, lost_place, lost_part, Losses, with_spare, Ruled, Of}
use Rattle.rule.proofs.Racks.{rack_at, share_word}
use Rattle.rule.proofs.Rule.{host_in, group_below}
use Rattle.rule.proofs.Lost.{tray_is, lost_high, lost_places, rule_one}

-- symbol j of the i-th lost tray
pub lost_at : (l : Layout) (lost c : List ℕ) (i j : ℕ) → i < length lost → j < layers l → get_or (lost_part l lost c) (i * layers l + j) 0 ≡ get_or c (get_or lost i 0 * layers l + j) 0
unfolding lost_part
lost_at l lost c i j k hj =
    table_at _ (length lost * layers l) (i * layers l + j) (cell_in (length lost) (layers l) i j k hj)
    ∙ ap₂ (λ a b. get_or c (get_or lost a 0 * layers l + b) 0) (digits_div i hj) (digits_mod i hj)

pub lost_long : (l : Layout) (lost c : List ℕ) → length (lost_part l lost c) ≡ length lost * layers l
unfolding lost_part
lost_long l lost c = table_length _ (length lost * layers l)

module _ {A : Type 0} (f : Field A) (l : Layout) (ok : Solvable f l) (lost helpers : List ℕ) (given : Losses l lost helpers) (shares host c : List ℕ)
    (of : Of f l lost helpers shares host c) where
  abbrev h : ℕ
  h = first_lost l lost / l.size

  -- the host rack with the codeword's lost trays is the codeword's rack
  with_spare_is : (j : ℕ) → j < layers l → (g : ℕ) → g < l.size → with_spare f l lost (lost_part l lost c) host j g ≡ symbol_at f l c (h * l.size + g) j
  unfolding with_spare symbol_at
  with_spare_is j hj g hg = sym (fill_same (lost_place l lost) _ _ (length lost) (λ y. symbol_at f l c (h * l.size + y) j) g
      (λ i k e. ap f.coding.elem (ap (λ y. get_or c (y * layers l + j) 0) (ap (λ y. h * l.size + y) e ∙ tray_is f l ok lost helpers given i k) ∙ sym (lost_at l lost c i j k hj)))
      (λ out. sym (of.sound j hj g hg out ∙ rack_at f l c h g j hg hj)))

  -- the codeword's lost trays are as the rule fixes them
  pub lost_ruled : (p : ℕ) → p < groups l → Ruled f l lost helpers shares host p (lost_part l lost c)
  lost_ruled p inside = record {
    sums = λ m i j. rack_sum (shape_of f l) (λ y. symbol_at f l c y j) m i;
    solution = λ m hm.
        let sol = codeword_solution (shape_of f l) ok.usable.fits h (host_in f l ok (first_lost l lost) helpers given.help) p (rw ok.groups_are at inside) m (λ k. get_or helpers k 0)
        l.helpers (parity_racks l) (checks l) (λ w hw. ok.enough w m hw (omega (arith, given.few))) (symbol_at f l c) (to_word f l c of.codeword) in
        record { given = λ k hk. sol.given k hk ∙ sym (of.share m k p hm hk inside ∙ share_word f l m h c (get_or helpers k 0) p); checks = sol.checks };
    holds = λ j hj e m hm.
        check_congr f.ops ok.usable.field.laws (place (shape_of f l)) l.size (lost_place l lost) _ _ m (with_spare_is j hj)
        ∙ sym (sums_check (shape_of f l) ok.usable.fits (lost_place l lost) (length lost) (lost_places f l ok lost helpers given) (λ y. symbol_at f l c y j) m h);
    symbols = λ i k j hj e. subst (λ n. n < f.coding.size) (sym (lost_at l lost c i j k hj))
        (of.codeword.symbols.at _ (rw of.codeword.long (cell_in (trays l) (layers l) (get_or lost i 0) j (lost_high f l ok lost helpers given i k) hj)));
  }

  -- on a codeword's shares and sound trays the rule gives the codeword's lost trays
  pub rule_exact : (p : ℕ) → p < groups l → (spare : List ℕ) → Ruled f l lost helpers shares host p spare →
      (i : ℕ) → i < length lost → (j : ℕ) → j < layers l → group_at l (first_lost l lost) j ≡ p → get_or spare (i * layers l + j) 0 ≡ get_or (lost_part l lost c) (i * layers l + j) 0
  rule_exact p inside spare r i k j hj e =
      let one = rule_one f l ok lost helpers given shares host in
      one.only p inside spare r i k j hj e ∙ sym (one.only p inside (lost_part l lost c) (lost_ruled p inside) i k j hj e)

  -- so a spare that the rule fixes in every group holds those trays
  pub rule_whole : (spare : List ℕ) → length spare ≡ length lost * layers l → ((p : ℕ) → p < groups l → Ruled f l lost helpers shares host p spare) → spare ≡ lost_part l lost c
  rule_whole spare long ruled =
      ext_get_or 0 spare (lost_part l lost c) (long ∙ sym (lost_long l lost c)) (λ n hn.
      let k : n / layers l < length lost = (div-lt_iff_lt-mul (layers_pos f l ok.usable)).1 (rw long at hn) in
      let m : n % layers l < layers l = mod-lt n (layers_pos f l ok.usable) in
      let g = group_below f l ok (first_lost l lost) helpers given.help (n % layers l) m in
      subst (λ y. get_or spare y 0 ≡ get_or (lost_part l lost c) y 0) (div-add-mod' n (layers l))
      (rule_exact _ g spare (ruled _ g) (n / layers l) k (n % layers l) m refl))
