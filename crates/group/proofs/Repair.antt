-- The systems of a block solved and written, digit after digit, and that the rule fixes the block so.
-- Assumes nothing.
use mathlib.Core.Path.{◌≡◌, refl, sym, ap, ◌∙◌, subst}
use mathlib.Core.List.{List}
use Prim.Native.Nat.{ℕ, ◌+◌, ◌-◌, ◌*◌, ◌/◌, ◌%◌, ◌<◌, ◌≤◌}
use native.Mathlib.Nat.{mod-one, not-suc-le-zero}
use native.Mathlib.Decide.{ℕ_discrete}
use native.Mathlib.Omega.{arith}
use lib.ListN.{length, get_or}
use Rattle.algebra.specs.Lagrange.{solve}
use Rattle.algebra.specs.Erasure.{rest, erased}
use Rattle.algebra.specs.Points.{place}
use Rattle.algebra.specs.Layers.{digit, layer_of}
use Rattle.algebra.proofs.Lagrange.{solve_congr}
use Rattle.algebra.proofs.Erasure.{erased_congr}
use Rattle.algebra.proofs.Layers.{digit_below, layer_digit, layer_group, layer_back}
use Rattle.algebra.specs.Shape.{Field}
use Rattle.algebra.specs.Plain.{Working}
use Rattle.algebra.proofs.Ring.{neg_neg}
use Rattle.kernel.specs.Inner.{cell}
use Rattle.kernel.proofs.Rows.{cell_is}
use Rattle.columns.specs.Inner.{column, Solved}
use Rattle.layout.specs.declared.Layout.{Layout}
use Rattle.layout.specs.Layout.{digits, layers, groups, AdmissibleWith}
use Rattle.layout.proofs.Facts.{bounds}
use Rattle.layout.proofs.Numbers.{layer_below}
use Rattle.codeword.specs.Codeword.{shape_of, symbol_at}
use Rattle.codeword.proofs.Usable.{solvable}
use Rattle.blocks.specs.Inner.{Block}
use Rattle.rule.specs.Rule.{group_at}
use Rattle.rule.specs.Lost.{first_lost, lost_place, Losses, Piece}
use Rattle.rule.specs.Inner.{layer_sum, lost_symbol}
use Rattle.rule.proofs.Lost.{lost_places, is_ruled}
use Rattle.sums.specs.Inner.{sum_at, SumsTo}
use Rattle.group.specs.Inner.{Lying, LostPlaces, Rests, PutRows, found_at, DigitRepaired, BlockRepaired, Repairing}

module _ {A : Type 0} {f : Field A} (W : Working f) where
  open f use {ops}
  open f.coding use {elem, val, size}
  open W.field use {laws}

  module _ (l : Layout) (h : ℕ) (lost host : List ℕ) (w first : ℕ) (sums : List ℕ) where
    -- ---- a digit
    module _ (a start run count stride : ℕ) (places rests found : List ℕ) (t : Lying l h w first a start run count stride) (p : (LostPlaces f) l lost places)
        (r : (Rests f) l lost host w a start run stride sums rests) (s : (Solved f) w 1 w (length lost) rests places found (length lost)) where
      -- what the solver gives is the lost symbol
      found_is : (i j : ℕ) → i < length lost → j < w → cell f w found i j ≡ found_at f l lost host h w first sums a j i
      unfolding found_at erased column cell
      found_is i j hi hj =
          s.at i j hi hj
          ∙ solve_congr ops (column f 1 places (j / w % 1)) (λ k. place (shape_of f l) (lost_place l lost k)) i (length lost) hi
          (λ k hk. ap (λ n. elem (get_or places n 0)) (number k (j / w % 1) (mod-one (j / w))) ∙ p.at k hk) _ _ (λ m hm. ap ops.neg (r.at m j hm hj) ∙ neg_neg ops laws _)
          ∙ ap (λ y. solve ops (λ k. place (shape_of f l) (lost_place l lost k)) (length lost)
          (rest ops (place (shape_of f l)) l.size (lost_place l lost) (length lost) (λ m. ops.neg (cell f w sums (m * digits l + a) j)) (λ g. symbol_at f l host g y)) i) (t.at j hj)
        where
          number : (k c : ℕ) → c ≡ 0 → k * 1 + c ≡ k
          number k c e = omega arith

      pub digit_repaired : (old new : List ℕ) → PutRows (layers l) w start run stride found old new (length lost) → DigitRepaired f l h lost host w first sums a old new
      digit_repaired old new g = record {
        long = g.long;
        done = λ i j hi hj.
            ap (λ y. elem (get_or new (i * layers l + y) 0)) (sym (t.at j hj)) ∙ ap elem (g.done i j hi hj) ∙ cell_is f w found i j ∙ found_is i j hi hj;
        small = λ i j hi hj. subst (λ y. get_or new (i * layers l + y) 0 < size) (t.at j hj) (rw (g.done i j hi hj) (s.small i j hi hj));
        kept = λ i y hy out. g.kept i y hy (λ j hj e. out j hj (e ∙ t.at j hj));
      }

    -- ---- digit after digit
    pub repaired_none : (old : List ℕ) → BlockRepaired f l h lost host w first sums 0 old old
    repaired_none old = record { long = refl; done = λ i b j hi hb. absurd (not-suc-le-zero hb); small = λ i b j hi hb. absurd (not-suc-le-zero hb); kept = λ i y hy out. refl }

    pub repaired_more : (a : ℕ) (old mid new : List ℕ) → Repairing f l h lost host w first sums → a < digits l → BlockRepaired f l h lost host w first sums a old mid →
        DigitRepaired f l h lost host w first sums a mid new → BlockRepaired f l h lost host w first sums (a + 1) old new
    repaired_more a old mid new q ha g d = record {
      long = d.long ∙ g.long;
      done = λ i b j hi hb hj. go i b j hi hb hj (ℕ_discrete b a);
      small = λ i b j hi hb hj. low i b j hi hb hj (ℕ_discrete b a);
      kept = λ i y hy out. d.kept i y hy (λ j hj. out a j ha hj) ∙ g.kept i y hy out;
    }
      where
        pos : 0 < digits l
        pos = (bounds l q.losing.adm).digits_low

        stays : (i b j : ℕ) → b < a + 1 → j < w → ¬ (b ≡ a) →
            get_or new (i * layers l + layer_of (digits l) h (first + j) b) 0 ≡ get_or mid (i * layers l + layer_of (digits l) h (first + j) b) 0
        stays i b j hb hj n =
            d.kept i (layer_of (digits l) h (first + j) b)
            (layer_below l q.losing.adm h (first + j) b q.losing.host_in (let i = q.block.inside in omega arith) (omega arith))
            (λ k hk e. n (sym (layer_digit (digits l) pos h (first + j) b (omega arith)) ∙ ap (λ y. digit (digits l) y h) e ∙ layer_digit (digits l) pos h (first + k) a ha))

        go : (i b j : ℕ) → i < length lost → b < a + 1 → j < w → Dec (b ≡ a) → elem (get_or new (i * layers l + layer_of (digits l) h (first + j) b) 0) ≡ found_at f l lost host h w first sums b j i
        go i b j hi hb hj (yes e) =
            subst (λ b. elem (get_or new (i * layers l + layer_of (digits l) h (first + j) b) 0) ≡ found_at f l lost host h w first sums b j i) (sym e) (d.done i j hi hj)
        go i b j hi hb hj (no n) = ap elem (stays i b j hb hj n) ∙ g.done i b j hi (omega arith) hj

        low : (i b j : ℕ) → i < length lost → b < a + 1 → j < w → Dec (b ≡ a) → get_or new (i * layers l + layer_of (digits l) h (first + j) b) 0 < size
        low i b j hi hb hj (yes e) = subst (λ b. get_or new (i * layers l + layer_of (digits l) h (first + j) b) 0 < size) (sym e) (d.small i j hi hj)
        low i b j hi hb hj (no n) = rw (stays i b j hb hj n) (g.small i b j hi (omega arith) hj)

    pub repaired_end : (a s : ℕ) (old new : List ℕ) → s ≡ digits l → BlockRepaired f l h lost host w first sums a old new → a ≤ s → s ≤ a →
        BlockRepaired f l h lost host w first sums (digits l) old new
    repaired_end a s old new es g p q = let e : a ≡ digits l = omega arith in subst (λ n. BlockRepaired f l h lost host w first sums n old new) e g

  -- a block written whole, by the host's own sums, is as the rule fixes it
  module _ (l : Layout) (lost helpers shares host : List ℕ) (w first : ℕ) (sums : List ℕ) (adm : AdmissibleWith f.order 0 l) (given : Losses l lost helpers) (block : Block l w first)
      (inside : first + w ≤ groups l) (S : (SumsTo f) l (first_lost l lost / l.size) w first helpers shares (length lost) (length lost) sums) where
    abbrev h : ℕ
    h = first_lost l lost / l.size

    pos : 0 < digits l
    pos = (bounds l adm.admissible.cabinet).digits_low

    group_is : (y b j : ℕ) → b < digits l → y ≡ layer_of (digits l) h (first + j) b → group_at l (first_lost l lost) y ≡ first + j
    group_is y b j hb e = ap (group_at l (first_lost l lost)) e ∙ layer_group (digits l) pos h (first + j) b hb

    -- a layer of the block, by its group and digit
    module _ (y j : ℕ) (hj : j < w) (eg : group_at l (first_lost l lost) y ≡ first + j) where
      layer_is : layer_of (digits l) h (first + j) (digit (digits l) y h) ≡ y
      layer_is = ap (λ p. layer_of (digits l) h p (digit (digits l) y h)) (sym eg) ∙ layer_back (digits l) pos h y

      sum_is : (m : ℕ) → m < length lost → ops.neg (cell f w sums (m * digits l + digit (digits l) y h) j) ≡ layer_sum f l lost helpers shares y m
      unfolding layer_sum sum_at
      sum_is m hm =
          ap ops.neg (S.at m (digit (digits l) y h) j hm (digit_below (digits l) pos y h) hj) ∙ neg_neg ops laws _
          ∙ ap (λ r. sum_at f l h r helpers shares (length lost) m (digit (digits l) y h)) (sym eg)

      symbol_is : (i : ℕ) → val (found_at f l lost host h w first sums (digit (digits l) y h) j i) ≡ lost_symbol f l lost helpers shares host i y
      unfolding found_at lost_symbol
      symbol_is i =
          ap val (erased_congr ops (place (shape_of f l)) l.size (lost_place l lost) (length lost) (lost_places f l (solvable W l adm) lost helpers given) _ _ _ _
          sum_is (record { at = λ g hg out. ap (symbol_at f l host g) layer_is }) i)

      written : (old new : List ℕ) → BlockRepaired f l h lost host w first sums (digits l) old new →
          (i : ℕ) → i < length lost → y < layers l → get_or new (i * layers l + y) 0 ≡ lost_symbol f l lost helpers shares host i y
      written old new q i k hy =
          sym (W.field.coded.val_elem _ (subst (λ x. get_or new (i * layers l + x) 0 < size) layer_is (q.small i (digit (digits l) y h) j k (digit_below (digits l) pos y h) hj)))
          ∙ ap val (ap (λ x. elem (get_or new (i * layers l + x) 0)) (sym layer_is) ∙ q.done i (digit (digits l) y h) j k (digit_below (digits l) pos y h) hj)
          ∙ symbol_is i

    pub repaired_piece : (old new : List ℕ) → BlockRepaired f l (first_lost l lost / l.size) lost host w first sums (digits l) old new →
        Piece f l lost helpers shares host first w old new
    repaired_piece old new q = record {
      long = q.long;
      done = λ p low high. is_ruled f l (solvable W l adm) lost helpers given shares host p (omega arith) new (λ i k y hy e.
          let b : p - first < w = omega arith in
          let c : p ≡ first + (p - first) = omega arith in
          written y (p - first) b (e ∙ c) old new q i k hy);
      kept = λ i k y hy out. q.kept i y hy (λ b j hb hj e. out (let g : group_at l (first_lost l lost) y ≡ first + j = group_is y b j hb e in (omega arith, omega arith)));
    }
