-- A card is right exactly when its multipliers are those that the solver finds; there is one such card; and a repair by it is document 01's, on any shares.
-- Assumes nothing.
use mathlib.Core.Path.{◌≡◌, refl, sym, ◌∙◌, ap, ap₂, subst}
use mathlib.Core.List.{List}
use Prim.Native.Nat.{ℕ, ◌+◌, ◌-◌, ◌*◌, ◌/◌, ◌%◌, ◌^◌, ◌≤◌, ◌<◌}
use native.Mathlib.Nat.{mod-lt, div-add-mod', div-lt_iff_lt-mul}
use native.Mathlib.Omega.{arith}
use lib.Arith.{digits_div, digits_mod}
use lib.Dec.{eqb}
use lib.ListN.{length, get_or}
use lib.Seq.{ext_get_or}
use Rattle.lists.specs.Lists.{table}
use Rattle.lists.proofs.Numbers.{cell_in}
use Rattle.lists.proofs.Tables.{table_length, table_at}
use Rattle.algebra.specs.Sum.{sum, pow}
use Rattle.algebra.specs.Erasure.{choose}
use Rattle.algebra.specs.Shape.{Field}
use Rattle.algebra.specs.Points.{place, rack_sum}
use Rattle.algebra.specs.Layers.{digit, layer_of}
use Rattle.algebra.specs.Cabinet.{share_symbol as wordShare, Solution}
use Rattle.algebra.specs.Repair.{host_sum}
use Rattle.algebra.proofs.Ring.{mul_zero, mul_one}
use Rattle.algebra.proofs.Sum.{sum_congr, sum_single}
use Rattle.algebra.proofs.Coding.{elem_same}
use Rattle.algebra.proofs.Layers.{digit_below, layer_digit, layer_group, layer_in}
use Rattle.algebra.proofs.Cabinet.{choose_same, choose_other, codeword_solution}
use Rattle.layout.specs.declared.Layout.{Layout}
use Rattle.layout.specs.Layout.{whole_racks, checks, digits, layers, groups, parity_racks}
use Rattle.layout.proofs.Numbers.{checks_fit}
use Rattle.codeword.specs.Codeword.{shape_of, symbol_at, Codeword, Solvable}
use Rattle.codeword.proofs.Buffers.{to_word}
use Rattle.codeword.proofs.Words.{buffer_of, buffer_symbol, buffer_codeword}
use Rattle.rule.specs.Rule.{rack_part, Helpers, group_at, weighted_sum, share_symbol, shared_symbol, sound_sum, RuledOne}
use Rattle.rule.proofs.Racks.{rack_at, share_word, group_congr}
use Rattle.rule.proofs.Rule.{host_in, helping, solution_sums, witness_sums, witness_solves}
use Rattle.card.specs.Card.{multiplier, card_sum, Right, OneCard, Carded}
use Rattle.card.specs.Inner.{right_multiplier}
use Rattle.card.proofs.Reach.{lift, sums, reached, reached_share}
use Rattle.card.proofs.Formula.{host_factors}

module _ {A : Type 0} (f : Field A) (l : Layout) (ok : Solvable f l) (x : ℕ) (helpers : List ℕ) (help : Helpers l x helpers) (p : ℕ) (inside : p < groups l) where
  open f.ops use {add, mul, neg, zero, one}

  abbrev h : ℕ
  h = x / l.size

  -- the digits of the group's layer of digit 0
  abbrev a : ℕ → ℕ
  a = digit (digits l) (layer_of (digits l) h p 0)

  group : p < digits l ^ (l.racks - 1)
  group = rw ok.groups_are at inside

  -- what the rule finds of any shares is their sum by the solver's multipliers
  found : (ℕ → A) → ℕ → A
  found share b = sum f.ops l.helpers (λ k. mul (right_multiplier f l h helpers p b k) (share k))

  found_is : (share : ℕ → A) (b : ℕ) → host_sum (shape_of f l) h a (λ k. get_or helpers k 0) l.helpers (parity_racks l) 0 share b ≡ found share b
  unfolding found right_multiplier
  found_is share b = host_factors (shape_of f l) ok.usable.fits h a (λ k. get_or helpers k 0) l.helpers (parity_racks l) (helping f l ok x helpers help) share b

  -- a card with the solver's multipliers
  abbrev pub Agrees : List ℕ → Type 0
  Agrees card = (b k : ℕ) → b < digits l → k < l.helpers → multiplier f l card b k ≡ right_multiplier f l h helpers p b k

  card_found : (card : List ℕ) → Agrees card → (share : ℕ → A) (b : ℕ) → b < digits l → card_sum f l card share b ≡ found share b
  unfolding card_sum found
  card_found card same share b hb = sum_congr f.ops l.helpers _ _ (λ k q. ap (λ y. mul y (share k)) (same b k hb q))

  -- the host rack sums of a codeword are found from its shares
  weighted_word : (c : List ℕ) (i j : ℕ) → j < layers l → weighted_sum f l 0 (rack_part l c i) j ≡ rack_sum (shape_of f l) (λ y. symbol_at f l c y j) 0 i
  unfolding weighted_sum rack_sum
  weighted_word c i j hj = sum_congr f.ops l.size _ _ (λ g hg. ap (mul (pow f.ops (place (shape_of f l) g) 0)) (rack_at f l c i g j hg hj))

  codeword_sums : (c : List ℕ) → Codeword f l c → (j : ℕ) → j < layers l → group_at l x j ≡ p →
      weighted_sum f l 0 (rack_part l c h) j ≡ found (λ k. share_symbol f l 0 h (rack_part l c (get_or helpers k 0)) p) (digit (digits l) j h)
  codeword_sums c w j hj e =
      weighted_word c h j hj
      ∙ solution_sums f l ok x helpers help p inside 0 (λ k. wordShare (shape_of f l) 0 h (symbol_at f l c) (get_or helpers k 0) p) _
      (codeword_solution (shape_of f l) ok.usable.fits h (host_in f l ok x helpers help) p group 0 (λ k. get_or helpers k 0) l.helpers (parity_racks l) (checks l)
      (λ w q. ok.enough w 0 q (omega (arith, mod-lt l.dimension ok.usable.fits.some_places))) (symbol_at f l c) (to_word f l c w)) j e
      ∙ found_is _ _
      ∙ (unfold found in sum_congr f.ops l.helpers _ _ (λ k q. ap (mul (right_multiplier f l h helpers p (digit (digits l) j h) k)) (sym (share_word f l 0 h c (get_or helpers k 0) p))))

  -- so the solver's multipliers are right
  pub agrees_right : (card : List ℕ) → Agrees card → Right f l x helpers p card
  agrees_right card same = record {
    gives = λ c w j hj e. card_found card same _ (digit (digits l) j h) (digit_below (digits l) ok.usable.fits.some_digits j h) ∙ sym (codeword_sums c w j hj e);
  }

  module _ (wide : 0 < whole_racks l) where
    narrow : parity_racks l ≤ l.racks - 1
    narrow = omega arith

    -- the codeword of which the helpers send these symbols
    module _ (share : ℕ → A) where
      word : ℕ → ℕ → A
      word = lift (shape_of f l) ok.usable.fits
          (sums (shape_of f l) ok.usable.fits h (host_in f l ok x helpers help) p group (λ k. get_or helpers k 0) l.helpers (parity_racks l) (helping f l ok x helpers help) narrow share)

      pub stored : List ℕ
      stored = buffer_of f l word

      pub stored_codeword : Codeword f l stored
      unfolding stored word
      stored_codeword = buffer_codeword f l _ ok.usable (reached (shape_of f l) ok.usable.fits h (host_in f l ok x helpers help) p group
          (λ k. get_or helpers k 0) l.helpers (parity_racks l)
          (helping f l ok x helpers help) narrow share (checks l) (checks_fit l))

      -- every d-tuple is the share symbols of a codeword
      pub stored_share : (k : ℕ) → k < l.helpers → share_symbol f l 0 h (rack_part l stored (get_or helpers k 0)) p ≡ share k
      unfolding stored word
      stored_share k q =
          share_word f l 0 h (buffer_of f l word) (get_or helpers k 0) p ∙ same k q
          ∙ reached_share (shape_of f l) ok.usable.fits h (host_in f l ok x helpers help) p group (λ k. get_or helpers k 0) l.helpers (parity_racks l)
          (helping f l ok x helpers help) narrow share k q
        where
          same : (k : ℕ) → k < l.helpers → wordShare (shape_of f l) 0 h (symbol_at f l (buffer_of f l word)) (get_or helpers k 0) p ≡ wordShare (shape_of f l) 0 h word (get_or helpers k 0) p
          same k q = unfold wordShare rack_sum in
              group_congr f l h p _ _ (λ j hj. sum_congr f.ops l.size _ _ (λ g hg. ap (mul (pow f.ops (place (shape_of f l) g) 0))
              (buffer_symbol f l word ok.usable (get_or helpers k 0 * l.size + g) j (cell_in l.racks l.size (get_or helpers k 0) g (help.inside k q) hg) hj)))

    -- one symbol is 1, the others 0
    unit : ℕ → ℕ → A
    unit k q = choose (eqb q k) one zero

    single : (g : ℕ → A) (k : ℕ) → k < l.helpers → sum f.ops l.helpers (λ q. mul (g q) (unit k q)) ≡ g k
    unfolding unit
    single g k hk =
        sum_single f.ops ok.usable.field.laws l.helpers k _ hk (λ q r d. ap (mul (g q)) (choose_other q k one zero d) ∙ mul_zero f.ops ok.usable.field.laws (g q))
        ∙ ap (mul (g k)) (choose_same k k one zero refl) ∙ mul_one f.ops ok.usable.field.laws (g k)

    -- and no other multipliers are right
    pub right_agrees : (card : List ℕ) → Right f l x helpers p card → Agrees card
    unfolding card_sum found
    right_agrees card right b k hb hk =
        sym (at_unit (multiplier f l card b))
        ∙ ap (card_sum f l card shares) (sym digit_is)
        ∙ right.gives c (stored_codeword (unit k)) j layer_below group_is
        ∙ codeword_sums c (stored_codeword (unit k)) j layer_below group_is
        ∙ ap (found shares) digit_is
        ∙ at_unit (right_multiplier f l h helpers p b)
      where
        j : ℕ
        j = layer_of (digits l) h p b

        c : List ℕ
        c = stored (unit k)

        shares : ℕ → A
        shares q = share_symbol f l 0 h (rack_part l c (get_or helpers q 0)) p

        at_unit : (g : ℕ → A) → sum f.ops l.helpers (λ q. mul (g q) (shares q)) ≡ g k
        at_unit g = sum_congr f.ops l.helpers _ _ (λ q r. ap (mul (g q)) (stored_share (unit k) q r)) ∙ single g k hk

        digit_is : digit (digits l) j h ≡ b
        digit_is = layer_digit (digits l) ok.usable.fits.some_digits h p b hb

        group_is : group_at l x j ≡ p
        group_is = layer_group (digits l) ok.usable.fits.some_digits h p b hb

        layer_below : j < layers l
        layer_below = layer_in (digits l) ok.usable.fits.some_digits l.racks h p b (host_in f l ok x helpers help) group hb

    -- exactly one card is right
    pub one_card : OneCard f l x helpers p
    one_card = record {
      card = table cell (digits l * l.helpers);
      printed = record { long = table_length cell (digits l * l.helpers); symbols = record { at = within } };
      right = agrees_right (table cell (digits l * l.helpers)) agrees;
      only = λ other c r. ext_get_or 0 other (table cell (digits l * l.helpers)) (c.long ∙ sym (table_length cell (digits l * l.helpers))) (λ n hn.
          let q : n < digits l * l.helpers = rw c.long at hn in
          elem_same f.coding ok.usable.field.coded _ _ (c.symbols.at n hn) (within n (rw (table_length cell (digits l * l.helpers)) q))
          (subst (λ y. f.coding.elem (get_or other y 0) ≡ f.coding.elem (get_or (table cell (digits l * l.helpers)) y 0)) (div-add-mod' n l.helpers)
          (unfold multiplier in right_agrees other r (n / l.helpers) (n % l.helpers) ((div-lt_iff_lt-mul some).1 q) (mod-lt n some)
          ∙ sym (agrees (n / l.helpers) (n % l.helpers) ((div-lt_iff_lt-mul some).1 q) (mod-lt n some)))));
    }
      where
        some : 0 < l.helpers
        some = omega (arith, (helping f l ok x helpers help).total, ok.usable.fits.some_racks, ok.usable.fits.some_digits)

        cell : ℕ → ℕ
        cell n = f.coding.val (right_multiplier f l h helpers p (n / l.helpers) (n % l.helpers))

        within : (n : ℕ) → n < length (table cell (digits l * l.helpers)) → get_or (table cell (digits l * l.helpers)) n 0 < f.coding.size
        within n q = subst (λ y. y < f.coding.size) (sym (table_at cell (digits l * l.helpers) n (rw (table_length cell (digits l * l.helpers)) at q)))
            (ok.usable.field.coded.val_below _)

        agrees : Agrees (table cell (digits l * l.helpers))
        agrees b k hb hk = unfold multiplier in
            ap f.coding.elem (table_at cell (digits l * l.helpers) (b * l.helpers + k) (cell_in (digits l) l.helpers b k hb hk)) ∙ ok.usable.field.coded.elem_val _
            ∙ ap₂ (right_multiplier f l h helpers p) (digits_div b hk) (digits_mod b hk)

    -- on any shares a right card gives the host rack sums of the rule of repair
    pub right_sums : (card : List ℕ) → Right f l x helpers p card → (share : ℕ → A) (b : ℕ) → b < digits l →
        card_sum f l card share b ≡ host_sum (shape_of f l) (x / l.size) (digit (digits l) (layer_of (digits l) (x / l.size) p 0)) (λ k. get_or helpers k 0) l.helpers
        (parity_racks l) 0 share b
    right_sums card right share b hb = card_found card (right_agrees card right) share b hb ∙ sym (found_is share b)

    module _ (card : List ℕ) (right : Right f l x helpers p card) (shares host spare : List ℕ) where
      host_sum_lem : (j : ℕ) → group_at l x j ≡ p → (rack : ℕ → ℕ → A) → Solution (shape_of f l) 0 (x / l.size) p (λ k. get_or helpers k 0) l.helpers (parity_racks l)
          (shared_symbol f l shares p) rack →
          card_sum f l card (shared_symbol f l shares p) (digit (digits l) j h) ≡ rack h j
      host_sum_lem j e rack sol =
          right_sums card right (shared_symbol f l shares p) (digit (digits l) j h) (digit_below (digits l) ok.usable.fits.some_digits j h)
          ∙ sym (solution_sums f l ok x helpers help p inside 0 (shared_symbol f l shares p) rack sol j e)

      -- what a right card makes of any shares is what document 01's rule fixes, and back
      pub carded_ruled : Carded f l x p card shares host spare → RuledOne f l x helpers shares host p spare
      carded_ruled c = record {
        sums = witness_sums f l ok x helpers help p inside 0 (shared_symbol f l shares p);
        solution = witness_solves f l ok x helpers help p inside 0 (shared_symbol f l shares p);
        holds = λ j hj e.
            c.holds j hj e
            ∙ ap (λ y. f.coding.val (add y (neg (sound_sum f l x host j)))) (host_sum_lem j e _ (witness_solves f l ok x helpers help p inside 0 (shared_symbol f l shares p)));
      }

      pub ruled_carded : RuledOne f l x helpers shares host p spare → Carded f l x p card shares host spare
      ruled_carded r = record { holds = λ j hj e. r.holds j hj e ∙ ap (λ y. f.coding.val (add y (neg (sound_sum f l x host j)))) (sym (host_sum_lem j e r.sums r.solution)) }
