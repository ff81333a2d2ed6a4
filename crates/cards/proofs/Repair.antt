-- A group repaired by a right card's sums is as the rule of repair fixes it.
-- Assumes nothing.
use mathlib.Core.Path.{◌≡◌, sym, ap, ap₂, subst, fun_ext, ◌∙◌}
use mathlib.Core.List.{List, [], ◌∷◌}
use Prim.Native.Nat.{ℕ, ◌+◌, ◌*◌, ◌/◌, ◌<◌, ◌≤◌}
use native.Mathlib.Nat.{one-mul, add-zero}
use native.Mathlib.Decide.{ℕ_discrete}
use native.Mathlib.Omega.{arith}
use lib.ListN.{length, get_or}
use Rattle.algebra.specs.Shape.{Field}
use Rattle.algebra.specs.Plain.{minus, times, Working}
use Rattle.algebra.specs.Layers.{digit, layer_of}
use Rattle.algebra.specs.Repair.{host_sum}
use Rattle.algebra.proofs.Plain.{elem_minus, elem_times}
use Rattle.algebra.proofs.Ring.{ring}
use Rattle.algebra.proofs.Sum.{sum_zero, sum_add_one}
use Rattle.kernel.specs.Inner.{Run, filled, cell}
use Rattle.layout.specs.declared.Layout.{Layout}
use Rattle.layout.specs.Layout.{digits, layers, groups, parity_racks}
use Rattle.layout.proofs.Facts.{bounds, rack_in}
use Rattle.layout.proofs.Numbers.{digits_small, whole_low}
use Rattle.codeword.specs.Codeword.{shape_of, Solvable}
use Rattle.codeword.proofs.Usable.{solvable}
use Rattle.blocks.proofs.Room.{row_of, row_long}
use Rattle.rule.specs.Rule.{shared_symbol}
use Rattle.rule.specs.Lost.{Piece}
use Rattle.rule.proofs.Single.{zero_is, sent_is, one_loss}
use Rattle.sums.specs.Inner.{sum_at, Groups, SumsTo}
use Rattle.group.specs.Inner.{Repairing, Workspace, BlockRepaired}
use Rattle.group.proofs.Repair.{repaired_piece}
use Rattle.card.specs.Card.{multiplier, card_sum}
use Rattle.card.proofs.Right.{right_sums}
use Rattle.multipliers.proofs.Sides.{block_of}
use Rattle.cards.specs.Inner.{part_sum, SumsBelow, CardRepairing}
use Rattle.cards.proofs.Grounds.{grouped_of}

module _ {A : Type 0} {f : Field A} (W : Working f) where
  open f use {ops}
  open f.coding use {elem}
  open W.field use {laws}
  open f.ops use {add, mul, neg}

  -- ---- less the card's sum, term by term
  module _ (card shares : List ℕ) (d m p b : ℕ) where
    pub part_none : elem 0 ≡ neg (part_sum f card shares d m p b 0)
    unfolding part_sum
    part_none = W.zero_is ∙ none ∙ sym (ap neg (sum_zero ops _))
      where
        none : ops.zero ≡ neg ops.zero
        none = simp (ring, laws)

    pub part_more : (k v c s w y i j : ℕ) → elem v ≡ neg (part_sum f card shares d m p b k) → i ≡ b * d + k → c ≡ get_or card i 0 → j ≡ k * m + p → s ≡ get_or shares j 0 →
        w ≡ times f c s → y ≡ minus f v w →
        elem y ≡ neg (part_sum f card shares d m p b (k + 1))
    unfolding part_sum
    part_more k v c s w y i j ev ei ec ej es ew ey =
        ap elem ey ∙ elem_minus W v w
        ∙ ap₂ (λ a b. add a (neg b)) ev (ap elem ew ∙ elem_times W c s ∙ ap₂ (λ a b. mul (elem a) (elem b)) (ec ∙ ap (λ n. get_or card n 0) ei) (es ∙ ap (λ n. get_or shares n 0) ej))
        ∙ less _ _ ∙ ap neg (sym (sum_add_one ops k _))
      where
        less : (a b : A) → add (neg a) (neg b) ≡ neg (add a b)
        less a b = simp (ring, laws)

    pub part_all : (l : Layout) (k : ℕ) (v : ℕ) → d ≡ l.helpers → m ≡ groups l → elem v ≡ neg (part_sum f card shares d m p b k) → k ≤ d → d ≤ k →
        elem v ≡ neg (card_sum f l card (shared_symbol f l shares p) b)
    unfolding part_sum card_sum multiplier shared_symbol
    part_all l k v ed em ev h q =
        let e : k ≡ d = omega arith in
        ev ∙ ap (λ n. neg (part_sum f card shares d m p b n)) e ∙ ap₂ (λ d m. neg (part_sum f card shares d m p b d)) ed em

  module _ (l : Layout) (card shares : List ℕ) (p : ℕ) where
    pub below_none : (sums : List ℕ) → SumsBelow f l card shares p 0 sums
    below_none sums = record { at = λ b h. absurd (omega arith) }

    pub sums_more : (b v : ℕ) (was is : List ℕ) → SumsBelow f l card shares p b was → elem v ≡ neg (card_sum f l card (shared_symbol f l shares p) b) → Run (filled v) was is b 1 →
        SumsBelow f l card shares p (b + 1) is
    unfolding filled
    sums_more b v was is s e r = record { at = λ i hi. go i hi (ℕ_discrete i b) }
      where
        go : (i : ℕ) → i < b + 1 → Dec (i ≡ b) → elem (get_or is i 0) ≡ neg (card_sum f l card (shared_symbol f l shares p) i)
        go i hi (yes q) = ap (λ n. elem (get_or is n 0)) (here i q) ∙ ap elem (r.done 0 (omega arith)) ∙ e ∙ ap (λ n. neg (card_sum f l card (shared_symbol f l shares p) n)) (sym q)
          where
            here : (i : ℕ) → i ≡ b → i ≡ b + 0
            here i q = omega arith
        go i hi (no d) = ap elem (r.low i (omega arith)) ∙ s.at i (omega arith)

    pub sums_end : (b s : ℕ) (sums : List ℕ) → SumsBelow f l card shares p b sums → b ≤ s → s ≤ b → s ≡ digits l → SumsBelow f l card shares p (digits l) sums
    sums_end b s sums q h k e = record { at = λ c hc. q.at c (omega arith) }

  -- ---- the repair
  module _ (l : Layout) (x : ℕ) (helpers card shares host : List ℕ) (p : ℕ) (spare : List ℕ) (g : CardRepairing f l x helpers card shares host p spare) where
    abbrev ok : Solvable f l
    ok = solvable W l g.adm

    one : Groups l 1 p
    one = block_of l (x / l.size) p helpers (grouped_of l x helpers p g.adm g.help g.carding.inside)

    -- the sums by the card are the rule's
    sums_to : (sums : List ℕ) → SumsBelow f l card shares p (digits l) sums → SumsTo f l (x / l.size) 1 p helpers shares 1 1 sums
    unfolding cell sum_at
    sums_to sums s = record {
      at = λ m a j hm ha hj.
          subst (λ q. elem (get_or sums ((q * digits l + a) * 1 + j) 0) ≡ neg (sum_at f l (x / l.size) (p + j) helpers shares 1 q a)) (zero_is m hm)
          (subst (λ i. elem (get_or sums ((0 * digits l + a) * 1 + i) 0) ≡ neg (sum_at f l (x / l.size) (p + i) helpers shares 1 0 a)) (zero_is j hj)
          (ap (λ i. elem (get_or sums i 0)) (place (digits l) a) ∙ s.at a ha
          ∙ ap neg (right_sums f l ok x helpers g.help p g.carding.inside (whole_low l g.adm.admissible.cabinet) card g.right (shared_symbol f l shares p) a ha
          ∙ ap (λ y. host_sum (shape_of f l) (x / l.size) (digit (digits l) (layer_of (digits l) (x / l.size) p 0)) (λ k. get_or helpers k 0) l.helpers (parity_racks l) 0 y a)
          (fun_ext (λ k. sym (sent_is f l ok.usable x shares p k)))
          ∙ ap (λ q. sum_at f l (x / l.size) q helpers shares 1 0 a) (sym (add-zero p)))));
    }
      where
        place : (s a : ℕ) → (0 * s + a) * 1 + 0 ≡ a
        place s a = omega arith

    pub repaired : (sums new : List ℕ) → SumsBelow f l card shares p (digits l) sums → BlockRepaired f l (x / l.size) (x ∷ []) host 1 p sums (digits l) spare new →
        Piece f l (x ∷ []) helpers shares host p 1 spare new
    unfolding one
    repaired sums new s q =
        repaired_piece W l (x ∷ []) helpers shares host 1 p sums g.adm (one_loss f l ok x helpers g.help) one.block one.inside (sums_to sums s) spare new q

    pub repairing_of : (sums : List ℕ) → length sums ≡ length row_of → Repairing f l (x / l.size) (x ∷ []) host 1 p sums
    unfolding one
    repairing_of sums e = record {
      losing = record {
        adm = g.adm.admissible.cabinet;
        host_in = rack_in l g.adm.admissible.cabinet x g.help.lost_in;
        some = omega arith;
        few = (bounds l g.adm.admissible.cabinet).size_low;
        one_rack_lem = (one_loss f l ok x helpers g.help).one_rack_lem;
        host_long = g.host_long;
      };
      block = one;
      sums_long = omega (arith, digits_small l g.adm.admissible.cabinet, e, row_long);
    }

    pub spare_there : length spare ≡ 1 * layers l
    spare_there = g.spare_long ∙ sym (one-mul (layers l))

-- the arrays
pub rows : Workspace 1 1 row_of row_of row_of row_of row_of row_of
rows = record { few = omega arith; rests_long = row; found_long = row; places_long = row; coefs_long = row; row_long = row; cur_long = row }
  where
    row : 1 ≤ length row_of
    row = rw row_long (omega arith)
