-- Each codeword's piece of a repair, and what the contract says of it.
-- Assumes nothing.
use mathlib.Core.Path.{◌≡◌, refl, sym, ap, ap₂, ◌∙◌, subst}
use mathlib.Core.List.{List, [], ◌∷◌}
use Prim.Native.Nat.{ℕ, ◌+◌, ◌-◌, ◌*◌, ◌/◌, ◌<◌, ◌≤◌, min}
use native.Mathlib.Nat.{one-mul, mul_comm, mul-le-mul_left}
use native.Mathlib.Omega.{arith}
use lib.ListN.{length, get_or}
use borrow.Author.Tests.{leb-true}
use Rattle.lists.proofs.Numbers.{cell_in, mul_below}
use Rattle.algebra.specs.Erasure.{choose}
use Rattle.algebra.specs.Shape.{Field}
use Rattle.algebra.specs.Plain.{Working}
use Rattle.algebra.specs.Layers.{digit, layer_of}
use Rattle.algebra.proofs.Layers.{digit_below, layer_group, layer_back}
use Rattle.algebra.proofs.Sum.{sum_congr}
use Rattle.kernel.specs.Inner.{cell}
use Rattle.layout.specs.declared.Layout.{Layout}
use Rattle.layout.specs.Layout.{digits, layers, groups, tray_limit, Cabinet}
use Rattle.layout.proofs.Facts.{bounds, rack_in}
use Rattle.layout.proofs.Numbers.{whole_low, digits_small}
use Rattle.codeword.specs.Codeword.{symbol_at, Solvable}
use Rattle.codeword.proofs.Usable.{solvable}
use Rattle.blocks.specs.Inner.{room_limit}
use Rattle.rule.specs.Rule.{group_at, shared_symbol, sound_sum}
use Rattle.rule.specs.Lost.{Piece, Ruled}
use Rattle.rule.proofs.Single.{front, zero_is, lost_one}
use Rattle.card.specs.Card.{multiplier, card_sum, host_digit, Right, Carded}
use Rattle.card.proofs.Right.{agrees_right, carded_ruled}
use Rattle.multipliers.specs.Inner.{Grouped, Multipliers}
use Rattle.pieces.proofs.Pieces.{piece_none, piece_more}
use Rattle.batch_parts.specs.Parts.{part}
use Rattle.batch_parts.proofs.Parts.{part_long, part_at}
use Rattle.repair.specs.declared.Repaired.TheVariants.{Done}
use Rattle.batch_repair.specs.RepairBatch.{repair_batch_refusal, RepairBatchAnswer}
use Rattle.batch_repair.specs.Inner.{Layering, repaired_at, GroupRepaired, Told, BatchPiece}
use Rattle.batch_repair.proofs.Refusals.{passed_all, told_of, part_accepted}

module _ {A : Type 0} {f : Field A} (W : Working f) (l : Layout) (many x : ℕ) (helpers shares host : List ℕ) where
  open f use {ops}
  open f.coding use {elem, val}

  -- ---- one group
  module _ (p : ℕ) (spare : List ℕ) (t : Told f l many x helpers shares host p 1 spare) where
    inside : p < groups l
    inside = omega (arith, t.within)

    pub grouped : Grouped l (x / l.size) p helpers
    grouped = record {
      chosen = record {
        adm = t.adm.admissible.cabinet;
        plain = t.adm.errors_are;
        host_in = rack_in l t.adm.admissible.cabinet x t.help.lost_in;
        many = t.help.many;
        inside = t.help.inside;
        rising = t.help.rising;
        other = t.help.other;
      };
      inside = inside;
    }

    pub layering : (card : List ℕ) → room_limit ≤ length card → Layering l many x card shares host p spare
    layering card long = record {
      wide = record { adm = t.adm.admissible.cabinet; lost_in = t.help.lost_in; shares_long = t.shares_long; host_long = t.host_long };
      card_long =
          let a = t.adm.admissible.cabinet in
          let b = bounds l a in
          let e : digits l * l.helpers < 241 = mul_below 4 tray_limit (digits_small l a) (omega (arith, a.helpers_high)) tt in
          omega arith;
      spare_long = t.spare_long;
      group_in = inside;
    }

    abbrev ok : Solvable f l
    ok = solvable W l t.adm

    some : 1 ≤ digits l
    some = (bounds l t.adm.admissible.cabinet).digits_low

    module _ (card : List ℕ) (m : Multipliers f l (x / l.size) p helpers card) (new : List ℕ) (g : GroupRepaired f l many x card shares host p (digits l) spare new) where
      right : Right f l x helpers p card
      unfolding multiplier cell
      right = agrees_right f l ok x helpers t.help p inside card (λ b k hb hk. m.at b k hb hk)

      new_long : length new ≡ layers l * many
      new_long = g.long ∙ t.spare_long

      module _ (q : ℕ) (hq : q < many) where
        share_at : (k : ℕ) → k < l.helpers → elem (get_or shares ((k * groups l + p) * many + q) 0) ≡ shared_symbol f l (part many q shares) p k
        unfolding shared_symbol
        share_at k hk = ap elem (sym (part_at many q hq shares (l.helpers * groups l) t.shares_long (k * groups l + p) (cell_in l.helpers (groups l) k p hk inside)))

        host_at : (c j : ℕ) → c < l.size → j < layers l → elem (get_or host ((c * layers l + j) * many + q) 0) ≡ symbol_at f l (part many q host) c j
        unfolding symbol_at
        host_at c j hc hj = ap elem (sym (part_at many q hq host (l.size * layers l) t.host_long (c * layers l + j) (cell_in l.size (layers l) c j hc hj)))

        -- the layer of the group with the layer's own host digit
        back : (j : ℕ) → group_at l x j ≡ p → layer_of (digits l) (x / l.size) p (host_digit l x j) ≡ j
        back j e = ap (λ n. layer_of (digits l) (x / l.size) n (digit (digits l) j (x / l.size))) (sym e) ∙ layer_back (digits l) some (x / l.size) j

        carded : Carded f l x p card (part many q shares) (part many q host) (part many q new)
        unfolding repaired_at card_sum sound_sum
        carded = record {
          holds = λ j hj e.
              let b = host_digit l x j in
              part_at many q hq new (layers l) new_long j hj
              ∙ ap (λ n. get_or new (n * many + q) 0) (sym (back j e))
              ∙ g.done b q (digit_below (digits l) some j (x / l.size)) hq
              ∙ ap₂ (λ a c. val (ops.add a (ops.neg c)))
              (sum_congr ops l.helpers _ _ (λ k hk. ap (ops.mul (multiplier f l card b k)) (share_at k hk)))
              (sum_congr ops l.size _ _ (λ c hc. ap (choose _ ops.zero)
              (ap (λ n. elem (get_or host ((c * layers l + n) * many + q) 0)) (back j e) ∙ host_at c j hc hj)));
        }

        ruled : Ruled f l (x ∷ []) helpers (part many q shares) (part many q host) p (part many q new)
        ruled = lost_one f l ok.usable x helpers (part many q shares) (part many q host) p (part many q new)
            (carded_ruled f l ok x helpers t.help p inside (whole_low l t.adm.admissible.cabinet) card right (part many q shares) (part many q host) (part many q new) carded)

        kept : (j : ℕ) → j < layers l → ¬ (group_at l x j ≡ p) → get_or (part many q new) j 0 ≡ get_or (part many q spare) j 0
        kept j hj out =
            part_at many q hq new (layers l) new_long j hj
            ∙ g.other j q hq (λ b hb e. out (ap (group_at l x) e ∙ layer_group (digits l) some (x / l.size) p b hb))
            ∙ sym (part_at many q hq spare (layers l) t.spare_long j hj)

      pub group_piece : BatchPiece f l many x helpers shares host p 1 spare new
      group_piece = record {
        long = g.long;
        parts = λ q hq. record {
          long = part_long many q hq new (layers l) new_long ∙ sym (part_long many q hq spare (layers l) t.spare_long);
          done = λ n h k.
              let e : p ≡ n = omega arith in
              subst (λ y. Ruled f l (x ∷ []) helpers (part many q shares) (part many q host) y (part many q new)) e (ruled q hq);
          kept = λ i k j hj out.
              subst (λ n. get_or (part many q new) (n * layers l + j) 0 ≡ get_or (part many q spare) (n * layers l + j) 0) (zero_is i k)
              (subst (λ n. get_or (part many q new) n 0 ≡ get_or (part many q spare) n 0) (sym (front (layers l) j))
              (kept q hq j hj (λ e. out (omega arith, omega arith))));
        };
      }

  -- ---- group after group
  pub pieces_none : (first : ℕ) (spare : List ℕ) → BatchPiece f l many x helpers shares host first 0 spare spare
  pieces_none first spare = record { long = refl; parts = λ q hq. piece_none f l (x ∷ []) helpers (part many q shares) (part many q host) first (part many q spare) }

  pub pieces_more : (first k p : ℕ) (was is new : List ℕ) → p ≡ first + k → BatchPiece f l many x helpers shares host first k was is →
      BatchPiece f l many x helpers shares host p 1 is new → BatchPiece f l many x helpers shares host first (k + 1) was new
  pieces_more first k p was is new e b n = record {
    long = n.long ∙ b.long;
    parts = λ q hq.
        piece_more f l (x ∷ []) helpers (part many q shares) (part many q host) first k 1 (part many q was) (part many q is) (part many q new) (b.parts q hq)
        (subst (λ y. Piece f l (x ∷ []) helpers (part many q shares) (part many q host) y 1 (part many q is) (part many q new)) e (n.parts q hq));
  }

  pub pieces_end : (first k count : ℕ) (was is : List ℕ) → BatchPiece f l many x helpers shares host first k was is → k ≤ count → count ≤ k →
      BatchPiece f l many x helpers shares host first count was is
  pieces_end first k count was is b h n = subst (λ y. BatchPiece f l many x helpers shares host first y was is) (omega arith) b

  pub told_next : (first count k p : ℕ) (was is : List ℕ) → Told f l many x helpers shares host first count was → p ≡ first + k → k < count → length is ≡ length was →
      Told f l many x helpers shares host p 1 is
  told_next first count k p was is t e h same = record {
    adm = t.adm;
    help = t.help;
    shares_long = t.shares_long;
    host_long = t.host_long;
    spare_long = same ∙ t.spare_long;
    within = omega (arith, t.within);
  }

-- ---- the contract
module _ {A : Type 0} {f : Field A} (W : Working f) (l : Layout) (many x : ℕ) (helpers shares host old : List ℕ) (first budget : ℕ)
    (none : repair_batch_refusal f l many x helpers shares host (length old) first budget ≡ 0) where
  -- what is reported is a number
  pub report_in : (n : ℕ) → n ≤ groups l → many * (l.helpers * n) ≤ length shares
  report_in n h =
      let e = (passed_all W l many x helpers shares host old first budget none).shares_long in
      omega (arith, mul-le-mul_left many (mul-le-mul_left l.helpers h), mul_comm many (l.helpers * groups l), e)

  pub first_below : (g : ℕ) → g ≡ groups l → first ≤ g
  first_below g e = omega (arith, leb-true first (groups l) (passed_all W l many x helpers shares host old first budget none).first_in)

  pub cabinet_of : Cabinet l
  cabinet_of = (told_of W l many x helpers shares host old first budget none (min budget (groups l - first)) refl).adm.admissible.cabinet

  pub answer_done : (g n c t y : ℕ) (new : List ℕ) → g ≡ groups l → n ≡ min budget (g - first) → c ≡ many * (l.helpers * n) → t ≡ many * (l.helpers * (g - first - n)) → y ≡ x →
      BatchPiece f l many y helpers shares host first n old new → RepairBatchAnswer f l many x helpers shares host first budget old new (Done n c t)
  answer_done g n c t y new eg en ec et ey b =
      let done : n ≡ min budget (groups l - first) = en ∙ ap (λ (y : ℕ). min budget (y - first)) eg in
      let m : g - first - n ≡ groups l - (first + n) = omega arith in
      record {
        accepted = none;
        done_is = done;
        crossed_is = ec;
        remaining_is = et ∙ ap (λ (k : ℕ). many * (l.helpers * k)) m;
        long = b.long;
        parts = λ q hq. record {
          accepted = part_accepted W l many x helpers shares host old first budget none q hq;
          done_is = done;
          crossed_is = sym (one-mul (l.helpers * n));
          remaining_is = sym (one-mul (l.helpers * (groups l - (first + n))));
          piece = subst (λ z. Piece f l (z ∷ []) helpers (part many q shares) (part many q host) first n (part many q old) (part many q new)) ey (b.parts q hq);
        };
      }
