-- With one codeword a call of many is the repair call. And the contract decides every answer and every byte of the spare.
-- Assumes nothing.
use mathlib.Core.Path.{◌≡◌, sym, ap, ap₂, ◌∙◌, subst}
use mathlib.Core.Bool.{◌&&◌}
use mathlib.Core.List.{List, [], ◌∷◌}
use Prim.Native.Nat.{ℕ, ◌+◌, ◌-◌, ◌*◌, ◌/◌}
use native.Mathlib.Nat.{mul-one}
use native.Mathlib.Omega.{arith}
use lib.Dec.{eqb, leb, ltb}
use lib.ListN.{length}
use Rattle.lists.specs.Lists.{all, unless, all_below, strictly_rising, absent}
use Rattle.algebra.specs.Shape.{Field}
use Rattle.algebra.specs.Plain.{Working}
use Rattle.layout.specs.declared.Layout.{Layout}
use Rattle.layout.specs.Layout.{trays, layers, groups, traffic, admissible_with}
use Rattle.rule.specs.Lost.{Piece}
use Rattle.seen.specs.Seen.{piece_symbols}
use Rattle.repair.specs.declared.Repaired.{Repaired}
use Rattle.repair.specs.declared.Repaired.TheVariants.{Done, Refused}
use Rattle.repair.specs.Repair.{repair_refusal, RepairAnswer}
use Rattle.repair.proofs.Single.{one_refusal}
use Rattle.repair.proofs.Unique.{repaired_unique}
use Rattle.batch_parts.specs.Parts.{part}
use Rattle.batch_parts.proofs.Parts.{parts_same, part_one}
use Rattle.batch_repair.specs.RepairBatch.{right_lengths, batch_symbols, repair_batch_refusal, RepairBatchAnswer}
use Rattle.batch_repair.proofs.Refusals.{passed_all}

module _ {A : Type 0} {f : Field A} (W : Working f) (l : Layout) (x : ℕ) (helpers shares host : List ℕ) (first budget : ℕ) (old new : List ℕ) where
  lengths : right_lengths l 1 (length shares) (length host) (length old) ≡ (eqb (length shares) (traffic l) && eqb (length host) (l.size * layers l) && eqb (length old) (layers l))
  unfolding right_lengths
  lengths =
      ap (λ a. eqb (length shares) a && eqb (length host) (l.size * layers l * 1) && eqb (length old) (layers l * 1)) (mul-one (traffic l))
      ∙ ap₂ (λ b c. eqb (length shares) (traffic l) && eqb (length host) b && eqb (length old) c) (mul-one (l.size * layers l)) (mul-one (layers l))

  symbols : batch_symbols f l 1 x shares host first budget ≡ piece_symbols f l (x ∷ []) shares host first budget
  unfolding batch_symbols all
  symbols = ap₂ (λ a b. piece_symbols f l (x ∷ []) a b first budget) (part_one shares) (part_one host)

  refusal_is : repair_batch_refusal f l 1 x helpers shares host (length old) first budget ≡ repair_refusal f l (x ∷ []) helpers shares host (length old) first budget
  unfolding repair_batch_refusal
  refusal_is =
      ap₂ (λ a b. unless (admissible_with f.order 0 l) 1 (unless a 2 (unless (ltb x (trays l) && all_below helpers l.racks && b) 3
      (unless (strictly_rising helpers) 4 (unless (eqb (length helpers) l.helpers) 5 (unless (absent helpers (x / l.size)) 6 (unless (leb first (groups l)) 7 0))))))) lengths symbols
      ∙ sym (one_refusal W l x helpers shares host (length old) first budget)

  -- with one codeword it is the repair call
  pub one_codeword : (r : Repaired) → RepairBatchAnswer f l 1 x helpers shares host first budget old new r → RepairAnswer f l (x ∷ []) helpers shares host first budget old new r
  one_codeword (Done g c t) a = record {
    accepted = sym refusal_is ∙ a.accepted;
    done_is = a.done_is;
    crossed_is = a.crossed_is;
    remaining_is = a.remaining_is;
    piece = subst (λ y. Piece f l (x ∷ []) helpers shares host first g old y) (part_one new)
        (subst (λ y. Piece f l (x ∷ []) helpers shares host first g y (part 1 0 new)) (part_one old)
        (subst (λ y. Piece f l (x ∷ []) helpers shares y first g (part 1 0 old) (part 1 0 new)) (part_one host)
        (subst (λ y. Piece f l (x ∷ []) helpers y (part 1 0 host) first g (part 1 0 old) (part 1 0 new)) (part_one shares) (a.parts 0 (omega arith)).piece)));
  }
  one_codeword (Refused e) a = (a.0 ∙ refusal_is, a.1, a.2)

module _ {A : Type 0} {f : Field A} (W : Working f) (l : Layout) (many x : ℕ) (helpers shares host : List ℕ) (first budget : ℕ) (old new new' : List ℕ) where
  -- two answers to one call are the same, and so are the spares they leave
  pub repaired_batch_unique : (a b : Repaired) → RepairBatchAnswer f l many x helpers shares host first budget old new a →
      RepairBatchAnswer f l many x helpers shares host first budget old new' b → (a ≡ b) × (new ≡ new')
  repaired_batch_unique (Done g c t) (Done g' c' t') p q =
      let long = (passed_all W l many x helpers shares host old first budget p.accepted).spare_long in
      let groups-same : g ≡ g' = p.done_is ∙ sym q.done_is in
      let crossed-same : c ≡ c' = p.crossed_is ∙ ap (λ n. many * (l.helpers * n)) groups-same ∙ sym q.crossed_is in
      let toCome-same : t ≡ t' = p.remaining_is ∙ ap (λ n. many * (l.helpers * (groups l - (first + n)))) groups-same ∙ sym q.remaining_is in (
        (λ i. Done (groups-same i) (crossed-same i) (toCome-same i)),
        parts_same many (layers l) new new' (p.long ∙ long) (q.long ∙ long) (λ k hk.
            (repaired_unique W l (x ∷ []) helpers (part many k shares) (part many k host) first budget (part many k old) (part many k new) (part many k new')
            (Done g (l.helpers * g) (l.helpers * (groups l - (first + g)))) (Done g' (l.helpers * g') (l.helpers * (groups l - (first + g')))) (p.parts k hk) (q.parts k hk)).1),
      )
  repaired_batch_unique (Done g c t) (Refused e) p q = absurd (omega (arith, p.accepted, q.0, q.1))
  repaired_batch_unique (Refused e) (Done g c t) p q = absurd (omega (arith, q.accepted, p.0, p.1))
  repaired_batch_unique (Refused e) (Refused e') p q = (ap Refused (p.0 ∙ sym q.0), p.2 ∙ sym q.2)
