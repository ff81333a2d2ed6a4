-- The contract of a repair decides its answer and every symbol of the spare.
-- Assumes nothing.
use mathlib.Core.Path.{◌≡◌, refl, sym, ap, ◌∙◌}
use mathlib.Core.List.{List}
use Prim.Native.Nat.{ℕ, ◌+◌, ◌-◌, ◌*◌, ◌<◌, ◌≤◌}
use native.Mathlib.Decide.{dec_le, dec_lt}
use native.Mathlib.Omega.{arith}
use lib.ListN.{length, get_or}
use lib.Seq.{ext_get_or}
use Rattle.algebra.specs.Shape.{Field}
use Rattle.algebra.specs.Plain.{Working}
use Rattle.layout.specs.declared.Layout.{Layout}
use Rattle.layout.specs.Layout.{layers, groups}
use Rattle.codeword.specs.Codeword.{Solvable}
use Rattle.codeword.proofs.Usable.{solvable}
use Rattle.codeword.proofs.Buffers.{layers_pos}
use Rattle.rule.specs.Rule.{group_at}
use Rattle.rule.specs.Lost.{first_lost, Losses, Piece}
use Rattle.rule.proofs.Lost.{ruled_same}
use Rattle.repair.specs.declared.Repaired.{Repaired}
use Rattle.repair.specs.declared.Repaired.TheVariants.{Done, Refused}
use Rattle.repair.specs.Repair.{repair_refusal, report, RepairDone, RepairAnswer}
use Rattle.repair.proofs.Refusals.{repairable}
use Rattle.repair.proofs.Pieces.{kept_at}

module _ {A : Type 0} (f : Field A) (l : Layout) (lost helpers shares host : List ℕ) (first : ℕ) (old new new' : List ℕ) where
  -- two pieces of the same groups over the same spare write the same
  same_piece : Solvable f l → Losses l lost helpers → (g : ℕ) → first + g ≤ groups l → length old ≡ length lost * layers l →
      Piece f l lost helpers shares host first g old new → Piece f l lost helpers shares host first g old new' → new ≡ new'
  same_piece ok given g within long a b =
      ext_get_or 0 new new' (a.long ∙ sym b.long)
      (λ n hn. kept_at (length lost) (layers l) (layers_pos f l ok.usable) n new' new (omega (arith, hn, a.long, long))
      (λ i hi j hj _. at i hi j hj (group_at l (first_lost l lost) j) refl))
    where
      at : (i : ℕ) → i < length lost → (j : ℕ) → j < layers l → (p : ℕ) → group_at l (first_lost l lost) j ≡ p → get_or new (i * layers l + j) 0 ≡ get_or new' (i * layers l + j) 0
      at i hi j hj p e = elim (dec_le first p) [
        | yes low ↦ elim (dec_lt p (first + g)) [
          | yes high ↦ ruled_same f l ok lost helpers given p (omega arith) shares shares host host new new' (a.done p low high) (b.done p low high)
              (λ m k hm hk. refl) (λ q hq d y hy out. refl) i hi j hj e
          | no high ↦ a.kept i hi j hj (λ w. high (omega arith)) ∙ sym (b.kept i hi j hj (λ w. high (omega arith)))
        ]
        | no low ↦ a.kept i hi j hj (λ w. low (omega arith)) ∙ sym (b.kept i hi j hj (λ w. low (omega arith)))
      ]

module _ {A : Type 0} {f : Field A} (W : Working f) (l : Layout) (lost helpers shares host : List ℕ) (first budget : ℕ) (old new new' : List ℕ) where
  both_done : (g c t g' c' t' : ℕ) → RepairDone f l lost helpers shares host first budget old new (report (Done g c t)) →
      RepairDone f l lost helpers shares host first budget old new' (report (Done g' c' t')) → (Done g c t ≡ Done g' c' t') × (new ≡ new')
  both_done g c t g' c' t' a b =
      let made = repairable f l lost helpers shares host (length old) first budget a.accepted in
      let groups-same : g ≡ g' = a.done_is ∙ sym b.done_is in
      let crossed-same : c ≡ c' = a.crossed_is ∙ ap (λ n. length lost * (l.helpers * n)) groups-same ∙ sym b.crossed_is in
      let toCome-same : t ≡ t' = a.remaining_is ∙ ap (λ n. length lost * (l.helpers * (groups l - (first + n)))) groups-same ∙ sym b.remaining_is in (
        (λ i. Done (groups-same i) (crossed-same i) (toCome-same i)),
        same_piece f l lost helpers shares host first old new new' (solvable W l made.adm) made.losses g (omega (arith, a.done_is, made.first_in)) made.spare_long a.piece
            (rw groups-same b.piece),
      )

  done_refused : {B : Type 0} (z : repair_refusal f l lost helpers shares host (length old) first budget ≡ 0) (new'' : List ℕ) (e : ℕ) →
      RepairAnswer f l lost helpers shares host first budget old new'' (Refused e) → B
  done_refused z new'' e r = absurd (omega (arith, z, r.0, r.1))

  -- two answers to one call are the same, and so are the spares they leave
  pub repaired_unique : (a b : Repaired) → RepairAnswer f l lost helpers shares host first budget old new a → RepairAnswer f l lost helpers shares host first budget old new' b →
      (a ≡ b) × (new ≡ new')
  repaired_unique (Done g c t) (Done g' c' t') p q = both_done g c t g' c' t' p q
  repaired_unique (Done g c t) (Refused e) p q = done_refused p.accepted new' e q
  repaired_unique (Refused e) (Done g c t) p q = done_refused q.accepted new e p
  repaired_unique (Refused e) (Refused e') p q = (ap Refused (p.0 ∙ sym q.0), p.2 ∙ sym q.2)
