-- What a repair leaves of the spare, and what it never looks at. Over any field.
-- Assumes nothing.
use mathlib.Core.Path.{◌≡◌, refl, sym, ap, subst, ◌∙◌}
use mathlib.Core.Bool.{Bool, true, false, cond, ◌&&◌}
use mathlib.Core.List.{List}
use mathlib.Core.Logic.{◌⊎◌, ⊎_elim}
use Prim.Native.Nat.{ℕ, ◌+◌, ◌-◌, ◌*◌, ◌/◌, ◌%◌, ◌<◌, ◌≤◌, min}
use native.Mathlib.Decide.{dec_le, dec_lt}
use native.Mathlib.Omega.{arith}
use borrow.Author.Tests.{le-leb, leb-true, ltb-true}
use lib.Arith.{digits_mod}
use lib.Dec.{leb, ltb, eqb}
use lib.ListN.{length, get_or}
use lib.Seq.{ext_get_or}
use Rattle.lists.specs.Lists.{all, absent}
use Rattle.lists.proofs.Bools.{all_same, not_both}
use Rattle.lists.proofs.Numbered.{absent_true}
use Rattle.algebra.specs.Shape.{Field}
use Rattle.algebra.specs.Plain.{Working}
use Rattle.algebra.specs.Layers.{group_of}
use Rattle.layout.specs.declared.Layout.{Layout}
use Rattle.layout.specs.Layout.{digits, layers, groups}
use Rattle.range.specs.Range.{symbols_from, symbol_rows}
use Rattle.range.proofs.Symbols.{symbols_true}
use Rattle.codeword.specs.Codeword.{symbol_at, Solvable}
use Rattle.codeword.proofs.Usable.{usable, solvable}
use Rattle.codeword.proofs.Buffers.{layers_pos}
use Rattle.rule.specs.Rule.{group_at, Outside}
use Rattle.rule.specs.Lost.{first_lost, lost_place, Losses, sent_symbol, SoundAlike, Piece}
use Rattle.rule.proofs.Lost.{ruled_same}
use Rattle.seen.specs.Seen.{layer_symbol, sound_symbols, piece_symbols}
use Rattle.seen.proofs.Piece.{passes}
use Rattle.repair.specs.declared.Repaired.{Repaired}
use Rattle.repair.specs.declared.Repaired.TheVariants.{Done, Refused}
use Rattle.repair.specs.Repair.{repair_refusal, report, RepairDone, RepairAnswer}
use Rattle.repair.proofs.Refusals.{repairable}
use Rattle.repair.proofs.Pieces.{kept_at}
use Rattle.repair.proofs.Cutting.{same_group}

module _ {A : Type 0} {f : Field A} (W : Working f) (l : Layout) (lost helpers shares host : List ℕ) (first budget : ℕ) (old new : List ℕ) where
  -- a call writes its own groups' layers only
  pub own_groups : (r : Repaired) → RepairAnswer f l lost helpers shares host first budget old new r →
      (length new ≡ length old) × ((n : ℕ) → n < length old → Outside l (first_lost l lost) first (report r).groups (n % layers l) → get_or new n 0 ≡ get_or old n 0)
  own_groups (Done g c t) p =
      let made = repairable f l lost helpers shares host (length old) first budget p.accepted in (
        p.piece.long,
        λ n h out. kept_at (length lost) (layers l) (layers_pos f l (usable W l made.adm.admissible)) n old new (omega (arith, h, made.spare_long))
            (λ i hi j hj e. p.piece.kept i hi j hj (subst (λ y. Outside l (first_lost l lost) first g y) (sym e) out)),
      )
  own_groups (Refused e) p = (ap length p.2, λ n h out. ap (λ s. get_or s n 0) p.2)

  -- no group done: nothing written
  idle : (r : Repaired) → RepairAnswer f l lost helpers shares host first budget old new r → (report r).groups ≡ 0 → new ≡ old
  idle r p z =
      let own = own_groups r p in
      ext_get_or 0 new old own.0 (λ n h. own.1 n (omega (arith, h, own.0)) (λ w. omega (arith, z, w.0, w.1)))

  no_group : (r : Repaired) → RepairAnswer f l lost helpers shares host first budget old new r → (budget ≡ 0) ⊎ (first ≡ groups l) → (report r).groups ≡ 0
  no_group (Done g c t) p why = ⊎_elim (λ e. omega (arith, p.done_is, e)) (λ e. omega (arith, p.done_is, e)) why
  no_group (Refused e) p why = refl

  -- a budget of 0, or a first group of L/s, does nothing
  pub nothing : (r : Repaired) → RepairAnswer f l lost helpers shares host first budget old new r → (budget ≡ 0) ⊎ (first ≡ groups l) →
      (new ≡ old) × ((report r).groups ≡ 0)
  nothing r p why = (idle r p (no_group r p why), no_group r p why)

  -- what a call that is done reports
  pub reports : (r : Repaired) → RepairAnswer f l lost helpers shares host first budget old new r → (report r).refusal ≡ 0 →
      ((report r).groups ≡ min budget (groups l - first)) × ((report r).crossed ≡ length lost * (l.helpers * (report r).groups))
      × ((report r).remaining ≡ length lost * (l.helpers * (groups l - (first + (report r).groups))))
  reports (Done g c t) p z = (p.done_is, p.crossed_is, p.remaining_is)
  reports (Refused e) p z = absurd (omega (arith, p.1, z))

-- two calls that both do a group, alike in what they are given of it, write the same there: a refused one does none
module _ {A : Type 0} {f : Field A} (W : Working f) (l : Layout) (lost helpers shares host shares' host' : List ℕ) (first budget first' budget' : ℕ) (old new old' new' : List ℕ) where
  none_done : (n p : ℕ) → n ≤ p → p < n + 0 → ⊥
  none_done n p a b = omega arith

  pub same_group_of : (r r' : Repaired) →
      RepairAnswer f l lost helpers shares host first budget old new r → RepairAnswer f l lost helpers shares' host' first' budget' old' new' r' →
      (p : ℕ) → (first ≤ p) × (p < first + (report r).groups) → (first' ≤ p) × (p < first' + (report r').groups) →
      ((m k : ℕ) → m < length lost → k < l.helpers → sent_symbol f l (length lost) shares m p k ≡ sent_symbol f l (length lost) shares' m p k) →
      ((j : ℕ) → j < layers l → group_at l (first_lost l lost) j ≡ p → SoundAlike f l lost j host host') →
      (i : ℕ) → i < length lost → (j : ℕ) → j < layers l → group_at l (first_lost l lost) j ≡ p → get_or new (i * layers l + j) 0 ≡ get_or new' (i * layers l + j) 0
  same_group_of (Done g c t) (Done g' c' t') a b p d e =
      same_group W l lost helpers (record { shares = shares; host = host; first = first; budget = budget; old = old; new = new; done = g; crossed = c; to_come = t; answer = a })
      (record { shares = shares'; host = host'; first = first'; budget = budget'; old = old'; new = new'; done = g'; crossed = c'; to_come = t'; answer = b }) p d e
  same_group_of (Done g c t) (Refused n) a b p d e = absurd (none_done first' p e.0 e.1)
  same_group_of (Refused n) r' a b p d e = absurd (none_done first p d.0 d.1)

-- a call that has nothing to do looks at nothing, so that its grounds are those of a budget of 0 from group 0 on
module _ {A : Type 0} (f : Field A) (l : Layout) (lost helpers shares host : List ℕ) (spare : ℕ) where
  away : (first h g j : ℕ) → layer_symbol f l h host first 0 g j ≡ true
  unfolding layer_symbol
  away first h g j = ap (λ b. cond b (symbols_from f host (g * layers l + j) 1) true)
      (not_both (leb first (group_of (digits l) h j)) (ltb (group_of (digits l) h j) (first + 0)) (λ x y.
      let p = leb-true first (group_of (digits l) h j) x in let q = ltb-true (group_of (digits l) h j) (first + 0) y in omega arith))

  unseen : (first budget : ℕ) → min budget (groups l - first) ≡ 0 → piece_symbols f l lost shares host first budget ≡ true
  unseen first budget z = passes f l lost shares host first budget
      (λ r hr. subst (λ c. symbols_from f shares (r * groups l + first) c ≡ true) (sym z) (sym (symbols_true f shares (r * groups l + first) 0 (λ i hi. absurd (omega arith)))))
      (λ g hg a j hj. subst (λ c. layer_symbol f l (first_lost l lost / l.size) host first c g j ≡ true) (sym z) (away first (first_lost l lost / l.size) g j))

  pub no_ground : (first budget : ℕ) → (budget ≡ 0) ⊎ (first ≡ groups l) → first ≤ groups l →
      repair_refusal f l lost helpers shares host spare first budget ≡ repair_refusal f l lost helpers shares host spare 0 0
  unfolding repair_refusal
  no_ground first budget why fits =
      let none : min budget (groups l - first) ≡ 0 = ⊎_elim (λ e. omega arith) (λ e. omega arith) why in
      simp (unseen first budget none, unseen 0 0 (omega arith), le-leb first (groups l) fits, le-leb 0 (groups l) (omega arith))
