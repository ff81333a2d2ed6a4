-- Reading while repairing gives the codeword's symbols.
-- Assumes nothing.
use mathlib.Core.Path.{◌≡◌, refl, sym, ap, ◌∙◌}
use mathlib.Core.Bool.{Bool, true, false, cond, not, ◌||◌}
use mathlib.Core.List.{List, []}
use Prim.Native.Nat.{ℕ, ◌+◌, ◌-◌, ◌*◌, ◌≤◌, ◌<◌}
use native.Mathlib.Decide.{ℕ_discrete}
use native.Mathlib.Nat.{add_assoc as plus_assoc}
use native.Mathlib.Omega.{arith}
use lib.Dec.{eqb, ltb}
use lib.ListN.{length, get_or, take, drop, length-drop}
use lib.Seq.{ext_get_or, get_or-take, get_or-drop, length-take-le}
use borrow.Author.Tests.{eq-eqb, ne_eqb}
use Rattle.lists.specs.Lists.{all}
use Rattle.algebra.specs.Shape.{Field}
use Rattle.algebra.specs.Plain.{Working}
use Rattle.layout.specs.declared.Layout.{Layout}
use Rattle.layout.specs.declared.Tray.{Tray}
use Rattle.layout.specs.Layout.{trays, layers}
use Rattle.codeword.proofs.Usable.{solvable}
use Rattle.codeword.proofs.Buffers.{layers_pos}
use Rattle.rule.specs.Rule.{tray_part, group_at}
use Rattle.rule.proofs.Racks.{tray_long, tray_at}
use Rattle.rule.proofs.Single.{one_exact}
use Rattle.repair.proofs.Single.{cutting_one}
use Rattle.reading.specs.Reading.{part_refusal, part_given}
use Rattle.reading.specs.Inner.{all_done, available, Repairing}
use Rattle.reading.proofs.Ranges.{done_facts}
use Rattle.reading.proofs.Grounds.{Accepted, accepted, run_in}

-- two runs are the same where their symbols are
same_run : (s t : List ℕ) (p q n : ℕ) → p + n ≤ length s → q + n ≤ length t → ((i : ℕ) → i < n → get_or s (p + i) 0 ≡ get_or t (q + i) 0) → take n (drop p s) ≡ take n (drop q t)
same_run s t p q n hs ht same =
    let ls : length (take n (drop p s)) ≡ n = length-take-le n (drop p s) (omega (arith, length-drop p s)) in
    let lt : length (take n (drop q t)) ≡ n = length-take-le n (drop q t) (omega (arith, length-drop q t)) in
    ext_get_or 0 (take n (drop p s)) (take n (drop q t)) (ls ∙ sym lt) (λ i h.
    let k : i < n = rw ls at h in
    get_or-take n (drop p s) i 0 k ∙ get_or-drop p s i 0 ∙ same i k ∙ sym (get_or-take n (drop q t) i 0 k ∙ get_or-drop q t i 0))

all_of_it : (l : Layout) (lost done tray first end : ℕ) → tray ≡ lost → available l lost done tray first end ≡ true → all_done l lost done first end ≡ true
unfolding available
all_of_it l lost done tray first end e h = simp (eq-eqb tray lost e) at h

module _ {A : Type 0} {f : Field A} (W : Working f) (l : Layout) (x : Tray) (c codeword spare : List ℕ) (done : ℕ)
    (r : Repairing f l x c codeword spare done) (tray first end : ℕ) where
  -- the lost tray, in the spare
  lost_run : Accepted f.order l (length codeword) (length spare) x.0 done tray first end → tray ≡ x.0 → take (end - first) (drop first spare)
      ≡ take (end - first) (drop first (tray_part l c tray))
  lost_run a e =
      let ok = solvable W l a.adm in
      let long : length (tray_part l c tray) ≡ layers l = tray_long l c (trays l) tray (layers_pos f l ok.usable) r.of.codeword.long a.readable.tray_in in
      let ready = done_facts l x.0 done first end (all_of_it l x.0 done tray first end e a.given) in
      let cut = cutting_one W l a.adm x.0 r.helpers r.shares r.host r.chosen r.start r.calls in
      same_run spare (tray_part l c tray) first first (end - first) (omega (arith, a.spare_long, a.readable.end_in, a.readable.rises))
      (omega (arith, long, a.readable.end_in, a.readable.rises)) (λ i h.
      let j : first + i < end = omega arith in
      let g : group_at l x.0 (first + i) < r.G = omega (arith, ready (first + i) (omega arith) j, r.far_enough) in
      one_exact f l ok x.0 r.helpers r.chosen r.shares r.host c r.of (group_at l x.0 (first + i)) (omega (arith, g, cut.within)) spare
      (cut.ruled (group_at l x.0 (first + i)) g) (first + i)
      (omega (arith, j, a.readable.end_in)) refl
      ∙ ap (λ y. get_or (tray_part l c y) (first + i) 0) (sym e))

  -- another tray, in the store
  store_run : Accepted f.order l (length codeword) (length spare) x.0 done tray first end → ¬ (tray ≡ x.0) →
      take (end - first) (drop (tray * layers l + first) codeword) ≡ take (end - first) (drop first (tray_part l c tray))
  store_run a d =
      let ok = solvable W l a.adm in
      let long : length (tray_part l codeword tray) ≡ layers l = tray_long l codeword (trays l) tray (layers_pos f l ok.usable) a.codeword_long a.readable.tray_in in
      same_run codeword (tray_part l codeword tray) (tray * layers l + first) first (end - first)
      (omega (arith, a.codeword_long, a.readable.rises, run_in (trays l) (layers l) tray end a.readable.tray_in a.readable.end_in))
      (omega (arith, long, a.readable.end_in, a.readable.rises)) (λ i h.
      ap (λ k. get_or codeword k 0) (plus_assoc (tray * layers l) first i) ∙ sym (tray_at l codeword tray (first + i) (omega (arith, a.readable.end_in))))
      ∙ ap (λ t. take (end - first) (drop first t)) (r.store tray a.readable.tray_in d)

  -- If the spare was written by pieces of a repair of the lost tray x, from shares and sound trays of the codeword c, and at least up to the groups given, and
  -- the store's other trays are those of c: a part that is given is that run of layers of c's tray.
  pub reads_the_codeword : part_refusal f.order l (length codeword) (length spare) x.0 done tray first end ≡ 0 →
      part_given f.order l codeword spare x.0 done tray first end ≡ take (end - first) (drop first (tray_part l c tray))
  unfolding part_given
  reads_the_codeword z =
      let a = accepted f.order l (length codeword) (length spare) x.0 done tray first end z in
      elim (ℕ_discrete tray x.0) [
        | yes e ↦ simp (eq-eqb (part_refusal f.order l (length codeword) (length spare) x.0 done tray first end) 0 z, eq-eqb tray x.0 e) (lost_run a e)
        | no d ↦ simp (eq-eqb (part_refusal f.order l (length codeword) (length spare) x.0 done tray first end) 0 z, ne_eqb tray x.0 d) (store_run a d)
      ]

-- An empty run is an empty part, also of the lost tray with no group done: the last ground never applies to it.
pub empty_run : (N : ℕ) (l : Layout) (codeword spare : List ℕ) (lost done tray first : ℕ) →
    (available l lost done tray first first ≡ true) × (part_given N l codeword spare lost done tray first first ≡ [])
unfolding available all_done part_given all
empty_run N l codeword spare lost done tray first =
    let z : first - first ≡ 0 = omega arith in (
      ap (λ n. not (eqb tray lost) || all (λ i. ltb (group_at l lost (first + i)) done) n) z ∙ always (not (eqb tray lost)),
      nothing (eqb (part_refusal N l (length codeword) (length spare) lost done tray first first) 0) (eqb tray lost) (first - first) (drop first spare)
          (drop (tray * layers l + first) codeword) z,
    )
  where
    always : (b : Bool) → (b || true) ≡ true
    always true = refl
    always false = refl

    nothing : (b t : Bool) (n : ℕ) (s u : List ℕ) → n ≡ 0 → cond b (cond t (take n s) (take n u)) [] ≡ []
    nothing true true n s u e = ap (λ k. take k s) e
    nothing true false n s u e = ap (λ k. take k u) e
    nothing false t n s u e = refl
