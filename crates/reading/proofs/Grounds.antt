-- The grounds for refusing a read one by one, from the tests as the code makes them, what holds where none applies, and what is handed out.
-- Assumes nothing.
use mathlib.Core.Path.{◌≡◌, refl, sym, ap₂, ◌∙◌}
use mathlib.Core.Bool.{Bool, true, false, not, ◌&&◌}
use mathlib.Core.List.{List, []}
use Prim.Native.Nat.{ℕ, ◌+◌, ◌-◌, ◌*◌, ◌≤◌, ◌<◌}
use native.Mathlib.Nat.{mul-le-mul, mul-le-mul_right}
use native.Mathlib.Omega.{arith}
use lib.Dec.{eqb}
use lib.ListN.{length, take, drop}
use borrow.Author.Tests.{eq-eqb, ne_eqb, eqb-true}
use Rattle.lists.specs.Lists.{unless}
use Rattle.lists.proofs.Bools.{both, not_both, passed, told_false, told_true}
use Rattle.layout.specs.declared.Layout.{Layout}
use Rattle.layout.specs.Layout.{tray_limit, layer_limit, trays, layers, admissible_with, AdmissibleWith, Cabinet}
use Rattle.layout.proofs.Facts.{with_facts, with_so}
use Rattle.reading.specs.Reading.{part_refusal, part_given}
use Rattle.reading.specs.Inner.{Readable, in_range, all_done, available}
use Rattle.reading.proofs.Ranges.{range_facts}

module _ (N : ℕ) (l : Layout) (codeword spare lost done tray first end : ℕ) where
  -- the grounds by the tests of the code
  grounds : part_refusal N l codeword spare lost done tray first end ≡ unless (admissible_with N 0 l) 1 (unless (eqb codeword (trays l * layers l) && eqb spare (layers l)) 2
      (unless (in_range l lost done tray first end) 3 (unless (available l lost done tray first end) 13 0)))
  unfolding part_refusal in_range available all_done
  grounds = refl

  pub ground_1 : (a : Bool) → a ≡ admissible_with N 0 l → not a ≡ true → 1 ≡ part_refusal N l codeword spare lost done tray first end
  ground_1 a e h = rw grounds (simp (told_false e h))

  module _ (a : Bool) (e : a ≡ admissible_with N 0 l) (h : not a ≡ false) (n m : ℕ) (p : n ≡ trays l) (q : m ≡ layers l) where
    lengths : (codeword ≡ trays l * layers l → spare ≡ layers l → ⊥) → 2 ≡ part_refusal N l codeword spare lost done tray first end
    lengths k = rw grounds (simp (told_true e h, not_both (eqb codeword (trays l * layers l)) (eqb spare (layers l)) (λ c s. k (eqb-true _ _ c) (eqb-true _ _ s))))

    pub ground_2_codeword : (codeword ≡ n * m → ⊥) → 2 ≡ part_refusal N l codeword spare lost done tray first end
    ground_2_codeword d = lengths (λ c s. d (c ∙ sym (ap₂ ◌*◌ p q)))

    pub ground_2_spare : (spare ≡ m → ⊥) → 2 ≡ part_refusal N l codeword spare lost done tray first end
    ground_2_spare d = lengths (λ c s. d (s ∙ sym q))

    module _ (c : codeword ≡ n * m) (s : spare ≡ m) (b : Bool) (f : b ≡ in_range l lost done tray first end) where
      pub ground_3 : not b ≡ true → 3 ≡ part_refusal N l codeword spare lost done tray first end
      ground_3 k = rw grounds (simp (told_true e h, eq-eqb _ _ (c ∙ ap₂ ◌*◌ p q), eq-eqb _ _ (s ∙ q), told_false f k))

      module _ (k : not b ≡ false) (v : Bool) (g : v ≡ available l lost done tray first end) where
        pub ground_13 : not v ≡ true → 13 ≡ part_refusal N l codeword spare lost done tray first end
        ground_13 t = rw grounds (simp (told_true e h, eq-eqb _ _ (c ∙ ap₂ ◌*◌ p q), eq-eqb _ _ (s ∙ q), told_true f k, told_false g t))

        pub ground_0 : not v ≡ false → 0 ≡ part_refusal N l codeword spare lost done tray first end
        ground_0 t = rw grounds (simp (told_true e h, eq-eqb _ _ (c ∙ ap₂ ◌*◌ p q), eq-eqb _ _ (s ∙ q), told_true f k, told_true g t))

  -- what lets a read through
  pub record Accepted : Type 0 where
    pub adm : AdmissibleWith N 0 l
    pub readable : Readable l lost done tray first end
    pub codeword_long : codeword ≡ trays l * layers l
    pub spare_long : spare ≡ layers l
    pub given : available l lost done tray first end ≡ true

  pub accepted : part_refusal N l codeword spare lost done tray first end ≡ 0 → Accepted
  accepted z =
      let g1 = passed (admissible_with N 0 l) 1 _ (omega arith) (sym grounds ∙ z) in
      let g2 = passed (eqb codeword (trays l * layers l) && eqb spare (layers l)) 2 _ (omega arith) g1.1 in
      let g3 = passed (in_range l lost done tray first end) 3 _ (omega arith) g2.1 in
      let g13 = passed (available l lost done tray first end) 13 0 (omega arith) g3.1 in
      let two = both (eqb codeword (trays l * layers l)) (eqb spare (layers l)) g2.0 in
      record {
        adm = with_facts N 0 l g1.0;
        readable = range_facts l lost done tray first end (with_facts N 0 l g1.0).admissible.cabinet g3.0;
        codeword_long = eqb-true _ _ two.0;
        spare_long = eqb-true _ _ two.1;
        given = g13.0;
      }

pub cabinet_so : (N : ℕ) (l : Layout) (a : Bool) → a ≡ admissible_with N 0 l → not a ≡ false → Cabinet l
cabinet_so N l a e h = (with_so N 0 l a e h).admissible.cabinet

-- the end of a run of tray y lies within n trays of m symbols
pub run_in : (n m y end : ℕ) → y < n → end ≤ m → y * m + end ≤ n * m
run_in n m y end h k =
    let e : (y + 1) * m ≤ n * m = mul-le-mul_right m (omega arith) in
    let d : (y + 1) * m ≡ y * m + m = omega arith in
    omega arith

-- the run of tray y, as the code places it in the codeword
module _ {N : ℕ} {l : Layout} {codeword spare lost done tray first end : ℕ} (r : Accepted N l codeword spare lost done tray first end) {y m : ℕ} (ys : y ≡ tray) (k : m ≡ layers l) where
  pub run_end : y * m + end ≤ codeword
  run_end = rw (r.codeword_long, ys, k) (run_in (trays l) (layers l) tray end r.readable.tray_in r.readable.end_in)

  pub run_high : y * m + end ≤ tray_limit * layer_limit
  run_high =
      let a = r.readable.adm in
      let w : trays l * layers l ≤ tray_limit * layer_limit = mul-le-mul a.trays_high a.layers_high in
      omega (arith, run_end, r.codeword_long)

-- what is handed out; the code has the trays' numbers as x (the lost one) and y, and the ground as g
module _ (N : ℕ) (l : Layout) (codeword spare : List ℕ) (lost done tray first end x y g : ℕ) (xs : x ≡ lost) (ys : y ≡ tray)
    (q : g ≡ part_refusal N l (length codeword) (length spare) x done y first end) where
  pub the_ground : g ≡ part_refusal N l (length codeword) (length spare) lost done tray first end
  the_ground = q ∙ ap₂ (λ a b. part_refusal N l (length codeword) (length spare) a done b first end) xs ys

  pub refused_part : (g ≡ 0 → ⊥) → [] ≡ part_given N l codeword spare lost done tray first end
  unfolding part_given
  refused_part d = simp (ne_eqb _ _ (λ z. d (the_ground ∙ z)))

  module _ (z : g ≡ 0) where
    none : part_refusal N l (length codeword) (length spare) lost done tray first end ≡ 0
    none = sym the_ground ∙ z

    pub facts : Accepted N l (length codeword) (length spare) lost done tray first end
    facts = accepted N l (length codeword) (length spare) lost done tray first end none

    pub spare_part : y ≡ x → take (end - first) (drop first spare) ≡ part_given N l codeword spare lost done tray first end
    unfolding part_given
    spare_part e = simp (eq-eqb _ _ none, eq-eqb tray lost (sym ys ∙ e ∙ xs))

    module _ (d : y ≡ x → ⊥) (m : ℕ) (k : m ≡ layers l) where
      pub codeword_part : take (y * m + end - (y * m + first)) (drop (y * m + first) codeword) ≡ part_given N l codeword spare lost done tray first end
      unfolding part_given
      codeword_part = simp (eq-eqb _ _ none, ne_eqb tray lost (λ e. d (ys ∙ e ∙ sym xs)))
          (ap₂ (λ a b. take a (drop b codeword)) (less (y * m) end first) (ap₂ (λ a b. a * b + first) ys k))
        where
          less : (a b c : ℕ) → a + b - (a + c) ≡ b - c
          less a b c = omega arith
