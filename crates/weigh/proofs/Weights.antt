-- The factors written out are those of the places, so the sums are those of the racks.
-- Assumes nothing.
use mathlib.Core.Path.{◌≡◌, refl, sym, ap, ap₂, ◌∙◌, subst}
use mathlib.Core.List.{List}
use Prim.Native.Nat.{ℕ, ◌+◌, ◌*◌, ◌/◌, ◌<◌}
use native.Mathlib.Nat.{zero-add}
use native.Mathlib.Omega.{arith}
use lib.Dec.{T, eqb, eqb→eq, lit<}
use lib.ListN.{get_or}
use Rattle.algebra.specs.Sum.{sum, pow}
use Rattle.algebra.proofs.Ring.{ring, one_mul}
use Rattle.algebra.proofs.Pow.{pow_zero, one_pow}
use Rattle.algebra.proofs.Plain.{elem_plus}
use Rattle.symbol.specs.Arithmetic.{◌⊕◌, ◌⊗◌, mulz, shift_add, power, zpow}
use Rattle.symbol.specs.Elem.{Elem, elem, ops, gf256}
use Rattle.symbol.proofs.Tables.{log, logs, zpow_log}
use Rattle.symbol.proofs.Elem.{laws, elem_zero, elem_one, elem_⊕, elem_⊗, elem_power, elem_zpow}
use Rattle.symbol.proofs.Working.{working}
use Rattle.kernel.specs.Inner.{Run, added}
use Rattle.weigh.specs.Inner.{mix, three, five, weight, weighted_term, Weighed}

-- ---- the factors
weight_is : (u b m g v : ℕ) → zpow (255 / u) ≡ b → T (eqb (power (power b g) m) v) → elem v ≡ weight gf256 u m g
unfolding weight
weight_is u b m g v e t =
    ap elem (sym (eqb→eq (power (power b g) m) v t)) ∙ elem_power (power b g) m ∙ ap (λ x. pow ops x m) (elem_power b g ∙ ap (λ x. pow ops x g) (ap elem (sym e) ∙ elem_zpow (255 / u)))

third : zpow (255 / 3) ≡ 214
third = ap zpow place ∙ zpow_log (lit< tt) (lit< tt)
  where
    place : 255 / 3 ≡ log 214
    place = unfold log logs in refl

fifth : zpow (255 / 5) ≡ 10
fifth = ap zpow place ∙ zpow_log (lit< tt) (lit< tt)
  where
    place : 255 / 5 ≡ log 10
    place = unfold log logs in refl

-- ---- symbols times factors, over the field
mix_is : (a b c d p q r s : ℕ) → elem (mix a b c d p q r s)
    ≡ ops.add (ops.add (ops.mul (elem a) (elem p)) (ops.mul (elem b) (elem q))) (ops.add (ops.mul (elem c) (elem r)) (ops.mul (elem d) (elem s)))
unfolding mix
mix_is a b c d p q r s =
    elem_⊕ (a ⊗ p ⊕ b ⊗ q) (c ⊗ r ⊕ d ⊗ s)
    ∙ ap₂ ops.add (elem_⊕ (a ⊗ p) (b ⊗ q) ∙ ap₂ ops.add (elem_⊗ a p) (elem_⊗ b q)) (elem_⊕ (c ⊗ r) (d ⊗ s) ∙ ap₂ ops.add (elem_⊗ c r) (elem_⊗ d s))

three_terms : (a b c p q : Elem) → ops.add a (ops.add (ops.add (ops.mul b p) (ops.mul c q)) (ops.add (ops.mul ops.zero ops.zero) (ops.mul ops.zero ops.zero)))
    ≡ ops.add (ops.add (ops.add ops.zero a) (ops.mul p b)) (ops.mul q c)
three_terms a b c p q = let L = laws in simp (ring, L)

five_terms : (a b c d e p q r s : Elem) → ops.add a (ops.add (ops.add (ops.mul b p) (ops.mul c q)) (ops.add (ops.mul d r) (ops.mul e s)))
    ≡ ops.add (ops.add (ops.add (ops.add (ops.add ops.zero a) (ops.mul p b)) (ops.mul q c)) (ops.mul r d)) (ops.mul s e)
five_terms a b c d e p q r s = let L = laws in simp (ring, L)

turn_terms : (a b c p q : Elem) → ops.add (ops.add (ops.add (ops.add (ops.add ops.zero a) (ops.mul p b)) (ops.mul q c)) b) c
    ≡ ops.add (ops.add (ops.add ops.zero a) (ops.mul (ops.add p ops.one) b)) (ops.mul (ops.add q ops.one) c)
turn_terms a b c p q = let L = laws in simp (ring, L)

module _ (u m : ℕ) (src : List ℕ) (from gap j : ℕ) where
  -- a run's part in the sum
  term_is : (g at p : ℕ) → at ≡ from + g * gap + j → elem p ≡ weight gf256 u m g → ops.mul (elem p) (elem (get_or src at 0)) ≡ weighted_term gf256 u m src from gap j g
  unfolding weighted_term
  term_is g at p e q = ap₂ (λ x y. ops.mul x (elem (get_or src y 0))) q e

  -- the first has the factor one
  first_is : elem (get_or src (from + j) 0) ≡ weighted_term gf256 u m src from gap j 0
  unfolding weighted_term weight
  first_is =
      sym (ap (λ x. ops.mul x (elem (get_or src (from + 0 * gap + j) 0))) (ap (λ x. pow ops x m) (pow_zero ops _) ∙ one_pow ops laws m) ∙ one_mul ops laws _
      ∙ (let e : from + 0 * gap + j ≡ from + j = omega arith in ap (λ n. elem (get_or src n 0)) e))

-- ---- from weight 1 to weight 2 in racks of three
one_more : (n v : ℕ) → n ⊕ 1 ≡ v → elem v ≡ ops.add (elem n) ops.one
one_more n v e = ap elem (sym e) ∙ elem_⊕ n 1 ∙ ap (ops.add (elem n)) elem_one

next_first : weight gf256 3 1 0 ≡ weight gf256 3 2 0
unfolding power
next_first = sym (weight_is 3 214 1 0 1 third one) ∙ weight_is 3 214 2 0 1 third one_squared
  where
    one : T (eqb (power (power 214 0) 1) 1)
    one = unfold power ◌⊗◌ shift_add mulz ◌⊕◌ in tt

    one_squared : T (eqb (power (power 214 0) 2) 1)
    one_squared = unfold power ◌⊗◌ shift_add mulz ◌⊕◌ in tt

next_second : ops.add (weight gf256 3 1 1) ops.one ≡ weight gf256 3 2 1
next_second = ap (λ x. ops.add x ops.one) (sym (weight_is 3 214 1 1 214 third a)) ∙ sym (one_more 214 215 c) ∙ weight_is 3 214 2 1 215 third b
  where
    a : T (eqb (power (power 214 1) 1) 214)
    a = unfold power ◌⊗◌ shift_add mulz ◌⊕◌ in tt

    b : T (eqb (power (power 214 1) 2) 215)
    b = unfold power ◌⊗◌ shift_add mulz ◌⊕◌ in tt

    c : 214 ⊕ 1 ≡ 215
    c = unfold ◌⊕◌ in refl

next_third : ops.add (weight gf256 3 1 2) ops.one ≡ weight gf256 3 2 2
next_third = ap (λ x. ops.add x ops.one) (sym (weight_is 3 214 1 2 215 third a)) ∙ sym (one_more 215 214 c) ∙ weight_is 3 214 2 2 214 third b
  where
    a : T (eqb (power (power 214 2) 1) 215)
    a = unfold power ◌⊗◌ shift_add mulz ◌⊕◌ in tt

    b : T (eqb (power (power 214 2) 2) 214)
    b = unfold power ◌⊗◌ shift_add mulz ◌⊕◌ in tt

    c : 215 ⊕ 1 ≡ 214
    c = unfold ◌⊕◌ in refl

-- a run plus another
run_plus : (src was is : List ℕ) (from len : ℕ) → Run (added gf256 was 0 src from) was is 0 len → (j : ℕ) → j < len →
    elem (get_or is j 0) ≡ ops.add (elem (get_or was j 0)) (elem (get_or src (from + j) 0))
unfolding added
run_plus src was is from len r j h =
    ap (λ n. elem (get_or is n 0)) (sym (zero-add j)) ∙ ap elem (r.done j h)
    ∙ elem_plus working (get_or was (0 + j) 0) (get_or src (from + j) 0) ∙ ap (λ n. ops.add (elem (get_or was n 0)) (elem (get_or src (from + j) 0))) (zero-add j)

three_two : (src was mid is : List ℕ) (from gap len : ℕ) → Weighed gf256 3 1 src from gap len was → Run (added gf256 was 0 src (from + gap)) was mid 0 len →
    Run (added gf256 mid 0 src (from + gap + gap)) mid is 0 len → Weighed gf256 3 2 src from gap len is
unfolding sum weighted_term
three_two src was mid is from gap len k r t = record {
  at = λ j h.
      run_plus src mid is (from + gap + gap) len t j h
      ∙ ap₂ ops.add (run_plus src was mid (from + gap) len r j h ∙ ap₂ ops.add (k.at j h) (second j)) (last j)
      ∙ turn_terms (ops.mul (weight gf256 3 1 0) (elem (get_or src (from + 0 * gap + j) 0))) (elem (get_or src (from + 1 * gap + j) 0)) (elem (get_or src (from + 2 * gap + j) 0))
      (weight gf256 3 1 1) (weight gf256 3 1 2)
      ∙ ap₂ ops.add
      (ap₂ ops.add (ap (λ x. ops.add ops.zero (ops.mul x (elem (get_or src (from + 0 * gap + j) 0)))) next_first) (ap (λ x. ops.mul x (elem (get_or src (from + 1 * gap + j) 0))) next_second))
      (ap (λ x. ops.mul x (elem (get_or src (from + 2 * gap + j) 0))) next_third);
}
  where
    second : (j : ℕ) → elem (get_or src (from + gap + j) 0) ≡ elem (get_or src (from + 1 * gap + j) 0)
    second j = let e : from + gap + j ≡ from + 1 * gap + j = omega arith in ap (λ n. elem (get_or src n 0)) e

    last : (j : ℕ) → elem (get_or src (from + gap + gap + j) 0) ≡ elem (get_or src (from + 2 * gap + j) 0)
    last j = let e : from + gap + gap + j ≡ from + 2 * gap + j = omega arith in ap (λ n. elem (get_or src n 0)) e

module _ (m : ℕ) (src was is : List ℕ) (from gap len : ℕ) where
  three_sums : (p q : ℕ) → elem p ≡ weight gf256 3 m 1 → elem q ≡ weight gf256 3 m 2 → Run (three src from gap p q) was is 0 len → Weighed gf256 3 m src from gap len is
  unfolding three sum
  three_sums p q ep eq r = record {
    at = λ j h.
        ap (λ n. elem (get_or is n 0)) (sym (zero-add j)) ∙ ap elem (r.done j h)
        ∙ elem_⊕ (get_or src (from + j) 0) _
        ∙ ap (ops.add (elem (get_or src (from + j) 0))) (mix_is (get_or src (from + gap + j) 0) (get_or src (from + gap + gap + j) 0) 0 0 p q 0 0)
        ∙ ap (λ o. ops.add (elem (get_or src (from + j) 0))
        (ops.add (ops.add (ops.mul (elem (get_or src (from + gap + j) 0)) (elem p)) (ops.mul (elem (get_or src (from + gap + gap + j) 0)) (elem q)))
        (ops.add (ops.mul o o) (ops.mul o o)))) elem_zero
        ∙ three_terms (elem (get_or src (from + j) 0)) (elem (get_or src (from + gap + j) 0)) (elem (get_or src (from + gap + gap + j) 0)) (elem p) (elem q)
        ∙ ap₂ ops.add (ap₂ ops.add (ap (ops.add ops.zero) (first_is 3 m src from gap j)) (term_is 3 m src from gap j 1 _ p (omega arith) ep))
        (term_is 3 m src from gap j 2 _ q (omega arith) eq);
  }

  five_sums : (p q v w : ℕ) → elem p ≡ weight gf256 5 m 1 → elem q ≡ weight gf256 5 m 2 → elem v ≡ weight gf256 5 m 3 → elem w ≡ weight gf256 5 m 4 →
      Run (five src from gap p q v w) was is 0 len → Weighed gf256 5 m src from gap len is
  unfolding five sum
  five_sums p q v w ep eq ev ew r = record {
    at = λ j h.
        ap (λ n. elem (get_or is n 0)) (sym (zero-add j)) ∙ ap elem (r.done j h)
        ∙ elem_⊕ (get_or src (from + j) 0) _
        ∙ ap (ops.add (elem (get_or src (from + j) 0)))
        (mix_is (get_or src (from + gap + j) 0) (get_or src (from + gap + gap + j) 0) (get_or src (from + gap + gap + gap + j) 0) (get_or src (from + gap + gap + gap + gap + j) 0) p q v w)
        ∙ five_terms (elem (get_or src (from + j) 0)) (elem (get_or src (from + gap + j) 0)) (elem (get_or src (from + gap + gap + j) 0))
        (elem (get_or src (from + gap + gap + gap + j) 0)) (elem (get_or src (from + gap + gap + gap + gap + j) 0)) (elem p) (elem q) (elem v) (elem w)
        ∙ ap₂ ops.add (ap₂ ops.add (ap₂ ops.add (ap₂ ops.add (ap (ops.add ops.zero) (first_is 5 m src from gap j)) (term_is 5 m src from gap j 1 _ p (omega arith) ep))
        (term_is 5 m src from gap j 2 _ q (omega arith) eq)) (term_is 5 m src from gap j 3 _ v (omega arith) ev)) (term_is 5 m src from gap j 4 _ w (omega arith) ew);
  }

  -- ---- with the factors written out, one computed test each
  three_case : (k p q : ℕ) → T (eqb (power (power 214 1) k) p) → T (eqb (power (power 214 2) k) q) → m ≡ k → Run (three src from gap p q) was is 0 len → Weighed gf256 3 m src from gap len is
  three_case k p q a b e r = three_sums p q (weight_is 3 214 m 1 p third (there 1 p a)) (weight_is 3 214 m 2 q third (there 2 q b)) r
    where
      there : (g v : ℕ) → T (eqb (power (power 214 g) k) v) → T (eqb (power (power 214 g) m) v)
      there g v t = subst (λ n. T (eqb (power (power 214 g) n) v)) (sym e) t

  pub three_none : m ≡ 0 → Run (three src from gap 1 1) was is 0 len → Weighed gf256 3 m src from gap len is
  unfolding power
  three_none = three_case 0 1 1 tt tt

  pub three_once : m ≡ 1 → Run (three src from gap 214 215) was is 0 len → Weighed gf256 3 m src from gap len is
  unfolding power ◌⊗◌ shift_add mulz ◌⊕◌
  three_once = three_case 1 214 215 tt tt

  pub three_turn : (mid : List ℕ) → m < 3 → ¬ (m ≡ 0) → ¬ (m ≡ 1) → (m ≡ 2 → Weighed gf256 3 1 src from gap len was) → Run (added gf256 was 0 src (from + gap)) was mid 0 len →
      Run (added gf256 mid 0 src (from + gap + gap)) mid is 0 len → Weighed gf256 3 m src from gap len is
  three_turn mid h x y k r t = let e : m ≡ 2 = omega arith in subst (λ n. Weighed gf256 3 n src from gap len is) (sym e) (three_two src was mid is from gap len (k e) r t)

  five_case : (k p q v w : ℕ) → T (eqb (power (power 10 1) k) p) → T (eqb (power (power 10 2) k) q) → T (eqb (power (power 10 3) k) v) → T (eqb (power (power 10 4) k) w) → m ≡ k →
      Run (five src from gap p q v w) was is 0 len → Weighed gf256 5 m src from gap len is
  five_case k p q v w a b c d e r =
      five_sums p q v w (weight_is 5 10 m 1 p fifth (there 1 p a)) (weight_is 5 10 m 2 q fifth (there 2 q b)) (weight_is 5 10 m 3 v fifth (there 3 v c)) (weight_is 5 10 m 4 w fifth (there 4 w d)) r
    where
      there : (g y : ℕ) → T (eqb (power (power 10 g) k) y) → T (eqb (power (power 10 g) m) y)
      there g y t = subst (λ n. T (eqb (power (power 10 g) n) y)) (sym e) t

  pub five_none : m ≡ 0 → Run (five src from gap 1 1 1 1) was is 0 len → Weighed gf256 5 m src from gap len is
  unfolding power
  five_none = five_case 0 1 1 1 1 tt tt tt tt

  pub five_once : m ≡ 1 → Run (five src from gap 10 68 146 221) was is 0 len → Weighed gf256 5 m src from gap len is
  unfolding power ◌⊗◌ shift_add mulz ◌⊕◌
  five_once = five_case 1 10 68 146 221 tt tt tt tt

  pub five_twice : m ≡ 2 → Run (five src from gap 68 221 10 146) was is 0 len → Weighed gf256 5 m src from gap len is
  unfolding power ◌⊗◌ shift_add mulz ◌⊕◌
  five_twice = five_case 2 68 221 10 146 tt tt tt tt

  pub five_thrice : m ≡ 3 → Run (five src from gap 146 10 221 68) was is 0 len → Weighed gf256 5 m src from gap len is
  unfolding power ◌⊗◌ shift_add mulz ◌⊕◌
  five_thrice = five_case 3 146 10 221 68 tt tt tt tt

  pub five_last : m < 5 → ¬ (m ≡ 0) → ¬ (m ≡ 1) → ¬ (m ≡ 2) → ¬ (m ≡ 3) → Run (five src from gap 221 146 68 10) was is 0 len → Weighed gf256 5 m src from gap len is
  unfolding power ◌⊗◌ shift_add mulz ◌⊕◌
  five_last h a b c d = five_case 4 221 146 68 10 tt tt tt tt (omega arith)
