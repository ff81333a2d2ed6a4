-- The steps of the factors.
-- Assumes nothing.
use mathlib.Core.Path.{◌≡◌, refl, sym, ap, ap₂, ◌∙◌, subst}
use mathlib.Core.List.{List, []}
use Prim.Native.Nat.{ℕ, zero, suc, ◌+◌, ◌*◌, ◌<◌, ◌≤◌}
use native.Mathlib.Decide.{ℕ_discrete, dec_lt}
use native.Mathlib.Nat.{add-zero, zero-add}
use native.Mathlib.Numerals.{add-one}
use native.Mathlib.Omega.{arith}
use mir.Val.{Fits}
use mir.Syntax.{w64}
use lib.ListN.{length, get_or, set}
use Rattle.algebra.specs.Field.{Laws}
use Rattle.algebra.specs.Shape.{Field}
use Rattle.algebra.specs.Plain.{minus, times, Working}
use Rattle.algebra.specs.Poly.{eval, linear}
use Rattle.algebra.specs.Lagrange.{basis}
use Rattle.algebra.proofs.Cabinet.{choose_same, choose_other}
use Rattle.algebra.proofs.Ring.{ring, mul_one, zero_mul, mul_assoc as ring-assoc, one_mul}
use Rattle.algebra.proofs.Poly.{eval_nil, eval_cons, eval_scale, eval_linear}
use Rattle.algebra.proofs.Lagrange.{basis_zero, basis_same, basis_other}
use Rattle.algebra.proofs.Plain.{laws, elem_minus, elem_times}
use Rattle.columns.proofs.Products.{inv_times}
use Rattle.kernel.specs.Inner.{Run, Standing, filled, copied}
use Rattle.kernel.proofs.Runs.{run_more}
use Rattle.kernel.proofs.Rows.{row_before, row_in, row_end}
use Rattle.batch_factors.specs.Inner.{step_at, others_at, product_at, divisor_at, row_at, factor_at, Timed, Inverted, Divided, Solving, Factored}

pub step_more : {A : Type 0} (f : Field A) (was is xs : List ℕ) (to j len v a b : ℕ) → Run (step_at f was to xs v) was is to j → j < len → to + len ≤ length was →
    a ≡ minus f (get_or xs j 0) v → b ≡ times f (get_or is (to + j) 0) a → Run (step_at f was to xs v) was (set is (to + j) b) to (j + 1)
unfolding step_at
step_more f was is xs to j len v a b r h l p e =
    run_more (step_at f was to xs v) was is to j b r (omega arith)
    (e ∙ ap₂ (times f) (r.high (to + j) (omega arith)) p)

pub timed_of : {A : Type 0} (f : Field A) (xs : List ℕ) (v q to len : ℕ) (was mid is : List ℕ) (kept : ℕ) → kept ≡ get_or was (to + q) 0 → q < len → Run (step_at f was to xs v) was mid to len →
    Run (filled kept) mid is (to + q) 1 → Timed f xs v q to len was is
unfolding filled
timed_of f xs v q to len was mid is kept e h r s = record {
  long = s.long ∙ r.long;
  here = λ o ho d. other o ho d (dec_lt o q) ∙ r.done o ho;
  kept = ap (λ (i : ℕ). get_or is i 0) (sym (add-zero (to + q))) ∙ s.done 0 (omega arith) ∙ e;
  low = λ i hi. s.low i (omega arith) ∙ r.low i hi;
  high = λ i hi. s.high i (omega arith) ∙ r.high i hi;
}
  where
    other : (o : ℕ) → o < len → ¬ (o ≡ q) → Dec (o < q) → get_or is (to + o) 0 ≡ get_or mid (to + o) 0
    other o ho d (yes b) = s.low (to + o) (omega arith)
    other o ho d (no b) = s.high (to + o) (omega arith)

module _ {A : Type 0} {f : Field A} (W : Working f) where
  open f use {ops}
  open f.coding use {elem}

  others_none : (x : A) (points : List ℕ) (o : ℕ) → others_at f x points o 0 ≡ ops.one
  unfolding others_at
  others_none x points o = refl

  others_same : (x : A) (points : List ℕ) (o q : ℕ) → q ≡ o → others_at f x points o (suc q) ≡ others_at f x points o q
  unfolding others_at
  others_same x points o q e = choose_same q o _ _ e

  others_next : (x : A) (points : List ℕ) (o q : ℕ) → ¬ (q ≡ o) →
      others_at f x points o (suc q) ≡ ops.mul (others_at f x points o q) (ops.add x (ops.neg (elem (get_or points q 0))))
  unfolding others_at
  others_next x points o q d = choose_other q o _ _ d

  module _ (xs points : List ℕ) (to len : ℕ) (was : List ℕ) where
    pub product_none : Standing f (product_at f was to xs points 0) was was to len
    unfolding product_at
    product_none = record {
      long = refl;
      done = λ o h. sym (ap (ops.mul (elem (get_or was (to + o) 0))) (others_none (elem (get_or xs o 0)) points o) ∙ mul_one ops (laws W) (elem (get_or was (to + o) 0)));
      low = λ i h. refl;
      high = λ i h. refl;
    }

    pub product_more : (is next : List ℕ) (q v : ℕ) → v ≡ get_or points q 0 → Standing f (product_at f was to xs points q) was is to len → Timed f xs v q to len is next →
        Standing f (product_at f was to xs points (q + 1)) was next to len
    unfolding product_at step_at
    product_more is next q v e s t = record {
      long = t.long ∙ s.long;
      done = λ o h. go o h (ℕ_discrete o q) ∙ ap (λ (n : ℕ). ops.mul (elem (get_or was (to + o) 0)) (others_at f (elem (get_or xs o 0)) points o n)) (sym (add-one q));
      low = λ i h. t.low i h ∙ s.low i h;
      high = λ i h. t.high i h ∙ s.high i h;
    }
      where
        go : (o : ℕ) → o < len → Dec (o ≡ q) → elem (get_or next (to + o) 0) ≡ ops.mul (elem (get_or was (to + o) 0)) (others_at f (elem (get_or xs o 0)) points o (suc q))
        go o h (yes z) =
            ap elem (ap (λ (i : ℕ). get_or next (to + i) 0) z ∙ t.kept ∙ ap (λ (i : ℕ). get_or is (to + i) 0) (sym z)) ∙ s.done o h
            ∙ ap (ops.mul (elem (get_or was (to + o) 0))) (sym (others_same (elem (get_or xs o 0)) points o q (sym z)))
        go o h (no d) =
            ap elem (t.here o h d) ∙ elem_times W (get_or is (to + o) 0) (minus f (get_or xs o 0) v)
            ∙ ap₂ ops.mul (s.done o h) (elem_minus W (get_or xs o 0) v ∙ ap (λ (n : ℕ). ops.add (elem (get_or xs o 0)) (ops.neg (elem n))) e)
            ∙ ring-assoc ops (laws W) _ _ _
            ∙ ap (ops.mul (elem (get_or was (to + o) 0))) (sym (others_next (elem (get_or xs o 0)) points o q (λ z. d (sym z))))

    pub product_end : (is : List ℕ) (q s : ℕ) → Standing f (product_at f was to xs points q) was is to len → q ≤ s → s ≤ q → Standing f (product_at f was to xs points s) was is to len
    product_end is q s p h l = let e : q ≡ s = omega arith in subst (λ (n : ℕ). Standing f (product_at f was to xs points n) was is to len) e p

  -- ---- the divisors
  pub inverted_none : (was : List ℕ) → Inverted f was was 0
  inverted_none was = record { long = refl; done = λ o h. absurd (omega arith); rest = λ o h. refl }

  pub inverted_more : (was is next : List ℕ) (n a v : ℕ) → Inverted f was is n → a ≡ get_or is n 0 → elem v ≡ ops.inv (elem a) → Run (filled v) is next n 1 → Inverted f was next (n + 1)
  unfolding filled
  inverted_more was is next n a v s ea ev r = record {
    long = r.long ∙ s.long;
    done = λ o h. go o h (ℕ_discrete o n);
    rest = λ o h. r.high o h ∙ s.rest o (omega arith);
  }
    where
      go : (o : ℕ) → o < n + 1 → Dec (o ≡ n) → elem (get_or next o 0) ≡ ops.inv (elem (get_or was o 0))
      go o h (yes z) =
          ap (λ (i : ℕ). elem (get_or next i 0)) (z ∙ sym (add-zero n)) ∙ ap elem (r.done 0 (omega arith)) ∙ ev ∙ ap (λ (i : ℕ). ops.inv (elem i)) (ea ∙ s.rest n (omega arith))
          ∙ ap (λ (i : ℕ). ops.inv (elem (get_or was i 0))) (sym z)
      go o h (no d) = ap elem (r.low o (omega arith)) ∙ s.done o (omega arith)

  pub inverted_end : (was is : List ℕ) (n s : ℕ) → Inverted f was is n → n ≤ s → s ≤ n → Inverted f was is s
  inverted_end was is n s p h l = let e : n ≡ s = omega arith in subst (λ (m : ℕ). Inverted f was is m) e p

  pub divided : (minus_one : ℕ) → elem minus_one ≡ ops.neg ops.one → (points : List ℕ) (s wide : ℕ) (was mid next is : List ℕ) → s ≤ wide → Run (filled minus_one) was mid 0 wide →
      Standing f (product_at f mid 0 points points s) mid next 0 wide → Inverted f next is s → Divided f points s is
  unfolding product_at divisor_at filled
  divided minus_one em points s wide was mid next is h r p v = record {
    at = λ o ho.
        v.done o ho ∙ ap ops.inv (ap (λ (i : ℕ). elem (get_or next i 0)) (sym (zero-add o)) ∙ p.done o (omega arith)
        ∙ ap (λ x. ops.mul x (others_at f (elem (get_or points o 0)) points o s)) (ap elem (r.done o (omega arith)) ∙ em));
  }

  pub row_of : (den points : List ℕ) (s x to wide : ℕ) (was mid is xs0 xs : List ℕ) → Run (copied den 0) was mid to wide → Run (filled x) xs0 xs 0 wide →
      Standing f (product_at f mid to xs points s) mid is to wide → Standing f (row_at f den x points s) was is to wide
  unfolding product_at row_at filled copied
  row_of den points s x to wide was mid is xs0 xs r e p = record {
    long = p.long ∙ r.long;
    done = λ o h.
        p.done o h ∙ ap₂ (λ (a b : ℕ). ops.mul (elem a) (others_at f (elem b) points o s)) (r.done o h ∙ ap (λ (i : ℕ). get_or den i 0) (zero-add o))
        (ap (λ (i : ℕ). get_or xs i 0) (sym (zero-add o)) ∙ e.done o h);
    low = λ i h. p.low i h ∙ r.low i h;
    high = λ i h. p.high i h ∙ r.high i h;
  }

  -- ---- the factors are the values of the basis, less
  inv_minus : ops.inv (ops.neg ops.one) ≡ ops.neg ops.one
  inv_minus =
      sym (mul_one ops (laws W) (ops.inv m)) ∙ ap (ops.mul (ops.inv m)) (sym (square (laws W))) ∙ sym (ring-assoc ops (laws W) (ops.inv m) m m)
      ∙ ap (λ x. ops.mul x m) ((laws W).inv_mul m some) ∙ one_mul ops (laws W) m
    where
      m : A
      m = ops.neg ops.one

      square : (L : Laws ops) → ops.mul (ops.neg ops.one) (ops.neg ops.one) ≡ ops.one
      square L = simp (ring, L)

      some : ¬ (ops.neg ops.one ≡ ops.zero)
      some z = (laws W).one_not_zero (sym (square (laws W)) ∙ ap (λ x. ops.mul x (ops.neg ops.one)) z ∙ zero_mul ops (laws W) (ops.neg ops.one))

  module _ (points : List ℕ) (o : ℕ) (x : A) where
    P : ℕ → A
    P i = elem (get_or points i 0)

    first : (L : Laws ops) (y : A) → ops.mul (ops.neg ops.one) ops.one ≡ ops.neg (ops.add ops.one (ops.mul y ops.zero))
    first L y = simp (ring, L)

    plain : (L : Laws ops) → ops.mul (ops.neg ops.one) ops.one ≡ ops.neg ops.one
    plain L = simp (ring, L)

    regroup : (L : Laws ops) (a i n e : A) → ops.mul (ops.mul a i) (ops.mul n e) ≡ ops.mul (ops.mul i e) (ops.mul a n)
    regroup L a i n e = simp (ring, L)

    turned : (L : Laws ops) (i e b : A) → ops.mul (ops.mul i e) (ops.neg b) ≡ ops.neg (ops.mul i (ops.mul e b))
    turned L i e b = simp (ring, L)

    pub others_basis : (q : ℕ) → ops.mul (divisor_at f points q o) (others_at f x points o q) ≡ ops.neg (eval ops (basis ops (λ i. elem (get_or points i 0)) o q) x)
    unfolding divisor_at P eval
    others_basis zero =
        ap₂ (λ a b. ops.mul (ops.inv (ops.mul (ops.neg ops.one) a)) b) (others_none (elem (get_or points o 0)) points o) (others_none x points o)
        ∙ ap (λ a. ops.mul (ops.inv a) ops.one) (plain (laws W)) ∙ ap (λ a. ops.mul a ops.one) inv_minus ∙ first (laws W) x
        ∙ ap ops.neg (ap (λ e. ops.add ops.one (ops.mul x e)) (sym (eval_nil ops x)) ∙ sym (eval_cons ops ops.one [] x)
        ∙ ap (λ l. eval ops l x) (sym (basis_zero ops (λ i. elem (get_or points i 0)) o)))
    others_basis (suc q) = go (ℕ_discrete q o) (others_basis q)
      where
        go : Dec (q ≡ o) → ops.mul (ops.inv (ops.mul (ops.neg ops.one) (others_at f (elem (get_or points o 0)) points o q))) (others_at f x points o q)
            ≡ ops.neg (eval ops (basis ops (λ i. elem (get_or points i 0)) o q) x) →
            ops.mul (ops.inv (ops.mul (ops.neg ops.one) (others_at f (elem (get_or points o 0)) points o (suc q)))) (others_at f x points o (suc q))
            ≡ ops.neg (eval ops (basis ops (λ i. elem (get_or points i 0)) o (suc q)) x)
        go (yes z) ih =
            ap₂ (λ a b. ops.mul (ops.inv (ops.mul (ops.neg ops.one) a)) b) (others_same (elem (get_or points o 0)) points o q z) (others_same x points o q z)
            ∙ ih ∙ ap (λ l. ops.neg (eval ops l x)) (sym (basis_same ops (λ i. elem (get_or points i 0)) o q z))
        go (no d) ih =
            ap₂ (λ a b. ops.mul (ops.inv (ops.mul (ops.neg ops.one) a)) b) (others_next (elem (get_or points o 0)) points o q d) (others_next x points o q d)
            ∙ ap (λ a. ops.mul a (ops.mul (others_at f x points o q) (ops.add x (ops.neg (P q)))))
            (ap ops.inv (sym (ring-assoc ops (laws W) _ _ _)) ∙ inv_times W _ _)
            ∙ regroup (laws W) _ _ _ _
            ∙ ap (ops.mul (ops.mul (ops.inv (ops.add (P o) (ops.neg (P q)))) (ops.add x (ops.neg (P q))))) ih
            ∙ turned (laws W) _ _ _
            ∙ ap ops.neg (ap (ops.mul (ops.inv (ops.add (P o) (ops.neg (P q))))) (sym (eval_linear ops (laws W) (P q) (basis ops (λ i. elem (get_or points i 0)) o q) x))
            ∙ sym (eval_scale ops (laws W) (ops.inv (ops.add (P o) (ops.neg (P q)))) (linear ops (P q) (basis ops (λ i. elem (get_or points i 0)) o q)) x)
            ∙ ap (λ l. eval ops l x) (sym (basis_other ops (λ i. elem (get_or points i 0)) o q d)))

  module _ (known points : List ℕ) (s wide : ℕ) (was : List ℕ) where
    pub factors_none : Factored f known points s wide 0 was was
    factors_none = record { long = refl; at = λ t o h k. absurd (omega arith); rest = λ i h. refl }

    pub factors_more : (n x m : ℕ) (den is next : List ℕ) → Solving wide m s was known points → Divided f points s den → x ≡ get_or known n 0 → Factored f known points s wide n was is →
        Standing f (row_at f den x points s) is next (n * wide) wide → Factored f known points s wide (n + 1) was next
    unfolding row_at factor_at
    factors_more n x count den is next y v e m r = record {
      long = r.long ∙ m.long;
      at = λ t o h k. go t o h k (ℕ_discrete t n);
      rest = λ i h. let q = row_end n wide in r.high i (omega arith) ∙ m.rest i (omega arith);
    }
      where
        go : (t o : ℕ) → t < n + 1 → o < s → Dec (t ≡ n) → elem (get_or next (t * wide + o) 0) ≡ ops.neg (eval ops (basis ops (λ i. elem (get_or points i 0)) o s) (elem (get_or known t 0)))
        go t o h k (yes z) =
            ap (λ (i : ℕ). elem (get_or next (i * wide + o) 0)) z ∙ r.done o (let a = y.few in omega arith)
            ∙ ap₂ (λ a (b : ℕ). ops.mul a (others_at f (elem b) points o s)) (v.at o k) e ∙ others_basis points o (elem (get_or known n 0)) s
            ∙ ap (λ (y : ℕ). ops.neg (eval ops (basis ops (λ i. elem (get_or points i 0)) o s) (elem (get_or known y 0)))) (sym z)
        go t o h k (no d) = ap elem (r.low (t * wide + o) (let q = row_before t n wide (omega arith) in omega arith)) ∙ m.at t o (omega arith) k

    pub factors_end : (n m : ℕ) (is : List ℕ) → Factored f known points s wide n was is → n ≤ m → m ≤ n → Factored f known points s wide m was is
    factors_end n m is p h l = let e : n ≡ m = omega arith in subst (λ (x : ℕ). Factored f known points s wide x was is) e p

-- ---- numbers
module _ (wide n s : ℕ) (g known points : List ℕ) (y : Solving wide n s g known points) where
  pub solving_row : (t : ℕ) (is : List ℕ) → length is ≡ length g → t < n → t * wide + wide ≤ length is
  solving_row t is e h = let q = row_in g n wide t y.g_long h in omega arith

  pub solving_fits : (t : ℕ) → t < n → Fits w64 (length g) → Fits w64 (t * wide)
  solving_fits t h b = let q = row_in g n wide t y.g_long h in omega arith

  pub solving_few : s ≤ wide
  solving_few = y.few

  pub solving_points : s ≤ length points
  solving_points = let a = y.few in let b = y.points_long in omega arith

  pub solving_known : (t : ℕ) → t < n → t < length known
  solving_known t h = let a = y.known_long in omega arith
