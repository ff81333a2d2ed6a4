-- Lists of helpers and of shares without one.
-- Assumes nothing.
use mathlib.Core.Path.{◌≡◌, sym, ap, ◌∙◌, subst}
use mathlib.Core.List.{List}
use Prim.Native.Nat.{ℕ, ◌+◌, ◌-◌, ◌*◌, ◌<◌, ◌≤◌}
use native.Mathlib.Nat.{add-mul, mul-le-mul_right}
use native.Mathlib.Decide.{ℕ_discrete, dec_lt}
use native.Mathlib.Omega.{arith}
use mir.Val.{Fits}
use mir.Syntax.{w64}
use lib.ListN.{length, get_or, set}
use lib.Seq.{get_or-set_same, get_or-set_other}
use Rattle.algebra.specs.Erasure.{choose}
use Rattle.algebra.proofs.Equal.{ltb_yes, ltb_no}
use Rattle.kernel.specs.Inner.{Run, copied}
use Rattle.kernel.proofs.Rows.{row_before}
use Rattle.layout.specs.Layout.{layer_limit}
use Rattle.correcting.specs.Inner.{past_one, SharesLeft}

pub past_low : (k i : ℕ) → i < k → i ≡ past_one k i
unfolding past_one choose
past_low k i h = sym (ap (λ b. choose b i (i + 1)) (ltb_yes h))

pub past_high : (k i : ℕ) → k ≤ i → i + 1 ≡ past_one k i
unfolding past_one choose
past_high k i h = sym (ap (λ b. choose b i (i + 1)) (ltb_no h))

-- what holds of i where i is below k, and of i + 1 where it is not
pub past_ind : (P : ℕ → Type 0) (k i : ℕ) → (i < k → P i) → (k ≤ i → P (i + 1)) → P (past_one k i)
past_ind P k i f g = go (dec_lt i k)
  where
    go : Dec (i < k) → P (past_one k i)
    go (yes h) = subst P (past_low k i h) (f h)
    go (no h) = subst P (past_high k i (omega arith)) (g (omega arith))

pub past_below : (k i n : ℕ) → i < n → past_one k i < n + 1
past_below k i n h = past_ind (λ y. y < n + 1) k i (λ q. omega arith) (λ q. omega arith)

pub past_up : (k i j : ℕ) → i < j → past_one k i < past_one k j
past_up k i j h = past_ind (λ y. y < past_one k j) k i (λ q. past_ind (λ z. i < z) k j (λ r. h) (λ r. omega arith)) (λ q. past_ind (λ z. i + 1 < z) k j (λ r. absurd (omega arith)) (λ r. omega arith))

pub past_not : (k i : ℕ) → ¬ (past_one k i ≡ k)
past_not k i = past_ind (λ y. ¬ (y ≡ k)) k i (λ q e. omega arith) (λ q e. omega arith)

-- ---- helpers
pub helper_there : (k i v : ℕ) (out helpers : List ℕ) → length out + 1 ≡ length helpers → i < length out → v ≡ past_one k i → v < length helpers
helper_there k i v out helpers e h q = rw q (let b = past_below k i (length out) h in omega arith)

pub helper_fits : (k i v : ℕ) (out helpers : List ℕ) → length out + 1 ≡ length helpers → length helpers ≤ layer_limit → i < length out → v ≡ past_one k i → Fits w64 (v * 4)
helper_fits k i v out helpers e s h q = let b = helper_there k i v out helpers e h q in record { fits = omega arith }

pub left_more : (k i v : ℕ) (out helpers : List ℕ) → ((q : ℕ) → q < i → get_or out q 0 ≡ get_or helpers (past_one k q) 0) → i < length out → v ≡ past_one k i →
    (q : ℕ) → q < i + 1 → get_or (set out i (get_or helpers v 0)) q 0 ≡ get_or helpers (past_one k q) 0
left_more k i v out helpers g h e q l = go (ℕ_discrete q i)
  where
    go : Dec (q ≡ i) → get_or (set out i (get_or helpers v 0)) q 0 ≡ get_or helpers (past_one k q) 0
    go (yes z) = subst (λ y. get_or (set out i (get_or helpers v 0)) y 0 ≡ get_or helpers (past_one k y) 0) (sym z) (get_or-set_same out i (get_or helpers v 0) 0 h ∙ ap (λ y. get_or helpers y 0) e)
    go (no z) = get_or-set_other out i q (get_or helpers v 0) 0 z ∙ g q (omega arith)

-- ---- shares
module _ (k n each : ℕ) (shares out : List ℕ) (low : k ≤ n) (lo : length out ≡ n * each) (ls : length shares ≡ (n + 1) * each) where
  times : k * each ≤ n * each
  times = mul-le-mul_right each low

  over : (n + 1) * each ≡ n * each + 1 * each
  over = add-mul n 1 each

  pub front_in : (0 + k * each ≤ length out) × (0 + k * each ≤ length shares)
  front_in = let t = times in let o = over in (omega arith, omega arith)

  rest : k * each + (n - k) * each ≡ n * each
  rest = sym (add-mul k (n - k) each) ∙ ap (λ y. y * each) (back k n low)
    where
      back : (k n : ℕ) → k ≤ n → k + (n - k) ≡ n
      back k n h = omega arith

  pub shares_left : (out' out'' : List ℕ) → Run (copied shares 0) out out' 0 (k * each) → Run (copied shares ((k + 1) * each)) out' out'' (k * each) ((n - k) * each) → SharesLeft k n each shares out''
  unfolding copied
  shares_left out' out'' a b = record { at = λ i p hi hp. go i p hi hp (dec_lt i k) }
    where
      go : (i p : ℕ) → i < n → p < each → Dec (i < k) → get_or out'' (i * each + p) 0 ≡ get_or shares (past_one k i * each + p) 0
      go i p hi hp (yes q) =
          let r = row_before i k each q in
          b.low (i * each + p) (omega arith)
          ∙ ap (λ y. get_or out' y 0) (nought (i * each + p)) ∙ a.done (i * each + p) (omega arith) ∙ ap (λ y. get_or shares y 0) (sym (nought (i * each + p)))
          ∙ ap (λ y. get_or shares (y * each + p) 0) (past_low k i q)
        where
          nought : (y : ℕ) → y ≡ 0 + y
          nought y = omega arith
      go i p hi hp (no q) =
          let j = i - k in
          let hj : j < n - k = omega arith in
          let r = row_before j (n - k) each hj in
          let here : k + j ≡ i = omega arith in
          let one : k * each + j * each ≡ i * each = sym (add-mul k j each) ∙ ap (λ y. y * each) here in
          let two : (k + 1) * each + j * each ≡ (i + 1) * each = sym (add-mul (k + 1) j each) ∙ ap (λ y. y * each) (shift k i (omega arith)) in
          ap (λ y. get_or out'' y 0) (place (i * each) (k * each) (j * each) p (sym one))
          ∙ b.done (j * each + p) (omega arith)
          ∙ ap (λ y. get_or shares y 0) (sym (place ((i + 1) * each) ((k + 1) * each) (j * each) p (sym two)))
          ∙ ap (λ y. get_or shares (y * each + p) 0) (past_high k i (omega arith))
        where
          place : (a b c p : ℕ) → a ≡ b + c → a + p ≡ b + (c + p)
          place a b c p e = omega arith

          shift : (k i : ℕ) → k ≤ i → k + 1 + (i - k) ≡ i + 1
          shift k i h = omega arith
