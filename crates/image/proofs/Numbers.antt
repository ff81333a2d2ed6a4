-- Numbers in bytes, and lists of symbols in bytes.
-- Assumes nothing.
use mathlib.Core.Path.{◌≡◌, refl, sym, ap, ap₂, subst, ◌∙◌}
use mathlib.Core.List.{List, [], ◌∷◌, ◌++◌}
use Prim.Native.Nat.{ℕ, zero, suc, ◌+◌, ◌*◌, ◌/◌, ◌%◌, ◌^◌, ◌<◌}
use native.Mathlib.Nat.{not-suc-le-zero, le_of_suc-le-suc, add-zero, mul-zero, mul-suc, zero-mul, mul_comm, pow-suc, div-lt_iff_lt-mul, div-add-mod, mod-lt, mod-eq_of_lt}
use native.Mathlib.Omega.{arith}
use lib.Dec.{lit<}
use lib.ListN.{length, get_or, drop, length-append, length-drop, get_or-append}
use lib.Seq.{ext_get_or, get_or-append-add, get_or-drop}
use Rattle.lists.specs.Lists.{table}
use Rattle.lists.proofs.Numbers.{cell_in}
use Rattle.lists.proofs.Tables.{table_length, table_at}
use Rattle.image.specs.Image.{little, number_at, symbol_bytes}

pub little_length : (n x : ℕ) → length (little n x) ≡ n
unfolding little
little_length zero x = refl
little_length (suc n) x = ap suc (little_length n (x / 256))

-- the number whose bytes a list holds
pub number_is : (n x at : ℕ) (s : List ℕ) → x < 256 ^ n → ((j : ℕ) → j < n → get_or s (at + j) 0 ≡ get_or (little n x) j 0) → number_at at n s ≡ x
unfolding little
number_is zero x at s h b = omega arith
number_is (suc n) x at s h b =
    let low : get_or s at 0 ≡ x % 256 = ap (λ i. get_or s i 0) (sym (add-zero at)) ∙ b 0 (omega arith) in
    let t : x < 256 ^ n * 256 = rw (sym (pow-suc 256 n)) h in
    let high : number_at (suc at) n s ≡ x / 256 =
    number_is n (x / 256) (suc at) s ((div-lt_iff_lt-mul (lit< tt)).1 t)
    (λ j k. let e : suc at + j ≡ at + suc j = omega arith in ap (λ i. get_or s i 0) e ∙ b (suc j) (omega arith)) in
    omega (arith, low, high)

-- so many bytes of a list from a place on
abbrev pub window : ℕ → ℕ → List ℕ → List ℕ
window at zero s = []
window at (suc n) s = get_or s at 0 ∷ window (suc at) n s

pub window_at : (n at j : ℕ) (s : List ℕ) → j < n → get_or (window at n s) j 0 ≡ get_or s (at + j) 0
window_at zero at j s h = absurd (not-suc-le-zero h)
window_at (suc n) at zero s h = ap (λ i. get_or s i 0) (sym (add-zero at))
window_at (suc n) at (suc j) s h =
    let e : suc at + j ≡ at + suc j = omega arith in
    window_at n (suc at) j s (le_of_suc-le-suc h) ∙ ap (λ i. get_or s i 0) e

-- the number that bytes hold has these bytes
pub bytes_of : (n at : ℕ) (s : List ℕ) → ((j : ℕ) → j < n → get_or s (at + j) 0 < 256) → little n (number_at at n s) ≡ window at n s
unfolding little
bytes_of zero at s byte = refl
bytes_of (suc n) at s byte =
    let m = number_at (suc at) n s in
    let b : get_or s at 0 < 256 = rw (add-zero at) at (byte 0 (omega arith)) in
    let p : (get_or s at 0 + 256 * m) % 256 ≡ get_or s at 0 = omega arith in
    let q : (get_or s at 0 + 256 * m) / 256 ≡ m = omega arith in
    let rest : (j : ℕ) → j < n → get_or s (suc at + j) 0 < 256 = λ j k. let e : at + suc j ≡ suc at + j = omega arith in rw e at (byte (suc j) (omega arith)) in
    rw (p, q) (ap (λ (t : List ℕ). get_or s at 0 ∷ t) (bytes_of n (suc at) s rest))

pub symbols_length : (w : ℕ) (xs : List ℕ) → length (symbol_bytes w xs) ≡ w * length xs
unfolding symbol_bytes
symbols_length w [] = sym (mul-zero w)
symbols_length w (x ∷ xs) =
    omega (arith, length-append (little w x) (symbol_bytes w xs), little_length w x, symbols_length w xs, mul-suc w (length xs))

-- byte j of symbol k
pub symbols_at : (w : ℕ) (xs : List ℕ) (k j : ℕ) → k < length xs → j < w → get_or (symbol_bytes w xs) (w * k + j) 0 ≡ get_or (little w (get_or xs k 0)) j 0
unfolding symbol_bytes
symbols_at w [] k j h b = absurd (not-suc-le-zero h)
symbols_at w (x ∷ xs) zero j h b =
    let e : w * 0 + j ≡ j = omega (arith, mul-zero w) in
    ap (λ i. get_or (little w x ++ symbol_bytes w xs) i 0) e ∙ get_or-append (little w x) (symbol_bytes w xs) 0 j (omega (arith, little_length w x))
symbols_at w (x ∷ xs) (suc k) j h b =
    let e : w * suc k + j ≡ length (little w x) + (w * k + j) = omega (arith, mul-suc w k, little_length w x) in
    ap (λ i. get_or (little w x ++ symbol_bytes w xs) i 0) e
    ∙ get_or-append-add (little w x) (symbol_bytes w xs) (w * k + j) 0
    ∙ symbols_at w xs k j (le_of_suc-le-suc h) b

-- symbols of one byte each are their bytes
pub symbols_one : (xs : List ℕ) → ((k : ℕ) → k < length xs → get_or xs k 0 < 256) → symbol_bytes 1 xs ≡ xs
unfolding symbol_bytes little
symbols_one [] h = refl
symbols_one (x ∷ xs) h = ap₂ ◌∷◌ (mod-eq_of_lt (h 0 (omega arith))) (symbols_one xs (λ k l. h (suc k) (omega arith)))

-- the symbols that lie behind a list, number by number
pub symbols_held_lem : (front : List ℕ) (n w : ℕ) (xs : List ℕ) (k : ℕ) → length front ≡ n → k < length xs → get_or xs k 0 < 256 ^ w
    → number_at (n + w * k) w (front ++ symbol_bytes w xs) ≡ get_or xs k 0
symbols_held_lem front n w xs k e h small =
    number_is w (get_or xs k 0) (n + w * k) (front ++ symbol_bytes w xs) small
    (λ j b.
    let f : n + w * k + j ≡ length front + (w * k + j) = omega arith in
    ap (λ i. get_or (front ++ symbol_bytes w xs) i 0) f ∙ get_or-append-add front (symbol_bytes w xs) (w * k + j) 0 ∙ symbols_at w xs k j h b)

-- a place among w * n is there only if w is not zero
some : (w n i : ℕ) → i < w * n → 0 < w
some zero n i h = absurd (let z = zero-mul n in omega arith)
some (suc w) n i h = omega arith

-- bytes from a place on are those of the symbols that they hold
module _ (w : ℕ) (s : List ℕ) (at n : ℕ) (byte : (i : ℕ) → at + i < length s → get_or s (at + i) 0 < 256) (whole : length s ≡ at + w * n) where
  abbrev found : List ℕ
  found = table (λ k. number_at (at + w * k) w s) n

  inside : (k j : ℕ) → k < n → j < w → w * k + j < w * n
  inside k j h b = omega (arith, cell_in n w k j h b, mul_comm w k, mul_comm w n)

  byte_back : (k j : ℕ) → k < n → j < w → get_or s (at + (w * k + j)) 0 ≡ get_or (symbol_bytes w found) (w * k + j) 0
  byte_back k j h b =
      let long = table_length (λ k. number_at (at + w * k) w s) n in
      let e : at + (w * k + j) ≡ at + w * k + j = omega arith in
      let bytes : (j : ℕ) → j < w → get_or s (at + w * k + j) 0 < 256 =
      λ j b. let q = inside k j h b in let f : at + (w * k + j) ≡ at + w * k + j = omega arith in rw f at (byte (w * k + j) (omega arith)) in
      ap (λ i. get_or s i 0) e
      ∙ sym (window_at w (at + w * k) j s b)
      ∙ ap (λ (t : List ℕ). get_or t j 0) (sym (bytes_of w (at + w * k) s bytes))
      ∙ ap (λ x. get_or (little w x) j 0) (sym (table_at (λ k. number_at (at + w * k) w s) n k h))
      ∙ sym (symbols_at w found k j (omega arith) b)

  pub symbols_back : drop at s ≡ symbol_bytes w found
  symbols_back =
      let long = table_length (λ k. number_at (at + w * k) w s) n in
      let rest : length (drop at s) ≡ w * n = omega (arith, length-drop at s) in
      ext_get_or 0 (drop at s) (symbol_bytes w found) (rest ∙ sym (symbols_length w found ∙ ap (λ m. w * m) long))
      (λ i h. get_or-drop at s i 0 ∙ turn i (omega arith) (some w n i (omega arith)))
    where
      turn : (i : ℕ) → i < w * n → 0 < w → get_or s (at + i) 0 ≡ get_or (symbol_bytes w found) i 0
      turn i h p =
          let k : i / w < n = (div-lt_iff_lt-mul p).1 (omega (arith, mul_comm w n)) in
          subst (λ x. get_or s (at + x) 0 ≡ get_or (symbol_bytes w found) x 0) (div-add-mod i w) (byte_back (i / w) (i % w) k (mod-lt i p))
