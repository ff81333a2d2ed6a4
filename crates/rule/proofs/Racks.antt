-- Racks and trays as parts of a codeword, and the sums over a rack.
-- Assumes nothing.
use mathlib.Core.Path.{◌≡◌, refl, sym, ◌∙◌, ap}
use mathlib.Core.Bool.{Bool, true, false}
use mathlib.Core.List.{List}
use Prim.Native.Nat.{ℕ, ◌+◌, ◌-◌, ◌*◌, ◌<◌}
use native.Mathlib.Nat.{mul_assoc, add-mul, suc-mul, mul-le-mul_right, add_assoc as plus_assoc}
use native.Mathlib.Omega.{arith}
use lib.Dec.{eqb}
use lib.ListN.{length, get_or, drop, length-drop}
use lib.Seq.{get_or-take, get_or-drop, length-take-le}
use Rattle.lists.proofs.Numbers.{cell_in}
use Rattle.algebra.specs.Field.{Ops, Laws}
use Rattle.algebra.specs.Sum.{sum, pow}
use Rattle.algebra.specs.Erasure.{choose}
use Rattle.algebra.specs.Shape.{Field, FieldLaws}
use Rattle.algebra.specs.Points.{place, rack_sum}
use Rattle.algebra.specs.Layers.{group_of}
use Rattle.algebra.specs.Cabinet.{group_sum, share_symbol as wordShare}
use Rattle.algebra.proofs.Ring.{zero_add, add_zero, one_mul}
use Rattle.algebra.proofs.Sum.{sum_congr, sum_add, sum_single}
use Rattle.algebra.proofs.Pow.{pow_zero}
use Rattle.algebra.proofs.Cabinet.{choose_same, choose_other}
use Rattle.layout.specs.declared.Layout.{Layout}
use Rattle.layout.specs.Layout.{trays, digits, layers}
use Rattle.codeword.specs.Codeword.{shape_of, symbol_at}
use Rattle.rule.specs.Rule.{rack_part, tray_part, weighted_sum, share_symbol}

cells : (i u n g j : ℕ) → i * (u * n) + (g * n + j) ≡ (i * u + g) * n + j
cells i u n g j = ap (λ y. y + (g * n + j)) (sym (mul_assoc i u n)) ∙ sym (plus_assoc (i * u * n) (g * n) j) ∙ ap (λ y. y + j) (sym (add-mul (i * u) g n))

module _ (l : Layout) (c : List ℕ) where
  pub tray_at : (x j : ℕ) → j < layers l → get_or (tray_part l c x) j 0 ≡ get_or c (x * layers l + j) 0
  unfolding tray_part
  tray_at x j h = get_or-take (layers l) (drop (x * layers l) c) j 0 h ∙ get_or-drop (x * layers l) c j 0

  pub tray_long : (n x : ℕ) → 0 < layers l → length c ≡ n * layers l → x < n → length (tray_part l c x) ≡ layers l
  unfolding tray_part
  tray_long n x pos e h =
      length-take-le (layers l) (drop (x * layers l) c)
      (rw (length-drop (x * layers l) c, e) (omega (arith, cell_in n (layers l) x (layers l - 1) h (omega arith))))

  pub rack_long : (i : ℕ) → i < l.racks → length c ≡ trays l * layers l → length (rack_part l c i) ≡ l.size * layers l
  unfolding rack_part
  rack_long i h e =
      length-take-le (l.size * layers l) (drop (i * (l.size * layers l)) c)
      (rw (length-drop (i * (l.size * layers l)) c, e, mul_assoc l.racks l.size (layers l))
      (omega (arith, suc-mul i (l.size * layers l), mul-le-mul_right (l.size * layers l) h)))

module _ {A : Type 0} (o : Ops A) (L : Laws o) where
  -- a zeroth power is 1
  pub no_weight : (y a : A) → o.mul (pow o y 0) a ≡ a
  no_weight y a = ap (λ w. o.mul w a) (pow_zero o y) ∙ one_mul o L a

  -- one term, and the others
  split : (t : Bool) (a : A) → a ≡ o.add (choose t a o.zero) (choose t o.zero a)
  unfolding choose
  split true a = sym (add_zero o L a)
  split false a = sym (zero_add o L a)

  pub sum_out : (n k : ℕ) (g : ℕ → A) → k < n → sum o n g ≡ o.add (g k) (sum o n (λ i. choose (eqb i k) o.zero (g i)))
  sum_out n k g h =
      sum_congr o n g _ (λ i l. split (eqb i k) (g i))
      ∙ sum_add o L n (λ i. choose (eqb i k) (g i) o.zero) (λ i. choose (eqb i k) o.zero (g i))
      ∙ ap (λ x. o.add x (sum o n (λ i. choose (eqb i k) o.zero (g i))))
      (sum_single o L n k _ h (λ i l d. choose_other i k (g i) o.zero d) ∙ choose_same k k (g k) o.zero refl)

module _ {A : Type 0} (f : Field A) (l : Layout) where
  open f.ops use {mul, zero}

  -- a symbol of a codeword's rack
  pub rack_at : (c : List ℕ) (i g j : ℕ) → g < l.size → j < layers l → symbol_at f l (rack_part l c i) g j ≡ symbol_at f l c (i * l.size + g) j
  unfolding symbol_at rack_part
  rack_at c i g j hg hj =
      ap f.coding.elem
      (get_or-take (l.size * layers l) (drop (i * (l.size * layers l)) c) (g * layers l + j) 0 (cell_in l.size (layers l) g j hg hj)
      ∙ get_or-drop (i * (l.size * layers l)) c (g * layers l + j) 0
      ∙ ap (λ n. get_or c n 0) (cells i l.size (layers l) g j))

  -- with m = 0 the weighted sum is the plain sum of the rack's symbols
  pub plain_sum : FieldLaws f → (rack : List ℕ) (j : ℕ) → weighted_sum f l 0 rack j ≡ sum f.ops l.size (λ g. symbol_at f l rack g j)
  unfolding weighted_sum
  plain_sum k rack j = sum_congr f.ops l.size _ _ (λ g h. no_weight f.ops k.laws _ _)

  pub group_congr : (h p : ℕ) (a b : ℕ → A) → ((j : ℕ) → j < layers l → a j ≡ b j) → group_sum (shape_of f l) h p a ≡ group_sum (shape_of f l) h p b
  unfolding group_sum
  group_congr h p a b e = sum_congr f.ops (layers l) _ _ (λ j k. ap (λ y. choose (eqb (group_of (digits l) h j) p) y zero) (e j k))

  -- the share of a codeword's rack is that of the abstract code
  pub share_word : (m h : ℕ) (c : List ℕ) (i p : ℕ) → share_symbol f l m h (rack_part l c i) p ≡ wordShare (shape_of f l) m h (symbol_at f l c) i p
  unfolding share_symbol wordShare weighted_sum rack_sum
  share_word m h c i p =
      group_congr h p _ _ (λ j hj. sum_congr f.ops l.size _ _ (λ g hg. ap (mul (pow f.ops (place (shape_of f l) g) m)) (rack_at c i g j hg hj)))
